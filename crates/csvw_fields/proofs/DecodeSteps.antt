-- Characters that are taken off a text one by one.
use Rattle.std.proofs.Common.{◌≡◌, ◌∙◌, ℕ, ◌+◌, ◌-◌, ◌≤◌, Option, Some, None, List, [], ◌∷◌, ◌++◌, length, take, drop, refl, sym, ap, arith}
use Rattle.std.proofs.Common.{length-append, chars}
use Rattle.std.specs.Prelude.{IsUtf8, encode_utf8, encode_utf8_all, MatchOption}
use Rattle.std.proofs.lemmas.Grind.{common_steps}
use Rattle.std.proofs.lemmas.List.{take-append-drop, drop-drop}
use Rattle.std.proofs.lemmas.Str.{cons_from_encodes, encodes-append, encodes-chars, length-le-encodes}

drop_one : (cs es : List ℕ) (i c : ℕ) → drop i cs ≡ c ∷ es → drop (i + 1) cs ≡ es
drop_one cs es i c e = sym (drop-drop 1 i cs) ∙ ap (drop 1) e

pub one_off : (cs rest : List ℕ) (i c : ℕ) → encode_utf8_all (drop i cs) ≡ encode_utf8 c ++ rest → rest ≡ encode_utf8_all (drop (i + 1) cs)
one_off cs rest i c e =
    let h = cons_from_encodes (drop i cs) rest c e in
    sym h.2 ∙ ap encode_utf8_all (sym (drop_one cs h.0 i c h.1))

empty_drop : (cs : List ℕ) (i : ℕ) → drop i cs ≡ [] → drop (i + 1) cs ≡ []
empty_drop cs i e = sym (drop-drop 1 i cs) ∙ ap (drop 1) e

pub none_off : (cs rest : List ℕ) (i : ℕ) → rest ≡ encode_utf8_all (drop i cs) → length rest ≡ 0 → rest ≡ encode_utf8_all (drop (i + 1) cs)
none_off cs rest i e h = by_rest (drop i cs) refl
  where
    empty : (l : List ℕ) → length l ≡ 0 → l ≡ []
    empty [] z = refl
    empty (x ∷ xs) z = absurd (omega (arith, z))

    by_rest : (d : List ℕ) → drop i cs ≡ d → rest ≡ encode_utf8_all (drop (i + 1) cs)
    by_rest [] z = empty rest h ∙ ap encode_utf8_all (sym (empty_drop cs i z))
    by_rest (c ∷ es) z = let k = length-le-encodes (c ∷ es) in absurd (omega (arith, k, ap length (e ∙ ap encode_utf8_all z), h))

-- what is left is the end of the text
pub front_is : (text rest : List ℕ) (n : ℕ) → IsUtf8 text → rest ≡ encode_utf8_all (drop n (chars text))
    → (length rest ≤ length text) × (drop (length text - length rest) text ≡ rest)
front_is text rest n u e =
    let front = encode_utf8_all (take n (chars text)) in
    let all : text ≡ front ++ rest = sym (encodes-chars text u) ∙ ap encode_utf8_all (sym (take-append-drop n (chars text)))
    ∙ encodes-append (take n (chars text)) (drop n (chars text)) ∙ ap (λ l. front ++ l) (sym e) in
    ((let k = ap length all in omega (arith, k, length-append front rest)), behind front rest text all)
  where
    behind : (front rest text : List ℕ) → text ≡ front ++ rest → drop (length text - length rest) text ≡ rest
    behind front rest text e = grind (arith, common_steps)

-- one step of the characters of a text
pub steps_off : {S : Type 0} (left : S → List ℕ) (cs : List ℕ) (s t : S) (r : Option ℕ) (i : ℕ)
    → MatchOption r ((length (left s) ≡ 0) × (t ≡ s)) (λ c. left s ≡ encode_utf8 c ++ left t)
    → left s ≡ encode_utf8_all (drop i cs) → left t ≡ encode_utf8_all (drop (i + 1) cs)
steps_off left cs s t None i h e = ap left h.1 ∙ none_off cs (left s) i e h.0
steps_off left cs s t (Some c) i h e = one_off cs (left t) i c (sym e ∙ h)
