-- The parts of a text that `split_once` returns, by their characters: before the first "E" and after it.
use Rattle.std.proofs.Common.{◌≡◌, ℕ, ◌<◌, ◌==◌, Bool, length, take, Option, Some, None, List, [], ◌∷◌, ◌++◌}
use Rattle.std.proofs.Common.{refl, sym, ap, subst, get_or, ◌∙◌, arith, lit<, Bor}
use Rattle.std.specs.Prelude.{option_map}
use Rattle.std.specs.Str.{chars, IsUtf8, NonePass, NoCharPasses}
use Rattle.std.specs.Str.Pattern.{HasCharAt}
use Rattle.std.proofs.lemmas.Str.{chars-append, chars_from_encodes, IsUtf8-take, IsCharBoundary-before_ascii}
use Rattle.std.proofs.lemmas.Str.Pattern.{IsSplitOnceResult, split_parts}
use Rattle.csvw_datatype_core.specs.NumberPatterns.{at_first_e}

abbrev is_e : ℕ → Bool
is_e c = c == 69

abbrev onto_front : ℕ → Option (List ℕ × List ℕ) → Option (List ℕ × List ℕ)
onto_front c o = option_map (λ x. (c ∷ x.0, x.1)) o

found_at : (front rest : List ℕ) → NonePass is_e front → at_first_e (front ++ (69 ∷ rest)) ≡ Some (front, rest)
found_at [] rest p = refl
found_at (c ∷ cs) rest p = let other = p.0 in rw other (ap (onto_front c) (found_at cs rest p.1))

none_in : (cs : List ℕ) → NonePass is_e cs → at_first_e cs ≡ None
none_in [] p = refl
none_in (c ∷ cs) p = let other = p.0 in rw other (ap (onto_front c) (none_in cs p.1))

-- the characters of a text that begins with "E"
chars_at_e : (bs : List ℕ) → chars (69 ∷ bs) ≡ 69 ∷ chars bs
unfolding chars
chars_at_e [] = refl
chars_at_e (b ∷ bs) = refl

-- a part before an "E" is a text
is_text : (bs : List ℕ) (i : ℕ) → IsUtf8 bs → i < length bs → get_or bs i 0 ≡ 69 → IsUtf8 (take i bs)
is_text bs i u low e = IsUtf8-take bs i u (IsCharBoundary-before_ascii bs i low (omega (arith, e)))

around : (bs front rest : List ℕ) → bs ≡ front ++ (69 ∷ rest) → IsUtf8 front → NoCharPasses is_e front → Some (chars front, chars rest) ≡ at_first_e (chars bs)
around bs front rest e u p =
    let same : p.0 ≡ chars front = chars_from_encodes p.0 front u p.1 in
    let all : chars bs ≡ p.0 ++ (69 ∷ chars rest) = ap chars e ∙ chars-append front (69 ∷ rest) u ∙ ap (λ cs. chars front ++ cs) (chars_at_e rest)
    ∙ ap (λ cs. cs ++ (69 ∷ chars rest)) (sym same) in
    sym (ap at_first_e all ∙ found_at p.0 (chars rest) p.2 ∙ ap (λ cs. Some (cs, chars rest)) same)

pub parts_are : (bs : List ℕ) (o : Option (Bor (List ℕ) × Bor (List ℕ))) → IsUtf8 bs → IsSplitOnceResult 69 bs o
    → option_map (λ x. (chars x.0.now, chars x.1.now)) o ≡ at_first_e (chars bs)
parts_are bs None u h = sym (ap at_first_e (sym (chars_from_encodes h.0 bs u h.1)) ∙ none_in h.0 h.2)
parts_are bs (Some x) u h =
    let parts = split_parts 69 bs (Some x) h (lit< tt) in
    let found : HasCharAt 69 bs h.0 h.1 = h.2.1 in
    let byte : get_or bs h.0 0 ≡ 69 = found.byte (lit< tt) in
    let low : h.0 < length bs = omega (arith, found.ends, h.7) in
    let text : IsUtf8 x.0.now = subst IsUtf8 (sym h.3) (is_text bs h.0 u low byte) in
    around bs x.0.now x.1.now parts.0 text (subst (NoCharPasses is_e) (sym h.3) h.2.0)
