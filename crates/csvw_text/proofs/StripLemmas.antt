-- Texts without the white space at their start and end.
use Rattle.std.proofs.Common.{◌≡◌, ◌∙◌, ℕ, ◌+◌, ◌-◌, ◌≤◌, true, false, List, [], ◌∷◌, ◌++◌, length, take, drop, reverse, refl, sym, ap, subst, arith}
use Rattle.std.proofs.Common.{length-append, append-nil, chars}
use Rattle.std.specs.Prelude.{IsUtf8, encode_utf8}
use Rattle.std.proofs.lemmas.Grind.{common_steps}
use Rattle.std.proofs.lemmas.List.{drop-drop}
use Rattle.std.proofs.lemmas.Str.{IsUtf8-drop, IsCharBoundary-from_take, chars-append, chars-nil, chars_past_char}
use Rattle.csvw_text.specs.Class.{is_white_char}
use Rattle.csvw_text.specs.Strip.{strip_start, strip_end}

one_char : (text : List ℕ) (c : ℕ) → IsUtf8 text → text ≡ encode_utf8 c → chars text ≡ c ∷ []
one_char text c u e = chars_past_char text [] c u (e ∙ sym (append-nil (encode_utf8 c))) ∙ ap (λ l. c ∷ l) chars-nil

pub no_chars : (l : List ℕ) → length l ≡ 0 → chars l ≡ []
no_chars [] e = chars-nil
no_chars (x ∷ xs) e = absurd (omega (arith, e))

pub take_whole : (l : List ℕ) → take (length l) l ≡ l
take_whole l = grind (arith, common_steps)

-- what is left of a text whose front was read on
pub back_more : (text rest code behind : List ℕ) → length rest ≤ length text → drop (length text - length rest) text ≡ rest → rest ≡ code ++ behind
    → (length behind ≤ length text) × (drop (length text - length behind) text ≡ behind)
back_more text rest code behind h e f =
    let long = ap length f in
    let k : length behind ≤ length text = omega (arith, h, long, length-append code behind) in
    let n : length text - length behind ≡ (length text - length rest) + length code = omega (arith, h, long, length-append code behind) in
    (k, ap (λ m. drop m text) n ∙ sym (drop-drop (length code) (length text - length rest) text) ∙ ap (drop (length code)) (e ∙ f) ∙ past code behind)
  where
    past : (a b : List ℕ) → drop (length a) (a ++ b) ≡ b
    past a b = grind (arith, common_steps)

pub start_stays : (c : ℕ) (cs : List ℕ) → is_white_char c ≡ false → strip_start (c ∷ cs) ≡ c ∷ cs
start_stays c cs e = rw e refl

pub start_goes : (c : ℕ) (cs : List ℕ) → is_white_char c ≡ true → strip_start (c ∷ cs) ≡ strip_start cs
start_goes c cs e = rw e refl

turned : (cs : List ℕ) (c : ℕ) → reverse (cs ++ c ∷ []) ≡ c ∷ reverse cs
turned cs c = grind (arith, common_steps)

turned_twice : (cs : List ℕ) (c : ℕ) → reverse (c ∷ reverse cs) ≡ cs ++ c ∷ []
turned_twice cs c = grind (arith, common_steps)

pub end_stays : (cs : List ℕ) (c : ℕ) → is_white_char c ≡ false → strip_end (cs ++ c ∷ []) ≡ cs ++ c ∷ []
end_stays cs c e = ap (λ l. reverse (strip_start l)) (turned cs c) ∙ ap reverse (start_stays c (reverse cs) e) ∙ turned_twice cs c

pub end_goes : (cs : List ℕ) (c : ℕ) → is_white_char c ≡ true → strip_end (cs ++ c ∷ []) ≡ strip_end cs
end_goes cs c e = ap (λ l. reverse (strip_start l)) (turned cs c) ∙ ap reverse (start_goes c (reverse cs) e)

-- the last character of a text
pub last_char : (text before : List ℕ) (c : ℕ) → IsUtf8 text → IsUtf8 before → text ≡ before ++ encode_utf8 c → chars text ≡ chars before ++ c ∷ []
last_char text before c u v e =
    let front : take (length before) text ≡ before = ap (take (length before)) e ∙ fronts before (encode_utf8 c) in
    let back : drop (length before) text ≡ encode_utf8 c = ap (drop (length before)) e ∙ backs before (encode_utf8 c) in
    let h : length before ≤ length text = (let k = ap length e in omega (arith, k, length-append before (encode_utf8 c))) in
    let w : IsUtf8 (encode_utf8 c) = subst IsUtf8 back
    (IsUtf8-drop text (length before) u (IsCharBoundary-from_take text (length before) u h (subst IsUtf8 (sym front) v))) in
    ap chars e ∙ chars-append before (encode_utf8 c) v ∙ ap (λ l. chars before ++ l) (one_char (encode_utf8 c) c w refl)
  where
    fronts : (a b : List ℕ) → take (length a) (a ++ b) ≡ a
    fronts a b = grind (arith, common_steps)

    backs : (a b : List ℕ) → drop (length a) (a ++ b) ≡ b
    backs a b = grind (arith, common_steps)

pub front_less : (text rest before code : List ℕ) → length rest ≤ length text → take (length rest) text ≡ rest → rest ≡ before ++ code
    → (length before ≤ length text) × (take (length before) text ≡ before)
front_less text rest before code h e f =
    let k = ap length f in (
      omega (arith, h, k, length-append before code),
      shorter text (length before) (length rest) (omega (arith, k, length-append before code))
          ∙ ap (take (length before)) (e ∙ f) ∙ fronts before code,
    )
  where
    shorter : (l : List ℕ) (m n : ℕ) → m ≤ n → take m l ≡ take m (take n l)
    shorter l m n h = grind (arith, common_steps)

    fronts : (a b : List ℕ) → take (length a) (a ++ b) ≡ a
    fronts a b = grind (arith, common_steps)
