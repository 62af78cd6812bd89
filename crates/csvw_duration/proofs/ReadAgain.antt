-- A field that is written as in a canonical text is read again, and other fields aren't read there.
use Rattle.std.proofs.Common.{◌≡◌, ℕ, ◌<◌, ◌≤◌, ◌^◌, ◌==◌, Bool, true, false, cond, if◌then◌else◌, Option, Some, None, List, [], ◌∷◌, ◌++◌}
use Rattle.std.proofs.Common.{length, take, drop, refl, ap, sym, ◌∙◌, arith, append_assoc}
use Rattle.std.specs.Char.{is_ascii_digit, digit_value}
use Rattle.std.specs.Fmt.{decimal}
use Rattle.std.specs.Int.{IsInRange}
use Rattle.std.specs.List.{prefix_len}
use Rattle.std.specs.Str.Parse.{AllDigits, digits_value}
use Rattle.std.proofs.Math.Seq.{take-append_seam, drop-append_seam}
use Rattle.std.proofs.lemmas.Bool.{cond-true}
use Rattle.std.proofs.lemmas.Bool.Decides.{nat_tests}
use Rattle.std.proofs.lemmas.Fmt.{decimal_is_IsNumeral, length-decimal-le}
use Rattle.std.proofs.lemmas.Str.Parse.{digit_from_value}
use Rattle.csvw_duration.specs.Digits.{option_view, first_digits, is_short, digits_at, number_at}
use Rattle.csvw_duration.specs.Values.{found_field, read_field, field}
use Rattle.csvw_duration.specs.Forms.{amount}

abbrev pub NotDigit : ℕ → Type 0
NotDigit b = is_ascii_digit b ≡ false

is_digit : (c : ℕ) → digit_value c < 10 → is_ascii_digit c ≡ true
is_digit c h = let r : IsInRange 48 57 c = digit_from_value c h in grind (arith, nat_tests)

front_len : (ds : List ℕ) (b : ℕ) (bs : List ℕ) → AllDigits 10 ds → NotDigit b → prefix_len is_ascii_digit (ds ++ b ∷ bs) ≡ length ds
front_len [] b bs h e = rw e refl
front_len (d ∷ ds) b bs h e = rw (is_digit d h.0, front_len ds b bs h.1 e) (omega arith)

abbrev split_by : List ℕ → List ℕ → Option (List ℕ × List ℕ)
split_by ds bs = if is_short (length ds) then Some (ds, drop (length ds) bs) else None

-- digits in front of another byte are read again
pub digits_again : (ds : List ℕ) (b : ℕ) (bs : List ℕ) → AllDigits 10 ds → 0 < length ds → length ds ≤ 9 → NotDigit b
    → digits_at (ds ++ b ∷ bs) ≡ Some (ds, b ∷ bs)
digits_again ds b bs h low high e =
    let front : first_digits (ds ++ b ∷ bs) ≡ ds = ap (λ n. take n (ds ++ b ∷ bs)) (front_len ds b bs h e) ∙ take-append_seam ds (b ∷ bs) in
    let short : is_short (length ds) ≡ true = grind (arith, nat_tests) in
    ap (λ l. split_by l (ds ++ b ∷ bs)) front ∙ cond-true (is_short (length ds)) _ _ short
    ∙ ap (λ (l : List ℕ). Some (ds, l)) (drop-append_seam ds (b ∷ bs))

pub number_again : (n b : ℕ) (bs : List ℕ) → n < 10 ^ 9 → NotDigit b → number_at (decimal n ++ b ∷ bs) ≡ Some (n, b ∷ bs)
number_again n b bs h e =
    let d = decimal_is_IsNumeral n (omega (arith, h)) in
    ap (option_view (λ (x : List ℕ × List ℕ). (digits_value 10 x.0, x.1)))
    (digits_again (decimal n) b bs d.0.1 d.0.0 (length-decimal-le 9 n (omega arith) h (omega (arith, h))) e)
    ∙ ap (λ (k : ℕ). Some (k, b ∷ bs)) d.1

-- a number and its letter
read_is : (letter n : ℕ) (rest : List ℕ) → (letter == letter) ≡ true → n < 10 ^ 9 → NotDigit letter
    → read_field letter (decimal n ++ letter ∷ rest) ≡ Some (n, rest)
unfolding read_field
read_is letter n rest same h e = rw (number_again n letter rest h e, same) refl

-- a number and another byte
pub read_other : (letter other n : ℕ) (rest : List ℕ) → (other == letter) ≡ false → n < 10 ^ 9 → NotDigit other
    → read_field letter (decimal n ++ other ∷ rest) ≡ None
unfolding read_field
read_other letter other n rest other_is h e = rw (number_again n other rest h e, other_is) refl

pub none_at_byte : (letter b : ℕ) (bs : List ℕ) → NotDigit b → read_field letter (b ∷ bs) ≡ None
unfolding read_field
none_at_byte letter b bs e = rw e refl

pub none_at_end : (letter : ℕ) → read_field letter [] ≡ None
unfolding read_field
none_at_end letter = refl

abbrev amount_by : Bool → ℕ → ℕ → List ℕ
amount_by b n letter = cond b [] (decimal n ++ letter ∷ [])

is_nothing : (n : ℕ) → (n == 0) ≡ true → n ≡ 0
is_nothing n e = grind (arith, nat_tests)

field_by : (b : Bool) (letter n : ℕ) (rest : List ℕ) → (n == 0) ≡ b → (letter == letter) ≡ true → n < 10 ^ 9 → NotDigit letter
    → read_field letter rest ≡ None → field letter (amount_by b n letter ++ rest) ≡ (n, rest)
field_by true letter n rest zero_is same h e none = ap (found_field rest) none ∙ ap (λ (k : ℕ). (k, rest)) (sym (is_nothing n zero_is))
field_by false letter n rest zero_is same h e none =
    ap (λ l. field letter l) (append_assoc (decimal n) (letter ∷ []) rest)
    ∙ ap (found_field (decimal n ++ letter ∷ rest)) (read_is letter n rest same h e)

pub amount_field : (letter n : ℕ) (rest : List ℕ) → (letter == letter) ≡ true → n < 10 ^ 9 → NotDigit letter
    → read_field letter rest ≡ None → field letter (amount n (letter ∷ []) ++ rest) ≡ (n, rest)
amount_field letter n rest same h e none = field_by (n == 0) letter n rest refl same h e none

skips_by : (b : Bool) (letter other n : ℕ) (rest : List ℕ) → (other == letter) ≡ false → n < 10 ^ 9 → NotDigit other
    → read_field letter rest ≡ None → read_field letter (amount_by b n other ++ rest) ≡ None
skips_by true letter other n rest other_is h e none = none
skips_by false letter other n rest other_is h e none =
    ap (λ l. read_field letter l) (append_assoc (decimal n) (other ∷ []) rest) ∙ read_other letter other n rest other_is h e

pub amount_skips : (letter other n : ℕ) (rest : List ℕ) → (other == letter) ≡ false → n < 10 ^ 9 → NotDigit other
    → read_field letter rest ≡ None → read_field letter (amount n (other ∷ []) ++ rest) ≡ None
amount_skips letter other n rest other_is h e none = skips_by (n == 0) letter other n rest other_is h e none
