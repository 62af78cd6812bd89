-- The digits that a text begins with are digits, and the number of at most 9 digits is below 10^9. Trimmed digits are digits. These
-- need induction, which the search doesn't try.
use Rattle.std.proofs.Common.{◌≡◌, ℕ, ◌+◌, ◌-◌, ◌*◌, ◌<◌, ◌≤◌, ◌^◌, ◌==◌, Bool, true, false, cond, List, [], ◌∷◌, ◌++◌, length, take, get_or, refl, ap, subst, ◌∙◌, arith, zero, suc}
use Rattle.std.specs.Char.{is_ascii_digit, digit_value}
use Rattle.std.specs.Int.{IsInRange}
use Rattle.std.specs.List.{prefix_len}
use Rattle.std.specs.Str.{IsAscii}
use Rattle.std.specs.Str.Parse.{AllDigits, digits_value}
use Rattle.std.proofs.lemmas.Bool.Decides.{nat_tests}
use Rattle.std.proofs.lemmas.Str.{digit_value_digit}
use Rattle.std.proofs.lemmas.Str.Parse.{IsNumeralModel, digits_value_short, digits_value-take-le, digit_at}
use Rattle.std.proofs.lemmas.Int.Digits.{digits_value_more}
use Rattle.csvw_duration.specs.Digits.{IsFraction, first_digits, with_first, trimmed}

value_below : (b : ℕ) → is_ascii_digit b ≡ true → digit_value b < 10
value_below b e =
    let r : IsInRange 48 57 b = grind (arith, nat_tests) in
    omega (arith, r, digit_value_digit b r)

first_by : (b : ℕ) (bs : List ℕ) (d : Bool) → is_ascii_digit b ≡ d → AllDigits 10 (first_digits bs)
    → AllDigits 10 (take (cond d (1 + prefix_len is_ascii_digit bs) 0) (b ∷ bs))
first_by b bs true e h =
    let n = prefix_len is_ascii_digit bs in
    let P : ℕ → Type 0 = λ k. AllDigits 10 (take k (b ∷ bs)) in
    let one : suc n ≡ 1 + n = omega arith in
    subst P one (value_below b e, h)
first_by b bs false e h = tt

pub digits_first : (bs : List ℕ) → AllDigits 10 (first_digits bs)
digits_first [] = tt
digits_first (b ∷ bs) = first_by b bs (is_ascii_digit b) refl (digits_first bs)

-- as many items from the front as the front has are the front
pub front_again : (n : ℕ) (xs : List ℕ) → take (length (take n xs)) xs ≡ take n xs
front_again zero xs = refl
front_again (suc n) [] = refl
front_again (suc n) (x ∷ xs) = ap (λ l. x ∷ l) (front_again n xs)

own : IsNumeralModel (AllDigits 10) (digits_value 10)
own = record { to = λ ds h. h; from = λ ds h. h; same = λ ds h. refl }

pub number_small : (ds : List ℕ) → AllDigits 10 ds → length ds ≤ 9 → digits_value 10 ds < 10 ^ 9
number_small ds h l = digits_value_short own ds 9 h l

-- so is the number of its first digits
pub front_small : (ds : List ℕ) (i : ℕ) → AllDigits 10 ds → length ds ≤ 9 → digits_value 10 (take i ds) < 10 ^ 9
front_small ds i h l = omega (arith, number_small ds h l, digits_value-take-le 10 ds i (omega arith))

-- one more digit
pub more : (ds : List ℕ) (i : ℕ) → AllDigits 10 ds → i < length ds
    → digits_value 10 (take (i + 1) ds) ≡ digits_value 10 (take i ds) * 10 + (get_or ds i 0 - 48)
more ds i h l =
    let r = digit_at ds i h l in
    omega (arith, digits_value_more 10 ds i l, digit_value_digit (get_or ds i 0) r, r)

front_ascii : (xs ys : List ℕ) → IsAscii (xs ++ ys) → (i : ℕ) → get_or xs i 0 < 128
front_ascii [] ys h i = omega arith
front_ascii (x ∷ xs) ys h zero = h 0
front_ascii (x ∷ xs) ys h (suc i) = front_ascii xs ys (λ k. h (suc k)) i

pub front_is_ascii : (xs ys : List ℕ) → IsAscii (xs ++ ys) → IsAscii xs
front_is_ascii xs ys h = front_ascii xs ys h

-- a zero at the end is left out
pub trimmed_zero : (ds : List ℕ) → trimmed (ds ++ (48 ∷ [])) ≡ trimmed ds
trimmed_zero [] = refl
trimmed_zero (d ∷ ds) = ap (λ l. with_first d l) (trimmed_zero ds)

-- another digit at the end stays
with_more : (d c : ℕ) (ds : List ℕ) → with_first d (ds ++ (c ∷ [])) ≡ d ∷ (ds ++ (c ∷ []))
with_more d c [] = refl
with_more d c (e ∷ es) = refl

pub trimmed_other : (c : ℕ) (ds : List ℕ) → (c == 48) ≡ false → trimmed (ds ++ (c ∷ [])) ≡ ds ++ (c ∷ [])
trimmed_other c [] h = rw h refl
trimmed_other c (d ∷ ds) h = ap (λ l. with_first d l) (trimmed_other c ds h) ∙ with_more d c ds

-- trimmed digits are digits, and no more of them
kept_digit : (d : ℕ) (b : Bool) → digit_value d < 10 → AllDigits 10 (cond b [] (d ∷ []))
kept_digit d true h = tt
kept_digit d false h = (h, tt)

kept_length : (d : ℕ) (b : Bool) → length (cond b [] (d ∷ [])) ≤ 1
kept_length d true = omega arith
kept_length d false = omega arith

first_kept : (d : ℕ) (ds : List ℕ) → digit_value d < 10 → AllDigits 10 ds → AllDigits 10 (with_first d ds)
first_kept d [] h k = kept_digit d (d == 48) h
first_kept d (e ∷ es) h k = (h, k)

first_length : (d : ℕ) (ds : List ℕ) → length (with_first d ds) ≤ 1 + length ds
first_length d [] = omega (arith, kept_length d (d == 48))
first_length d (e ∷ es) = omega arith

trimmed_digits : (ds : List ℕ) → AllDigits 10 ds → AllDigits 10 (trimmed ds)
trimmed_digits [] h = tt
trimmed_digits (d ∷ ds) h = first_kept d (trimmed ds) h.0 (trimmed_digits ds h.1)

trimmed_length : (ds : List ℕ) → length (trimmed ds) ≤ length ds
trimmed_length [] = omega arith
trimmed_length (d ∷ ds) = omega (arith, first_length d (trimmed ds), trimmed_length ds)

pub trimmed_fraction : (ds : List ℕ) → IsFraction ds → IsFraction (trimmed ds)
trimmed_fraction ds h = (trimmed_digits ds h.0, omega (arith, trimmed_length ds, h.1))
