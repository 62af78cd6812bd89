-- A leap year has a day more than the year 1 from the end of February on, which needs induction, and the search doesn't try that. A
-- clause on the bits of a number holds of the number.
use Rattle.std.proofs.Common.{◌≡◌, ℕ, zero, suc, ◌+◌, ◌<◌, ◌≤◌, ◌==◌, Bool, true, false, refl, ap, sym, ◌∙◌, arith}
use Rattle.std.proofs.Common.{ℤ, pos, to_z, of_z, to_z-of_z, w64, FitsSigned}
use Rattle.std.proofs.lemmas.Bool.Decides.{nat_tests}
use Rattle.std.specs.Int.{int_div_euclid}
use Rattle.jiff_core.specs.Calendar.{is_leap_year, days_in_month, days_of_months}

-- the year 1 has 365 days
pub common_year : (y : ℤ) → is_leap_year y ≡ false → (n : ℕ) → days_of_months y n ≡ days_of_months (pos 1) n
unfolding days_of_months
common_year y h zero = refl
common_year y h (suc n) = rw (common_year y h n, h) refl

-- the other months have as many days in each year
other_month : (y z : ℤ) (n : ℕ) → days_in_month y (suc (suc (suc n))) ≡ days_in_month z (suc (suc (suc n)))
other_month y z n =
    let other : (suc (suc (suc n)) == 2) ≡ false = grind (arith, nat_tests) in
    rw other refl

after_february : (y : ℤ) → is_leap_year y ≡ true → (n : ℕ) → days_of_months y (suc (suc n)) ≡ days_of_months (pos 1) (suc (suc n)) + 1
unfolding days_of_months
after_february y h zero = rw h refl
after_february y h (suc n) = omega (arith, after_february y h n, other_month y (pos 1) n)

pub leap_year : (y : ℤ) (n : ℕ) → is_leap_year y ≡ true → 1 < n → days_of_months (pos 1) n + 1 ≡ days_of_months y n
leap_year y zero h less = absurd (omega (arith, less))
leap_year y (suc zero) h less = absurd (omega (arith, less))
leap_year y (suc (suc n)) h less = sym (after_february y h n)

pub before_march : (y : ℤ) (n : ℕ) → n ≤ 1 → days_of_months (pos 1) n ≡ days_of_months y n
unfolding days_of_months
before_march y zero h = refl
before_march y (suc zero) h = refl
before_march y (suc (suc n)) h = absurd (omega (arith, h))

-- what a call's clause says of the bits of a number
pub leap_is : (y : ℤ) (b : Bool) → FitsSigned w64 y → b ≡ is_leap_year (to_z w64 (of_z w64 y)) → is_leap_year y ≡ b
leap_is y b fits e = ap (λ z. is_leap_year z) (sym (to_z-of_z fits)) ∙ sym e

pub quotient : (k : ℕ) (z r : ℤ) → FitsSigned w64 z → r ≡ int_div_euclid (to_z w64 (of_z w64 z)) (pos k) → r ≡ int_div_euclid z (pos k)
quotient k z r fits e = grind (arith, to_z-of_z)
