-- The number that a text writes, as a whole number times a power of ten, and when two such numbers are one (XML Schema Part 2,
-- section 3.3.5.1).
use Rattle.std.specs.Prelude.{◌≡◌, ℕ, ◌^◌, List, length, if◌then◌else◌, ℤ, pos, neg_ℤ, ◌+ℤ◌, ◌-ℤ◌, ◌*ℤ◌}
use Rattle.std.specs.Float.Numeral.{numeral_digits}
use Rattle.csvw_double.specs.Doubles.{exponent_of, is_negative, parts_of}

-- the whole number of a text's digits, with its sign
abbrev pub coefficient_of : List ℕ → ℤ
coefficient_of text = if is_negative text then neg_ℤ (pos (numeral_digits (parts_of text))) else pos (numeral_digits (parts_of text))

-- the power of ten of the last digit
abbrev pub scale_of : List ℕ → ℤ
scale_of text = exponent_of (parts_of text) -ℤ pos (length (parts_of text).fraction)

-- two texts write one number: their digits are equal, once they are counted at a power of ten that is at most both
pub record IsOneNumber (s t : List ℕ) : Type 0 where
  pub power : ℤ
  pub i : ℕ
  pub j : ℕ
  pub first : scale_of s ≡ power +ℤ pos i
  pub second : scale_of t ≡ power +ℤ pos j
  pub equal : coefficient_of s *ℤ pos (10 ^ i) ≡ coefficient_of t *ℤ pos (10 ^ j)
