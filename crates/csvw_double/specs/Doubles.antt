-- The value of a double's text (XML Schema Part 2, section 3.3.5; Model for Tabular Data, section 6.4.2).
use Rattle.std.specs.Prelude.{◌≡◌, ℕ, ◌^◌, ◌==◌, ◌&&◌, ◌||◌, nat_lt, int_lt, ◌<◌, ◌≤◌, Bool, true, false, List, [], ◌∷◌, ◌++◌, length, if◌then◌else◌, ℤ}
use Rattle.std.specs.Prelude.{pos, neg_ℤ, ◌+ℤ◌, ◌-ℤ◌, ◌≤ℤ◌}
use Rattle.std.specs.Float.Numeral.{Parts, scan_numeral, has_digits}
use Rattle.std.specs.Str.Parse.{digits_value}
use Rattle.csvw_double.specs.declared.numeral.DoubleFault.{DoubleFault}
use Rattle.csvw_double.specs.declared.numeral.DoubleFault.TheVariants.{Bad, TooLong}
use Rattle.csvw_double.specs.declared.numeral.Number.{Number}
use Rattle.csvw_double.specs.Digits.{after_zeros, before_zeros}

abbrev pub is_negative : List ℕ → Bool
is_negative [] = false
is_negative (c ∷ cs) = c == 45

-- the text after a sign, if it begins with one
abbrev pub after_sign : List ℕ → List ℕ
after_sign [] = []
after_sign (c ∷ cs) = if c == 43 || c == 45 then cs else c ∷ cs

-- the parts of a number's text after its sign: digits, perhaps a point and digits, perhaps an exponent
abbrev pub parts_of : List ℕ → Parts
parts_of text = scan_numeral (after_sign text)

-- the text is a number: these parts are all that follows the sign, and a digit is before the exponent
abbrev pub is_number : List ℕ → Bool
is_number text = (parts_of text).len == length (after_sign text) && has_digits (parts_of text)

-- the exponent that a text writes, or 0 if it writes none
abbrev pub exponent_of : Parts → ℤ
exponent_of p = if p.exponent_negative then neg_ℤ (pos (digits_value 10 p.exponent)) else pos (digits_value 10 p.exponent)

-- an exponent of at most 18 digits
abbrev pub IsShortExponent : ℤ → Type 0
IsShortExponent exponent = (neg_ℤ (pos (10 ^ 18)) ≤ℤ exponent) × (exponent ≤ℤ pos (10 ^ 18))

-- the digits of a number from the first that isn't 0
abbrev pub digits_from_first : Parts → List ℕ
digits_from_first p = after_zeros (p.whole ++ p.fraction)

-- the same up to the last that isn't 0; a number that is 0 has none
abbrev pub digits_of : Parts → List ℕ
digits_of p = before_zeros (digits_from_first p)

-- how many places the point is after the start of these digits, once the exponent has moved it: the number is 0.DIGITS times 10
-- to this power
abbrev pub point_of : Parts → ℤ
point_of p = (exponent_of p -ℤ pos (length p.fraction)) +ℤ pos (length (digits_from_first p))

-- 10 to this power is at most the number, and ten times that is more: the exponent of a number that is written with one digit before
-- the point
abbrev pub power_of : Parts → ℤ
power_of p = point_of p -ℤ pos 1

abbrev pub is_within : ℤ → Bool
is_within power = int_lt (neg_ℤ (pos (10 ^ 18))) power && int_lt power (pos (10 ^ 18))

-- the exponent has at most 18 digits, also if the number is written with one digit before the point
abbrev pub is_short : List ℕ → Bool
is_short text = nat_lt (digits_value 10 (parts_of text).exponent) (10 ^ 18) && is_within (power_of (parts_of text))

-- why a text isn't a number
abbrev pub IsFaultOf : List ℕ → DoubleFault → Type 0
IsFaultOf text Bad = is_number text ≡ false
IsFaultOf text TooLong = (is_number text ≡ true) × (is_short text ≡ false)

-- why a text has no parts of a number
abbrev pub IsUnread : List ℕ → DoubleFault → Type 0
IsUnread text Bad = is_number text ≡ false
IsUnread text TooLong = (is_number text ≡ true) × (10 ^ 18 ≤ digits_value 10 (parts_of text).exponent)

-- the parts of a number's text, with its exponent
pub record IsNumeralOf (text : List ℕ) (found : Number) : Type 0 where
  pub number : is_number text ≡ true
  pub short : digits_value 10 (parts_of text).exponent < 10 ^ 18
  pub parts : found.numeral ≡ parts_of text
  pub exponent : found.exponent ≡ exponent_of (parts_of text)
