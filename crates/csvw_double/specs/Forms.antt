-- The one text of a double's value: a number in digits alone, or with an exponent below 10^-6 and from 10^21 (XML Schema
-- Part 2, sections 3.3.4.2 and 3.3.5.2).
use Rattle.std.specs.Prelude.{◌≡◌, ℕ, zero, suc, ◌-◌, ◌^◌, ◌≤ℤ◌, ◌&&◌, nat_lt, int_le, Bool, true, false, Option, Some, None, List, [], ◌∷◌, ◌++◌, take}
use Rattle.std.specs.Prelude.{drop, replicate, length, codes}
use Rattle.std.specs.Prelude.{if◌then◌else◌, ℤ, pos, negsuc, neg_ℤ, ◌-ℤ◌}
use Rattle.std.specs.Fmt.{signed_decimal}
use Rattle.std.specs.Str.{bytes_eq}
use Rattle.csvw_double.specs.declared.numeral.DoubleFault.{DoubleFault}
use Rattle.csvw_double.specs.Digits.{is_empty}
use Rattle.csvw_double.specs.Doubles.{IsFaultOf, digits_of, is_negative, is_number, is_short, parts_of, point_of}

-- digits with a point before the last ones, or with zeros behind them; the point is `n` places after the first
abbrev pub whole_form : List ℕ → ℕ → List ℕ
whole_form digits n = if nat_lt n (length digits) then take n digits ++ (46 ∷ drop n digits) else digits ++ replicate (n - length digits) 48

-- a number in digits alone; the point is this many places after the start of the digits, or before it
abbrev pub plain_form : List ℕ → ℤ → List ℕ
plain_form digits (pos zero) = 48 ∷ 46 ∷ digits
plain_form digits (pos (suc n)) = whole_form digits (suc n)
plain_form digits (negsuc n) = 48 ∷ 46 ∷ (replicate (suc n) 48 ++ digits)

-- a number with an exponent: one digit, perhaps a point and the other digits, and the exponent
abbrev pub scientific_form : List ℕ → ℤ → List ℕ
scientific_form digits exponent =
    take 1 digits ++ ((if is_empty (drop 1 digits) then [] else 46 ∷ drop 1 digits) ++ (101 ∷ signed_decimal exponent))

-- a number is from 10^-6 to below 10^21
abbrev pub is_plain : ℤ → Bool
is_plain point = int_le (neg_ℤ (pos 5)) point && int_le point (pos 21)

-- the number of places of a text's point, with room for the exponent
abbrev pub IsNear : ℤ → Type 0
IsNear point = (neg_ℤ (pos (2 ^ 100)) ≤ℤ point) × (point ≤ℤ pos (2 ^ 100))

abbrev pub sign_form : Bool → List ℕ
sign_form false = []
sign_form true = 45 ∷ []

abbrev pub unsigned_form : List ℕ → ℤ → List ℕ
unsigned_form digits point = if is_plain point then plain_form digits point else scientific_form digits (point -ℤ pos 1)

-- a number of these digits, of which the first and the last aren't 0
abbrev pub number_form : Bool → List ℕ → ℤ → List ℕ
number_form negative digits point =
    if is_empty digits then 48 ∷ []
    else sign_form negative ++ unsigned_form digits point

-- what is no number
abbrev pub special_form : List ℕ → Option (List ℕ)
special_form text =
    if bytes_eq text (codes "INF") then Some (codes "INF") else (if bytes_eq text (codes "+INF") then Some (codes "INF")
    else (if bytes_eq text (codes "-INF") then Some (codes "-INF") else (if bytes_eq text (codes "NaN") then Some (codes "NaN") else None)))

-- the number that a text is
abbrev pub number_of : List ℕ → Option (List ℕ)
number_of text =
    if is_number text && is_short text then Some (number_form (is_negative text) (digits_of (parts_of text)) (point_of (parts_of text))) else None

abbrev pub or_else : Option (List ℕ) → Option (List ℕ) → Option (List ℕ)
or_else (Some x) other = Some x
or_else None other = other

-- the one text of the value that a text is, if it is a double
unfoldable pub double_form : List ℕ → Option (List ℕ)
double_form text = or_else (special_form text) (number_of text)

-- why a text isn't a double
abbrev pub IsDoubleFault : List ℕ → DoubleFault → Type 0
IsDoubleFault text fault = (special_form text ≡ None) × IsFaultOf text fault
