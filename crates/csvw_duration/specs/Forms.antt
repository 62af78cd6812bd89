-- The canonical text of a duration (XML Schema 1.1 Part 2, appendix E.2).
use Rattle.std.specs.Prelude.{ℕ, ◌/◌, ◌%◌, ◌==◌, ◌&&◌, Bool, true, false, Option, Some, None, if◌then◌else◌, codes, List, [], ◌∷◌, ◌++◌}
use Rattle.std.specs.Fmt.{decimal}
use Rattle.csvw_duration.specs.declared.value.DurationKind.{DurationKind}
use Rattle.csvw_duration.specs.declared.value.DurationKind.TheVariants as kinds
use Rattle.csvw_duration.specs.Digits.{◌>>=◌}
use Rattle.csvw_duration.specs.Values.{begins_with_minus, duration_fields, is_small}

-- a number and its letter, unless the number is 0
abbrev pub amount : ℕ → List ℕ → List ℕ
amount n letter = if n == 0 then [] else decimal n ++ letter

abbrev pub is_empty : List ℕ → Bool
is_empty [] = true
is_empty (b ∷ bs) = false

-- seconds with the digits of a fraction
abbrev pub second_text : ℕ → List ℕ → List ℕ
second_text s [] = amount s (codes "S")
second_text s (d ∷ ds) = ((decimal s ++ codes ".") ++ d ∷ ds) ++ codes "S"

-- the hours, minutes and seconds of less than a day
abbrev pub clock_text : ℕ → List ℕ → List ℕ
clock_text s ds =
    if (s == 0) && is_empty ds then []
    else ((codes "T" ++ amount (s / 3600) (codes "H")) ++ amount (s / 60 % 60) (codes "M")) ++ second_text (s % 60) ds

abbrev pub seconds_text : ℕ → List ℕ → List ℕ
seconds_text s ds = amount (s / 86_400) (codes "D") ++ clock_text (s % 86_400) ds

abbrev pub months_text : ℕ → List ℕ
months_text m = amount (m / 12) (codes "Y") ++ amount (m % 12) (codes "M")

-- the value 0 has no sign
abbrev pub zero_text : DurationKind → List ℕ
zero_text kinds.Any = codes "PT0S"
zero_text kinds.YearMonth = codes "P0M"
zero_text kinds.DayTime = codes "PT0S"

abbrev pub sign_text : Bool → List ℕ
sign_text minus = if minus then codes "-P" else codes "P"

abbrev pub is_zero : ℕ × ℕ × List ℕ → Bool
is_zero x = (x.0 == 0) && (x.1 == 0) && is_empty x.2

abbrev pub value_text : DurationKind → Bool → ℕ × ℕ × List ℕ → List ℕ
value_text kind minus x =
    if is_zero x then zero_text kind
    else (sign_text minus ++ months_text x.0) ++ seconds_text x.1 x.2

-- the canonical text of a value that isn't too long
abbrev pub small_text : DurationKind → Bool → ℕ × ℕ × List ℕ → Option (List ℕ)
small_text kind minus x = if is_small x then Some (value_text kind minus x) else None

-- the canonical text of the duration that a text writes, if it is shorter than 10^9 years and 10^9 days
abbrev pub duration_form : DurationKind → List ℕ → Option (List ℕ)
duration_form kind bs = duration_fields kind bs >>= small_text kind (begins_with_minus bs)
