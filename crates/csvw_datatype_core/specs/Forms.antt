-- The lexical forms of numbers, days and moments, each as the one text that it is (XML Schema Part 2, sections 3.3.3, 3.3.7
-- and 3.3.9).
use Rattle.std.specs.Prelude.{ℕ, zero, suc, ◌+◌, ◌/◌, ◌%◌, ◌^◌, ◌==◌, ◌&&◌, nat_le, Bool, Option, Some, None, unwrap_or, List, [], ◌∷◌, ◌++◌}
use Rattle.std.specs.Prelude.{if◌then◌else◌, ℤ, pos, negsuc, unsigned_abs, ◌+ℤ◌, ◌*ℤ◌}
use Rattle.std.specs.Fmt.{decimal}
use Rattle.std.specs.Ordering.{int_eq}
use Rattle.jiff_core.specs.Calendar.{days_in_month}
use Rattle.csvw_datatype_core.specs.Dates.{day_number}
use Rattle.csvw_datatype_core.specs.LexicalDates.{date_digits, time_digits}

-- "-" below zero
abbrev pub sign_form : ℤ → List ℕ
sign_form (pos n) = []
sign_form (negsuc n) = 45 ∷ []

-- the digits of n units of 10^-e after a point, up to the last that isn't 0
unfoldable pub fraction_digits : ℕ → ℕ → List ℕ
fraction_digits zero n = []
fraction_digits (suc e) n = if n == 0 then [] else (48 + n / 10 ^ e) ∷ fraction_digits e (n % 10 ^ e)

-- nothing if the number is whole
abbrev pub fraction_form : ℕ → List ℕ
fraction_form n = if n == 0 then [] else 46 ∷ fraction_digits 18 n

-- a number of this many units of 10^-18
unfoldable pub number_form : ℤ → List ℕ
number_form z = sign_form z ++ decimal (unsigned_abs z / 10 ^ 18) ++ fraction_form (unsigned_abs z % 10 ^ 18)

abbrev pub or_else : {A : Type 0} → Option A → Option A → Option A
or_else (Some x) other = Some x
or_else None other = other

-- what is found at some number below n
unfoldable pub found_below : {A : Type 0} → ℕ → (ℕ → Option A) → Option A
found_below zero f = None
found_below (suc n) f = or_else (f n) (found_below n f)

abbrev pub found_if : {A : Type 0} → Bool → A → Option A
found_if b x = if b then Some x else None

-- the calendar has the day, in the years from 1 on
abbrev pub is_day : ℕ → ℕ → ℕ → Bool
is_day y m d = nat_le 1 y && nat_le 1 m && nat_le m 12 && nat_le 1 d && nat_le d (days_in_month (pos y) m)

-- what is found at some date of the years 0001 to 9999
unfoldable pub found_on_dates : {A : Type 0} → (ℕ → ℕ → ℕ → Option A) → Option A
found_on_dates f = found_below 10_000 (λ y. found_below 13 (λ m. found_below 32 (λ d. f y m d)))

-- the date with this day number
unfoldable pub date_form : ℤ → List ℕ
date_form day = unwrap_or (found_on_dates (λ y m d. found_if (is_day y m d && int_eq day (day_number y m d)) (date_digits y m d))) []

-- a second of a day
abbrev pub time_form : ℕ → List ℕ
time_form second = time_digits (second / 3600) (second / 60 % 60) (second % 60)

-- the date and the time of day with this number of seconds
unfoldable pub moment_form : ℤ → List ℕ
moment_form moment =
    unwrap_or (found_on_dates (λ y m d. found_below 86_400 (λ second.
    found_if (is_day y m d && int_eq moment ((day_number y m d *ℤ pos 86_400) +ℤ pos second)) (date_digits y m d ++ time_form second)))) []
