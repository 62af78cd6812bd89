-- The order of durations (XML Schema 1.1 Part 2, section 3.3.6.1).
use Rattle.std.specs.Prelude.{ℕ, ◌+◌, ◌-◌, ◌*◌, ◌^◌, Bool, Option, Some, None, if◌then◌else◌, List, [], ◌∷◌, length, map, ℤ, pos, neg_ℤ, ◌+ℤ◌, ◌*ℤ◌}
use Rattle.std.specs.List.{list_all}
use Rattle.std.specs.declared.cmp.Ordering.{Ordering}
use Rattle.std.specs.declared.cmp.Ordering.TheVariants.{Less, Equal, Greater}
use Rattle.std.specs.Ordering.{is_lt, is_eq, is_gt, int_cmp}
use Rattle.std.specs.Str.Parse.{digits_value}
use Rattle.jiff_core.specs.Calendar.{IsWithin}
use Rattle.csvw_duration.specs.declared.value.DurationKind.TheVariants as kinds
use Rattle.csvw_duration.specs.Digits.{option_view, ◌>>=◌}
use Rattle.csvw_duration.specs.Values.{begins_with_minus, duration_fields}
use Rattle.csvw_duration.specs.Timeline.{days_before_month}

-- the digits of a fraction, with zeros after them up to nine, count nanoseconds
unfoldable pub fraction_nanoseconds : List ℕ → ℕ
fraction_nanoseconds ds = digits_value 10 ds * 10 ^ (9 - length ds)

-- a number with the sign of its text
abbrev pub signed : Bool → ℕ → ℤ
signed minus n = if minus then neg_ℤ (pos n) else pos n

-- the months and the nanoseconds of a duration
abbrev pub signed_value : Bool → ℕ × ℕ × List ℕ → ℤ × ℤ
signed_value minus x = (signed minus x.0, signed minus (x.1 * 10 ^ 9 + fraction_nanoseconds x.2))

-- the value of a text of a `duration`, canonical or not
abbrev pub duration_value : List ℕ → Option (ℤ × ℤ)
duration_value text = option_view (signed_value (begins_with_minus text)) (duration_fields kinds.Any text)

-- the nanoseconds of a day
abbrev pub day_nanoseconds : ℕ
day_nanoseconds = 86_400 * 10 ^ 9

-- The moment at a duration after the first day of a month, in nanoseconds: the months lead to the first day of another month, and
-- the nanoseconds are added to it (appendix E.3, dateTimePlusDuration).
unfoldable pub moment_after : ℤ → ℤ × ℤ → ℤ
moment_after start x = days_before_month (start +ℤ x.0) *ℤ pos day_nanoseconds +ℤ x.1

-- a month of a year, from January of the year 0 on
abbrev pub month_index : ℕ → ℕ → ℤ
month_index y m = pos (12 * y + (m - 1))

-- 1696-09-01, 1697-02-01, 1903-03-01 and 1903-07-01, each at 00:00:00Z
abbrev pub starts : List ℤ
starts = month_index 1696 9 ∷ month_index 1697 2 ∷ month_index 1903 3 ∷ month_index 1903 7 ∷ []

-- how the moment after one duration stands to the moment after another
abbrev pub moments_cmp : ℤ × ℤ → ℤ × ℤ → ℤ → Ordering
moments_cmp x y start = int_cmp (moment_after start x) (moment_after start y)

-- less, equal or greater, if all are; else there is no order
abbrev pub agreed : List Ordering → Option Ordering
agreed os =
    if list_all is_lt os then Some Less
    else (if list_all is_eq os then Some Equal else (if list_all is_gt os then Some Greater else None))

-- the order of two values
abbrev pub values_cmp : ℤ × ℤ → ℤ × ℤ → Option Ordering
values_cmp x y = agreed (map (moments_cmp x y) starts)

-- how a duration stands to another, if both texts are durations
unfoldable pub duration_cmp : List ℕ → List ℕ → Option Ordering
duration_cmp s t = do
  x ← duration_value s
  y ← duration_value t
  values_cmp x y

-- months and nanoseconds of a size that a text can have
abbrev pub IsNear : ℤ → ℤ → Type 0
IsNear months nanoseconds = IsWithin (10 ^ 11) months × IsWithin (10 ^ 25) nanoseconds
