-- The number, the day or the moment that a text is, if it is one, as functions.
use Rattle.std.specs.Prelude.{ℕ, ◌+◌, ◌*◌, ◌&&◌, ◌==◌, nat_lt, nat_le, Bool, Option, Some, None, option_map, if◌then◌else◌, List, [], ◌∷◌, take, drop, ℤ, pos, neg_ℤ, ◌+ℤ◌, ◌*ℤ◌}
use Rattle.jiff_core.specs.Calendar.{days_in_month}
use Rattle.csvw_datatype_core.specs.declared.number.NumberRules.{NumberRules}
use Rattle.csvw_datatype_core.specs.declared.number.Scan.{Scan}
use Rattle.csvw_datatype_core.specs.declared.date.DateFormat.{DateFormat}
use Rattle.csvw_datatype_core.specs.declared.date.DateFormat.TheVariants.{YearFirst}
use Rattle.csvw_datatype_core.specs.declared.time.TimeFormat.{TimeFormat}
use Rattle.csvw_datatype_core.specs.declared.moment.MomentFormat.{MomentFormat}
use Rattle.csvw_datatype_core.specs.declared.moment.MomentFormat.TheVariants.{Seconds, Minutes, Spaced}
use Rattle.csvw_datatype_core.specs.Scan.{ends}
use Rattle.csvw_datatype_core.specs.Step.{begun, run, count_of}
use Rattle.csvw_datatype_core.specs.Dates.{day_number}
use Rattle.csvw_datatype_core.specs.Fields.{date_fields}
use Rattle.csvw_datatype_core.specs.TimeFields.{time_fields}
use Rattle.csvw_datatype_core.specs.Times.{clock_fields}

abbrev pub signed_count : Bool → Option ℕ → Option ℤ
signed_count minus None = None
signed_count minus (Some n) = Some (if minus then neg_ℤ (pos n) else pos n)

-- what a pass over the characters ends with
abbrev pub scanned : Scan → Option ℤ
scanned s = if ends s.place then signed_count s.minus (count_of s) else None

-- the number that the characters spell, in units of 10^-18
unfoldable pub number_value : NumberRules → List ℕ → Option ℤ
number_value rules cs = scanned (run rules begun cs)

-- the calendar has the day, in the years 0001 to 9999
abbrev pub is_day : ℕ → ℕ → ℕ → Bool
is_day y m d = nat_le 1 y && (nat_le y 9999 && (nat_le 1 m && (nat_le m 12 && (nat_le 1 d && nat_le d (days_in_month (pos y) m)))))

abbrev pub day_of : Option (ℕ × ℕ × ℕ) → Option ℤ
day_of None = None
day_of (Some x) = if is_day x.0 x.1 x.2 then Some (day_number x.0 x.1 x.2) else None

-- the day that a text writes, in days since 1 January 1970
unfoldable pub date_value : DateFormat → List ℕ → Option ℤ
date_value format text = day_of (date_fields format text)

abbrev pub is_time_of_day : ℕ → ℕ → ℕ → Bool
is_time_of_day h m s = nat_lt h 24 && (nat_lt m 60 && nat_lt s 60)

abbrev pub second_of : Option (ℕ × ℕ × ℕ) → Option ℕ
second_of None = None
second_of (Some x) = if is_time_of_day x.0 x.1 x.2 then Some (x.0 * 3600 + x.1 * 60 + x.2) else None

-- a day and a second of it
abbrev pub together : Option ℤ → Option ℕ → Option ℤ
together None second = None
together (Some day) None = None
together (Some day) (Some second) = Some ((day *ℤ pos 86_400) +ℤ pos second)

-- the moment of a text with a `T`: its date has ten bytes
unfoldable pub joined_value : MomentFormat → List ℕ → Option ℤ
joined_value format text = together (day_of (date_fields YearFirst (take 10 text))) (second_of (time_fields format (drop 10 text)))

-- the second of a day that a time of day is
unfoldable pub time_value : TimeFormat → List ℕ → Option ℕ
time_value format text = second_of (clock_fields format text)

-- the text before its first space and the text after it, if it has one
abbrev pub at_space : List ℕ → Option (List ℕ × List ℕ)
at_space [] = None
at_space (b ∷ bs) = if b == 32 then Some ([], bs) else option_map (λ x. (b ∷ x.0, x.1)) (at_space bs)

-- the moment of the text before a space and the text after it
abbrev pub parts_value : DateFormat → TimeFormat → Option (List ℕ × List ℕ) → Option ℤ
parts_value date time None = None
parts_value date time (Some x) = together (date_value date x.0) (time_value time x.1)

-- the moment of a text with a space
unfoldable pub spaced_value : DateFormat → TimeFormat → List ℕ → Option ℤ
spaced_value date time text = parts_value date time (at_space text)

-- the moment that a text writes, in seconds since 1 January 1970
abbrev pub moment_value : MomentFormat → List ℕ → Option ℤ
moment_value Seconds text = joined_value Seconds text
moment_value Minutes text = joined_value Minutes text
moment_value (Spaced date time) text = spaced_value date time text
