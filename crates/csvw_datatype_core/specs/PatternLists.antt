-- The formats of dates, times of day and moments, and the format of a pattern (Model for Tabular Data, section 6.4.4).
use Rattle.std.specs.Prelude.{ℕ, List, [], ◌∷◌, map, flat_map, bytes_eq, if◌then◌else◌, Option, Some, None}
use Rattle.csvw_datatype_core.specs.declared.date.Separator.TheVariants.{Dash, Slash, Dot}
use Rattle.csvw_datatype_core.specs.declared.date.FieldDigits.TheVariants.{Two, OneOrTwo}
use Rattle.csvw_datatype_core.specs.declared.date.DateFormat.{DateFormat}
use Rattle.csvw_datatype_core.specs.declared.date.DateFormat.TheVariants.{YearFirst, Compact, DayFirst, MonthFirst}
use Rattle.csvw_datatype_core.specs.declared.moment.MomentFormat.{MomentFormat}
use Rattle.csvw_datatype_core.specs.declared.moment.MomentFormat.TheVariants.{Seconds, Minutes, Spaced}
use Rattle.csvw_datatype_core.specs.declared.time.TimeFormat.{TimeFormat}
use Rattle.csvw_datatype_core.specs.declared.time.TimeFormat.TheVariants as times
use Rattle.csvw_datatype_core.specs.DatePatterns.{date_pattern, moment_pattern}
use Rattle.csvw_datatype_core.specs.Times.{time_pattern}

-- the formats of dates
abbrev pub date_formats : List DateFormat
date_formats =
    YearFirst ∷ Compact ∷ DayFirst Two Dash ∷ DayFirst Two Slash ∷ DayFirst Two Dot ∷ DayFirst OneOrTwo Dash ∷ DayFirst OneOrTwo Slash
    ∷ DayFirst OneOrTwo Dot ∷ MonthFirst Two Dash ∷ MonthFirst Two Slash ∷ MonthFirst Two Dot ∷ MonthFirst OneOrTwo Dash
    ∷ MonthFirst OneOrTwo Slash ∷ MonthFirst OneOrTwo Dot ∷ []

abbrev pub time_formats : List TimeFormat
time_formats = times.Seconds ∷ times.CompactSeconds ∷ times.Minutes ∷ times.CompactMinutes ∷ []

-- each format of dates with each format of times of day
abbrev pub spaced_formats : List MomentFormat
spaced_formats = flat_map (λ date. map (Spaced date) time_formats) date_formats

-- the formats of moments
abbrev pub moment_formats : List MomentFormat
moment_formats = Seconds ∷ Minutes ∷ spaced_formats

-- the first of them that has the pattern
abbrev pub patterned_in : {F : Type 0} → (F → List ℕ) → List F → List ℕ → Option F
patterned_in pattern_of [] text = None
patterned_in pattern_of (f ∷ fs) text = if bytes_eq text (pattern_of f) then Some f else patterned_in pattern_of fs text

abbrev pub date_format_of : List ℕ → Option DateFormat
date_format_of text = patterned_in date_pattern date_formats text

abbrev pub moment_format_of : List ℕ → Option MomentFormat
moment_format_of text = patterned_in moment_pattern moment_formats text

abbrev pub time_format_of : List ℕ → Option TimeFormat
time_format_of text = patterned_in time_pattern time_formats text
