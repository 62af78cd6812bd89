-- The patterns of dates and moments (Model for Tabular Data, section 6.4.4), with the letters of Unicode Technical Standard 35,
-- "Date Field Symbol Table".
use Rattle.std.specs.Prelude.{ℕ, codes, List, ◌∷◌, ◌++◌}
use Rattle.csvw_datatype_core.specs.declared.date.FieldDigits.{FieldDigits}
use Rattle.csvw_datatype_core.specs.declared.date.FieldDigits.TheVariants.{Two, OneOrTwo}
use Rattle.csvw_datatype_core.specs.declared.date.DateFormat.{DateFormat}
use Rattle.csvw_datatype_core.specs.declared.date.DateFormat.TheVariants.{YearFirst, Compact, DayFirst, MonthFirst}
use Rattle.csvw_datatype_core.specs.declared.moment.MomentFormat.{MomentFormat}
use Rattle.csvw_datatype_core.specs.declared.moment.MomentFormat.TheVariants.{Seconds, Minutes, Spaced}
use Rattle.csvw_datatype_core.specs.Dates.{separator_byte}
use Rattle.csvw_datatype_core.specs.Times.{time_pattern}

abbrev pub day_letters : FieldDigits → List ℕ
day_letters Two = codes "dd"
day_letters OneOrTwo = codes "d"

abbrev pub month_letters : FieldDigits → List ℕ
month_letters Two = codes "MM"
month_letters OneOrTwo = codes "M"

abbrev pub date_pattern : DateFormat → List ℕ
date_pattern YearFirst = codes "yyyy-MM-dd"
date_pattern Compact = codes "yyyyMMdd"
date_pattern (DayFirst digits by) = day_letters digits ++ (separator_byte by ∷ (month_letters digits ++ (separator_byte by ∷ codes "yyyy")))
date_pattern (MonthFirst digits by) = month_letters digits ++ (separator_byte by ∷ (day_letters digits ++ (separator_byte by ∷ codes "yyyy")))

abbrev pub moment_pattern : MomentFormat → List ℕ
moment_pattern Seconds = codes "yyyy-MM-ddTHH:mm:ss"
moment_pattern Minutes = codes "yyyy-MM-ddTHH:mm"
moment_pattern (Spaced date time) = date_pattern date ++ (32 ∷ time_pattern time)
