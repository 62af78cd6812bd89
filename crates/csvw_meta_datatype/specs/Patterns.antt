-- The patterns of dates, moments and times of day in a document (Model for Tabular Data, section 6.4.4).
use Rattle.std.specs.Prelude.{ℕ, List, [], ◌∷◌, Option, Some, None}
use Rattle.serde_json.specs.Data.{Data}
use Rattle.serde_json.specs.Find.{as_str}
use Rattle.csvw_datatype_core.specs.declared.clock.ClockFormat.{ClockFormat}
use Rattle.csvw_datatype_core.specs.declared.clock.ClockFormat.TheVariants as clocks
use Rattle.csvw_datatype_core.specs.declared.date.DateFormat.{DateFormat}
use Rattle.csvw_datatype_core.specs.declared.date.DateFormat.TheVariants.{YearFirst}
use Rattle.csvw_datatype_core.specs.declared.moment.MomentFormat.{MomentFormat}
use Rattle.csvw_datatype_core.specs.declared.moment.MomentFormat.TheVariants.{Seconds, Minutes}
use Rattle.csvw_datatype_core.specs.declared.stamp_format.StampFormat.{StampFormat}
use Rattle.csvw_datatype_core.specs.declared.zoned_date.ZonedDateFormat.{ZonedDateFormat}
use Rattle.csvw_datatype_core.specs.Clocks.{clock_format_of}
use Rattle.csvw_datatype_core.specs.DatePatterns.{moment_pattern}
use Rattle.csvw_datatype_core.specs.PatternLists.{date_format_of, patterned_in}
use Rattle.csvw_datatype_core.specs.StampFormats.{stamp_format_of}
use Rattle.csvw_datatype_core.specs.ZonedDates.{zoned_format_of}
use Rattle.csvw_meta_core.specs.declared.fault.MetaCode.TheVariants.{NotSupported}
use Rattle.csvw_meta_core.specs.Read.{Read, fine, faulty, on_kind}

-- the formats of moments in the profile core: those with a `T`
abbrev pub core_formats : List MomentFormat
core_formats = Seconds ∷ Minutes ∷ []

abbrev pub core_format_of : List ℕ → Option MomentFormat
core_format_of text = patterned_in moment_pattern core_formats text

abbrev pub pattern_found : {F : Type 0} → F → List ℕ → Option F → Read F
pattern_found dummy at None = faulty NotSupported at dummy
pattern_found dummy at (Some f) = fine f

abbrev pub date_format : List ℕ → Data → Read DateFormat
date_format at d = on_kind at d YearFirst (as_str d) (λ s. pattern_found YearFirst at (date_format_of s))

abbrev pub moment_format : List ℕ → Data → Read MomentFormat
moment_format at d = on_kind at d Seconds (as_str d) (λ s. pattern_found Seconds at (core_format_of s))

-- without parts of a second and a zone
abbrev pub plain : MomentFormat → StampFormat
plain moment = record { moment = moment; digits = 0; zone = None }

abbrev pub stamp_format : List ℕ → Data → Read StampFormat
stamp_format at d = on_kind at d (plain Seconds) (as_str d) (λ s. pattern_found (plain Seconds) at (stamp_format_of s))

-- without a zone
abbrev pub plain_date : ZonedDateFormat
plain_date = record { date = YearFirst; zone = None }

abbrev pub zoned_date_format : List ℕ → Data → Read ZonedDateFormat
zoned_date_format at d = on_kind at d plain_date (as_str d) (λ s. pattern_found plain_date at (zoned_format_of s))

abbrev pub clock_format : List ℕ → Data → Read ClockFormat
clock_format at d = on_kind at d clocks.Any (as_str d) (λ s. pattern_found clocks.Any at (clock_format_of s))
