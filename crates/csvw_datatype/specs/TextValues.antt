-- The value of a text under a type that keeps texts, and the code of a text that is no value of the type (Metadata Vocabulary for Tabular
-- Data, section 5.11.1; XML Schema 1.1 Part 2, sections 3.3 and 3.4).
use Rattle.std.specs.Prelude.{ℕ, Bool, ◌&&◌, Option, Some, None, if◌then◌else◌, List}
use Rattle.std.specs.Str.{chars}
use Rattle.csvw_fault.specs.declared.fault.Code.{Code}
use Rattle.csvw_fault.specs.declared.fault.Code.TheVariants.{BadDate, BadDateTime, BadTime, BadText, BadDuration}
use Rattle.csvw_datatype_core.specs.declared.clock.ClockFormat.{ClockFormat}
use Rattle.csvw_datatype_core.specs.declared.clock.ClockFormat.TheVariants as clocks
use Rattle.csvw_datatype_core.specs.declared.date_time.Zone.{Zone}
use Rattle.csvw_datatype_core.specs.PartForms.{date_part_form}
use Rattle.csvw_datatype_core.specs.Clocks.{clock_form}
use Rattle.csvw_datatype_core.specs.Stamps.{stamp_value}
use Rattle.csvw_datatype_core.specs.declared.date_time.DateTime.{DateTime}
use Rattle.csvw_datatype_core.specs.declared.date_time.DateTime.TheVariants as date_times
use Rattle.csvw_datatype_core.specs.DateTimes.{date_time_value}
use Rattle.csvw_datatype_core.specs.declared.zoned_date.ZonedDate.{ZonedDate}
use Rattle.csvw_datatype_core.specs.declared.zoned_date.ZonedDate.TheVariants as dates
use Rattle.csvw_datatype_core.specs.declared.zoned_date.ZonedDateFormat.{ZonedDateFormat}
use Rattle.csvw_datatype_core.specs.ZonedDates.{zoned_date_value}
use Rattle.csvw_datatype_core.specs.Languages.{is_language}
use Rattle.csvw_datatype_core.specs.XmlNames.{is_name, is_name_token}
use Rattle.csvw_binary.specs.Binaries.{binary_form}
use Rattle.csvw_duration.specs.Forms.{duration_form}
use Rattle.csvw_datatype.specs.QualifiedNames.{is_qualified_name}
use Rattle.csvw_datatype.specs.declared.simple.TextType.{TextType}
use Rattle.csvw_datatype.specs.declared.simple.TextType.TheVariants as types
use Rattle.csvw_datatype.specs.declared.value.Value.{Value}
use Rattle.csvw_datatype.specs.declared.value.Value.TheVariants as values
use Rattle.csvw_datatype.specs.declared.format.Format.{Format}
use Rattle.csvw_datatype.specs.declared.format.Format.TheVariants as formats
use Rattle.csvw_datatype.specs.Formats.{is_described}

-- the format of a time of day; without one it may have parts of a second and a zone
abbrev pub clock_format : Option Format → ClockFormat
clock_format (Some (formats.Time f)) = f
clock_format _ = clocks.Any

-- the moment that a text writes in a format, or as XML Schema writes it
abbrev pub moment_in : Option Format → Zone → List ℕ → Option DateTime
moment_in (Some (formats.Stamp f)) zone text = stamp_value f zone text
moment_in _ zone text = date_time_value zone text

-- the format of dates that may have a zone
abbrev pub zoned_format : Option Format → Option ZonedDateFormat
zoned_format (Some (formats.ZonedDay f)) = Some f
zoned_format _ = None

-- the value that is the text itself
abbrev pub text_if : Bool → List ℕ → Option Value
text_if is_one text = if is_one then Some (values.Text text) else None

-- the value that is kept as this text
abbrev pub kept : Option (List ℕ) → Option Value
kept None = None
kept (Some text) = Some (values.Text text)

-- the value that is kept as this text, if the first text is described
abbrev pub kept_if : Bool → Option (List ℕ) → Option Value
kept_if is_one form = if is_one then kept form else None

-- a moment with a zone or with parts of a second is kept as its text
abbrev pub date_time_kept : Option DateTime → Option Value
date_time_kept None = None
date_time_kept (Some (date_times.Second moment)) = Some (values.Moment moment)
date_time_kept (Some (date_times.Written text)) = Some (values.Text text)

-- a date with a zone is kept as its text
abbrev pub date_kept : Option ZonedDate → Option Value
date_kept None = None
date_kept (Some (dates.Day day)) = Some (values.Day day)
date_kept (Some (dates.Written text)) = Some (values.Text text)

-- The value of a text. Each text is a value of anyAtomicType, normalizedString, token, xml, html and json, since white space was normalized before. If the
-- format is a regular expression, it describes each text of a type that may have one.
unfoldable pub text_value : TextType → Option Format → List ℕ → Option Value
text_value types.Any format text = text_if (is_described format text) text
text_value types.Normalized format text = text_if (is_described format text) text
text_value types.Token format text = text_if (is_described format text) text
text_value types.Language format text = text_if (is_language text && is_described format text) text
text_value types.Name format text = text_if (is_name (chars text) && is_described format text) text
text_value types.NameToken format text = text_if (is_name_token (chars text) && is_described format text) text
text_value types.QualifiedName format text = text_if (is_qualified_name text && is_described format text) text
text_value types.Xml format text = text_if (is_described format text) text
text_value types.Html format text = text_if (is_described format text) text
text_value types.Json format text = text_if (is_described format text) text
text_value types.Time format text = kept (clock_form (clock_format format) text)
text_value types.Date format text = date_kept (zoned_date_value (zoned_format format) text)
text_value (types.DateTime zone) format text = date_time_kept (moment_in format zone text)
text_value (types.Part part) format text = kept (date_part_form part text)
text_value (types.Binary form) format text = kept_if (is_described format text) (binary_form form text)
text_value (types.Duration kind) format text = kept_if (is_described format text) (duration_form kind text)

abbrev pub text_code : TextType → Code
text_code types.Time = BadTime
text_code types.Date = BadDate
text_code (types.DateTime zone) = BadDateTime
text_code (types.Part part) = BadDate
text_code (types.Duration kind) = BadDuration
text_code _ = BadText
