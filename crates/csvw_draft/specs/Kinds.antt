-- The datatypes that a draft gives to columns, and which texts are values of each.
use Rattle.std.specs.Prelude.{◌||◌, ◌==◌, ℕ, Bool, true, false, Option, Some, None, List, [], ◌∷◌, ◌++◌, map, codes, bytes_eq, if◌then◌else◌}
use Rattle.std.specs.List.{filter}
use Rattle.std.specs.Option.{is_some}
use Rattle.std.specs.Str.{chars}
use Rattle.csvw_datatype_core.specs.declared.number.NumberRules.{NumberRules}
use Rattle.csvw_datatype_core.specs.declared.clock.ClockFormat.{ClockFormat}
use Rattle.csvw_datatype_core.specs.declared.clock.ClockFormat.TheVariants as clocks
use Rattle.csvw_datatype_core.specs.declared.date.DateFormat.{DateFormat}
use Rattle.csvw_datatype_core.specs.declared.date.DateFormat.TheVariants.{YearFirst}
use Rattle.csvw_datatype_core.specs.declared.stamp_format.OffsetForm.{OffsetForm}
use Rattle.csvw_datatype_core.specs.declared.stamp_format.OffsetForm.TheVariants as forms
use Rattle.csvw_datatype_core.specs.declared.stamp_format.UtcMark.TheVariants as marks
use Rattle.csvw_datatype_core.specs.declared.stamp_format.ZoneGap.TheVariants as gaps
use Rattle.csvw_datatype_core.specs.declared.stamp_format.ZoneFormat.{ZoneFormat}
use Rattle.csvw_datatype_core.specs.declared.stamp_format.StampFormat.{StampFormat}
use Rattle.csvw_datatype_core.specs.declared.moment.MomentFormat.TheVariants.{Seconds, Minutes, Spaced}
use Rattle.csvw_datatype_core.specs.declared.time.TimeFormat.{TimeFormat}
use Rattle.csvw_datatype_core.specs.declared.time.TimeFormat.TheVariants as times
use Rattle.csvw_datatype_core.specs.declared.date_time.Zone.TheVariants.{Optional}
use Rattle.csvw_datatype_core.specs.Values.{number_value, date_value, moment_value}
use Rattle.csvw_datatype_core.specs.Clocks.{clock_form}
use Rattle.csvw_datatype_core.specs.Stamps.{stamp_value}
use Rattle.csvw_datatype_core.specs.DateTimes.{date_time_value}
use Rattle.csvw_datatype_core.specs.ZonedDates.{zoned_date_value}
use Rattle.csvw_double.specs.Forms.{double_form}
use Rattle.csvw_meta_core.specs.declared.profile.Profile.{Profile}
use Rattle.csvw_meta_core.specs.declared.profile.Profile.TheVariants.{Core, W3c}
use Rattle.csvw_datatype_core.specs.PatternLists.{date_formats}
use Rattle.csvw_draft.specs.declared.kind.Kind.{Kind}
use Rattle.csvw_draft.specs.declared.kind.Kind.TheVariants as kinds
use Rattle.csvw_draft.specs.declared.grouping.GroupChar.TheVariants.{Space, NoBreakSpace, NarrowNoBreakSpace, Apostrophe}
use Rattle.csvw_draft.specs.declared.grouping.Fraction.{Fraction}
use Rattle.csvw_draft.specs.declared.grouping.Fraction.TheVariants as fractions
use Rattle.csvw_draft.specs.Groupings.{grouped_value}

-- numbers with this decimal character, or without one, and without a group character
abbrev pub rules_with : Option ℕ → NumberRules
rules_with point = record { decimal_char = point; group_char = None; allows_marks = false }

-- Whether the text is a value of the datatype. Of booleans only `true` and `false` are: `1` and `0` are integers here.
abbrev pub reads : Kind → List ℕ → Bool
reads kinds.Truth text = bytes_eq text (codes "true") || bytes_eq text (codes "false")
reads kinds.Whole text = is_some (number_value (rules_with None) (chars text))
reads kinds.Decimal text = is_some (number_value (rules_with (Some 46)) (chars text))
reads kinds.DecimalComma text = is_some (number_value (rules_with (Some 44)) (chars text))
reads (kinds.Grouped g) text = is_some (grouped_value g text)
reads (kinds.Day format) text = is_some (date_value format text)
reads (kinds.Moment format) text = is_some (moment_value format text)
reads kinds.Double text = is_some (double_form text)
reads (kinds.Time format) text = is_some (clock_form format text)
reads (kinds.Stamp format) text = is_some (stamp_value format Optional text)
reads kinds.DayWithZone text = is_some (zoned_date_value None text)
reads kinds.MomentWithZone text = is_some (date_time_value Optional text)
reads kinds.Text text = true

-- those of some datatypes of which a text is a value
abbrev pub readers : List Kind → List ℕ → List Kind
readers kinds text = filter (λ kind. reads kind text) kinds

-- dates in each of some formats
abbrev pub day_kinds : List DateFormat → List Kind
day_kinds dates = map (λ date. kinds.Day date) dates

-- numbers whose fraction is written so, with each group character
abbrev pub grouped_kinds : Fraction → List Kind
grouped_kinds fraction =
    kinds.Grouped (record { group_char = Space; fraction = fraction }) ∷ kinds.Grouped (record { group_char = NoBreakSpace; fraction = fraction })
    ∷ kinds.Grouped (record { group_char = NarrowNoBreakSpace; fraction = fraction })
    ∷ kinds.Grouped (record { group_char = Apostrophe; fraction = fraction }) ∷ []

-- the datatypes besides `string` that each document may use, from the narrowest on
abbrev pub core_kinds : List Kind
core_kinds =
    (kinds.Truth ∷ kinds.Whole ∷ kinds.Decimal ∷ [])
    ++ (grouped_kinds fractions.None
    ++ (grouped_kinds fractions.Point ++ (day_kinds date_formats ++ (kinds.Moment Seconds ∷ kinds.Moment Minutes ∷ []))))

-- moments with a space, for each format of dates
abbrev pub spaced_kinds : TimeFormat → List DateFormat → List Kind
spaced_kinds time dates = map (λ date. kinds.Moment (Spaced date time)) dates

-- a zone at the end of a moment: "Z", or an offset in a form
abbrev pub zone_of : OffsetForm → ZoneFormat
zone_of form = record { form = form; utc = marks.Allowed; gap = gaps.None }

-- the moments that databases write: a date, a space, a time with up to nine digits of a fraction, and a zone or none
abbrev pub database_format : Option ZoneFormat → StampFormat
database_format zone = record { moment = Spaced YearFirst times.Seconds; digits = 9; zone = zone }

abbrev pub stamp_kinds : List Kind
stamp_kinds =
    kinds.Stamp (database_format None) ∷ kinds.Stamp (database_format (Some (zone_of forms.Short)))
    ∷ kinds.Stamp (database_format (Some (zone_of forms.Extended))) ∷ []

abbrev pub all_spaced_kinds : List Kind
all_spaced_kinds = spaced_kinds times.Seconds date_formats ++ spaced_kinds times.Minutes date_formats

-- moments with a space
abbrev pub moment_kinds : List Kind
moment_kinds = all_spaced_kinds ++ stamp_kinds

-- times of day without seconds
abbrev pub minutes_format : ClockFormat
minutes_format = clocks.Pattern (record { time = times.Minutes; digits = 0; zone = None })

-- the datatypes that a document of the profile w3c may use besides
abbrev pub w3c_kinds : List Kind
w3c_kinds =
    (kinds.Double ∷ kinds.Time clocks.Any ∷ kinds.Time minutes_format ∷ kinds.DayWithZone ∷ kinds.MomentWithZone ∷ []) ++ moment_kinds

-- decimals may have a comma where `;` is the delimiter
abbrev pub comma_kinds : ℕ → List Kind
comma_kinds delimiter = if delimiter == 59 then kinds.DecimalComma ∷ grouped_kinds fractions.Comma else []

-- the datatypes besides `string` that a draft looks for in a file with this delimiter
abbrev pub kinds_of : ℕ → List Kind
kinds_of delimiter = core_kinds ++ (comma_kinds delimiter ++ w3c_kinds)

-- whether each document may use the datatype
abbrev pub is_core : Kind → Bool
is_core kinds.Truth = true
is_core kinds.Whole = true
is_core kinds.Decimal = true
is_core kinds.DecimalComma = true
is_core (kinds.Grouped g) = true
is_core (kinds.Day format) = true
is_core (kinds.Moment Seconds) = true
is_core (kinds.Moment Minutes) = true
is_core (kinds.Moment (Spaced date time)) = false
is_core kinds.Double = false
is_core (kinds.Time format) = false
is_core kinds.DayWithZone = false
is_core kinds.MomentWithZone = false
is_core (kinds.Stamp format) = false
is_core kinds.Text = true

-- the datatype in a document of a profile, or `string` if such a document can't use it
abbrev pub kind_in : Profile → Kind → Kind
kind_in Core kind = if is_core kind then kind else kinds.Text
kind_in W3c kind = kind

-- The datatype of a column of which these are the datatypes of each text: the narrowest one, or `string` if there was no text, or the
-- profile doesn't have it.
abbrev pub column_kind : Profile → Bool → List Kind → Kind
column_kind profile true (kind ∷ rest) = kind_in profile kind
column_kind profile true [] = kinds.Text
column_kind profile false all = kinds.Text
