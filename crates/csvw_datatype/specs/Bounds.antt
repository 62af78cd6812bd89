-- The bounds that texts and whole numbers are (Metadata Vocabulary for Tabular Data, section 5.11.2; Model for Tabular Data,
-- section 4.6.2): a text is read in the default format of its type.
use Rattle.std.specs.Prelude.{ℕ, ◌^◌, ◌&&◌, not, nat_lt, Bool, true, Option, Some, None, option_and_then, if◌then◌else◌, List, ℤ, pos, ◌*ℤ◌, unsigned_abs}
use Rattle.std.specs.Str.{chars}
use Rattle.std.specs.Fmt.{signed_decimal}
use lib.Signed.{lt_z}
use Rattle.csvw_double.specs.Forms.{double_form}
use Rattle.csvw_datatype_core.specs.declared.date.DateFormat.TheVariants.{YearFirst}
use Rattle.csvw_datatype_core.specs.declared.moment.MomentFormat.TheVariants.{Seconds}
use Rattle.csvw_datatype_core.specs.Values.{number_value, date_value, moment_value}
use Rattle.csvw_datatype.specs.declared.value.Value.{Value}
use Rattle.csvw_datatype.specs.declared.value.Value.TheVariants as values
use Rattle.csvw_datatype.specs.declared.simple.Simple.{Simple}
use Rattle.csvw_datatype.specs.declared.simple.Simple.TheVariants as simples
use Rattle.csvw_datatype.specs.declared.simple.TextType.{TextType}
use Rattle.csvw_datatype.specs.declared.simple.Width.{Width}
use Rattle.csvw_datatype.specs.Reads.{whole_rules, decimal_rules}
use Rattle.csvw_datatype.specs.Strings.{is_ordered}
use Rattle.csvw_datatype.specs.TextValues.{text_value}
use Rattle.csvw_datatype.specs.Widths.{least, greatest, in_units}

abbrev pub is_from : Option ℤ → ℤ → Bool
is_from None z = true
is_from (Some low) z = not (lt_z z low)

abbrev pub is_to : Option ℤ → ℤ → Bool
is_to None z = true
is_to (Some high) z = not (lt_z high z)

-- a count of units of 10^-18 is in the range of a type
abbrev pub is_in_width : Width → ℤ → Bool
is_in_width w z = is_from (in_units (least w)) z && is_to (in_units (greatest w)) z

-- a count of units of 10^-18 as a bound of a type of numbers
abbrev pub number_bound : Simple → ℤ → Option Value
number_bound simples.Whole z = Some (values.Number z)
number_bound (simples.Derived w) z = if is_in_width w z then Some (values.Number z) else None
number_bound simples.Decimal z = Some (values.Number z)
number_bound _ z = None

abbrev pub day_bound : ℤ → Option Value
day_bound day = Some (values.Day day)

abbrev pub moment_bound : ℤ → Option Value
moment_bound moment = Some (values.Moment moment)

abbrev pub double_bound : List ℕ → Option Value
double_bound form = Some (values.Text form)

-- the value that a text is without a format, if the values of the type are ordered
abbrev pub text_bound : TextType → List ℕ → Option Value
text_bound t text = if is_ordered t then text_value t None text else None

-- the bound that a text is
unfoldable pub bound_of : Simple → List ℕ → Option Value
bound_of simples.Whole text = option_and_then (number_bound simples.Whole) (number_value (whole_rules None) (chars text))
bound_of (simples.Derived w) text = option_and_then (number_bound (simples.Derived w)) (number_value (whole_rules None) (chars text))
bound_of simples.Decimal text = option_and_then (number_bound simples.Decimal) (number_value (decimal_rules None) (chars text))
bound_of simples.Day text = option_and_then day_bound (date_value YearFirst text)
bound_of simples.Moment text = option_and_then moment_bound (moment_value Seconds text)
bound_of (simples.Floating f) text = option_and_then double_bound (double_form text)
bound_of (simples.Other t) text = text_bound t text
bound_of _ text = None

-- a whole number as a bound of a type of numbers
abbrev pub whole_bound : Simple → ℤ → Option Value
whole_bound (simples.Floating f) z = option_and_then double_bound (double_form (signed_decimal z))
whole_bound s z = number_bound s (z *ℤ pos (10 ^ 18))

-- the bound that a whole number below 10^20 in size is
unfoldable pub bound_of_whole : Simple → ℤ → Option Value
bound_of_whole s z = if nat_lt (unsigned_abs z) (10 ^ 20) then whole_bound s z else None
