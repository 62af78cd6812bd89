-- The lexical forms of values (XML Schema Part 2, section 3).
use Rattle.std.specs.Prelude.{◌≡◌, ℕ, codes, List, if◌then◌else◌}
use Rattle.std.specs.Str.{chars}
use Rattle.csvw_datatype_core.specs.declared.date.DateFormat.TheVariants.{YearFirst}
use Rattle.csvw_datatype_core.specs.declared.moment.MomentFormat.TheVariants.{Seconds}
use Rattle.csvw_datatype_core.specs.LexicalNumbers.{IsLexicalNumber}
use Rattle.csvw_datatype_core.specs.LexicalDates.{IsDayNumber, IsMomentNumber}
use Rattle.csvw_datatype_core.specs.Dates.{ReadsDate}
use Rattle.csvw_datatype_core.specs.Forms.{number_form, date_form, moment_form}
use Rattle.csvw_datatype_core.specs.Moments.{ReadsMoment}
use Rattle.csvw_datatype.specs.declared.value.Value.{Value}
use Rattle.csvw_datatype.specs.declared.value.Value.TheVariants as values
use Rattle.csvw_datatype.specs.declared.simple.Simple.{Simple}
use Rattle.csvw_datatype.specs.declared.simple.Simple.TheVariants as simples
use Rattle.csvw_datatype.specs.Sound.{IsNumberSize}

-- a number that a text can spell, or a day or a moment of the years 0001 to 9999
abbrev pub IsWritable : Value → Type 0
IsWritable (values.Text text) = Unit {0}
IsWritable (values.Truth b) = Unit {0}
IsWritable (values.Number z) = IsNumberSize z
IsWritable (values.Day day) = IsDayNumber day
IsWritable (values.Moment moment) = IsMomentNumber moment

-- the text is the form of the value; days and moments have one text in these formats
abbrev pub IsLexical : Value → List ℕ → Type 0
IsLexical (values.Text t) text = text ≡ t
IsLexical (values.Truth b) text = text ≡ (if b then codes "true" else codes "false")
IsLexical (values.Number z) text = IsLexicalNumber (chars text) z
IsLexical (values.Day day) text = ReadsDate YearFirst text day
IsLexical (values.Moment moment) text = ReadsMoment Seconds text moment

-- that form, as the text that it is
abbrev pub lexical_of : Value → List ℕ
lexical_of (values.Text t) = t
lexical_of (values.Truth b) = if b then codes "true" else codes "false"
lexical_of (values.Number z) = number_form z
lexical_of (values.Day day) = date_form day
lexical_of (values.Moment moment) = moment_form moment

-- the type whose texts are read as such values
abbrev pub simple_of : Value → Simple
simple_of (values.Text text) = simples.Text
simple_of (values.Truth b) = simples.Truth
simple_of (values.Number z) = simples.Decimal
simple_of (values.Day day) = simples.Day
simple_of (values.Moment moment) = simples.Moment
