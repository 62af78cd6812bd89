-- The value of a text under a datatype, and the code if it has none (Model for Tabular Data, section 6.4; XML Schema Part 2,
-- section 3).
use Rattle.std.specs.Prelude.{◌≡◌, ℕ, ◌⊎◌, Bool, true, false, Option, Some, None, codes, List, ℤ}
use Rattle.std.specs.Str.{chars}
use Rattle.csvw_fault.specs.declared.fault.Code.{Code}
use Rattle.csvw_fault.specs.declared.fault.Code.TheVariants.{BadBoolean, BadInteger, BadDecimal, NumberTooLong, OutOfRange, BadDate, BadDateTime, BadDouble, BadText}
use Rattle.csvw_datatype_core.specs.declared.number.NumberRules.{NumberRules}
use Rattle.csvw_datatype_core.specs.declared.number.NumberFault.{NumberFault}
use Rattle.csvw_datatype_core.specs.declared.number.NumberFault.TheVariants as faults
use Rattle.csvw_datatype_core.specs.declared.date.DateFormat.{DateFormat}
use Rattle.csvw_datatype_core.specs.declared.date.DateFormat.TheVariants.{YearFirst}
use Rattle.csvw_datatype_core.specs.declared.moment.MomentFormat.{MomentFormat}
use Rattle.csvw_datatype_core.specs.declared.moment.MomentFormat.TheVariants.{Seconds}
use Rattle.csvw_datatype_core.specs.Numbers.{ReadsNumber}
use Rattle.csvw_datatype_core.specs.Misread.{MisreadNumber}
use Rattle.csvw_datatype_core.specs.Dates.{ReadsDate}
use Rattle.csvw_datatype_core.specs.Moments.{ReadsMoment}
use Rattle.csvw_double.specs.declared.numeral.DoubleFault.{DoubleFault}
use Rattle.csvw_double.specs.declared.numeral.DoubleFault.TheVariants as double_faults
use Rattle.csvw_double.specs.Forms.{IsDoubleFault, double_form}
use Rattle.csvw_datatype.specs.declared.value.Value.{Value}
use Rattle.csvw_datatype.specs.declared.value.Value.TheVariants as values
use Rattle.csvw_datatype.specs.declared.simple.Simple.{Simple}
use Rattle.csvw_datatype.specs.declared.simple.Simple.TheVariants as simples
use Rattle.csvw_datatype.specs.declared.simple.TextType.{TextType}
use Rattle.csvw_datatype.specs.declared.format.Format.{Format}
use Rattle.csvw_datatype.specs.declared.format.Format.TheVariants as formats
use Rattle.csvw_datatype.specs.declared.datatype.Datatype.{Datatype}
use Rattle.csvw_datatype.specs.declared.format.NumberFormat.{NumberFormat}
use Rattle.csvw_datatype.specs.DoubleFormats.{HasNoPlain, IsPlainOf}
use Rattle.csvw_datatype.specs.Formats.{fits_format, fits_pattern, format_rules, is_described}
use Rattle.csvw_datatype.specs.TextValues.{text_value, text_code}
use Rattle.csvw_datatype.specs.Widths.{IsInWidth}

-- the texts of booleans
abbrev pub SpellsTruth : Option Format → List ℕ → Bool → Type 0
SpellsTruth (Some (formats.Truth f)) text b = ((b ≡ true) × (text ≡ f.if_true)) ⊎ ((b ≡ false) × (text ≡ f.if_false))
SpellsTruth _ text b = ((b ≡ true) × ((text ≡ codes "true") ⊎ (text ≡ codes "1"))) ⊎ ((b ≡ false) × ((text ≡ codes "false") ⊎ (text ≡ codes "0")))

-- how integers are written: with a group character if the format has one
abbrev pub whole_rules : Option Format → NumberRules
whole_rules (Some (formats.Number f)) = record { decimal_char = None; group_char = f.group_char; allows_marks = false }
whole_rules _ = record { decimal_char = None; group_char = None; allows_marks = false }

-- how decimals are written: a format allows the marks too
abbrev pub decimal_rules : Option Format → NumberRules
decimal_rules (Some (formats.Number f)) = format_rules f
decimal_rules _ = record { decimal_char = Some 46; group_char = None; allows_marks = false }

abbrev pub date_format : Option Format → DateFormat
date_format (Some (formats.Day f)) = f
date_format _ = YearFirst

abbrev pub moment_format : Option Format → MomentFormat
moment_format (Some (formats.Moment f)) = f
moment_format _ = Seconds

-- each text is a value of string and anyURI, if the format's expression describes it
abbrev pub ReadsString : Option Format → List ℕ → Value → Type 0
ReadsString format text v = (is_described format text ≡ true) × (v ≡ values.Text text)

-- the value of a double is its canonical text
abbrev pub ReadsPlain : List ℕ → Value → Type 0
ReadsPlain text v = (form : List ℕ) × (double_form text ≡ Some form) × (v ≡ values.Text form)

-- a text in a format is the double of the text of XML Schema that it writes, if it is written as the pattern says
abbrev pub ReadsFormatted : NumberFormat → List ℕ → Value → Type 0
ReadsFormatted f text v = (fits_pattern f (chars text) ≡ true) × (plain : List ℕ) × IsPlainOf f text plain × ReadsPlain plain v

abbrev pub ReadsDouble : Option Format → List ℕ → Value → Type 0
ReadsDouble (Some (formats.Number f)) text v = ReadsFormatted f text v
ReadsDouble _ text v = ReadsPlain text v

-- the value of a type that keeps texts
abbrev pub ReadsText : TextType → Option Format → List ℕ → Value → Type 0
ReadsText t format text v = text_value t format text ≡ Some v

-- the text is this number, and is written as the format's pattern says
abbrev pub ReadsNumberAs : NumberRules → Option Format → List ℕ → ℤ → Type 0
ReadsNumberAs rules format text z = ReadsNumber rules (chars text) z × (fits_format format (chars text) ≡ true)

-- the text is this value
abbrev pub ReadsAs : Simple → Option Format → List ℕ → Value → Type 0
ReadsAs simples.Text format text v = ReadsString format text v
ReadsAs simples.Uri format text v = ReadsString format text v
ReadsAs (simples.Other t) format text v = ReadsText t format text v
ReadsAs (simples.Floating t) format text v = ReadsDouble format text v
ReadsAs simples.Truth format text v = (b : Bool) × SpellsTruth format text b × (v ≡ values.Truth b)
ReadsAs simples.Whole format text v = (z : ℤ) × ReadsNumberAs (whole_rules format) format text z × (v ≡ values.Number z)
ReadsAs (simples.Derived w) format text v = (z : ℤ) × ReadsNumberAs (whole_rules format) format text z × IsInWidth w z × (v ≡ values.Number z)
ReadsAs simples.Decimal format text v = (z : ℤ) × ReadsNumberAs (decimal_rules format) format text z × (v ≡ values.Number z)
ReadsAs simples.Day format text v = (day : ℤ) × ReadsDate (date_format format) text day × (v ≡ values.Day day)
ReadsAs simples.Moment format text v = (moment : ℤ) × ReadsMoment (moment_format format) text moment × (v ≡ values.Moment moment)

-- the text is this value under a datatype
abbrev pub Reads : Datatype → List ℕ → Value → Type 0
Reads d text v = ReadsAs d.simple d.format text v

-- the code of a number that isn't read
abbrev pub number_code : Code → NumberFault → Code
number_code bad faults.Bad = bad
number_code bad faults.TooLong = NumberTooLong

-- the code of a text that is no double
abbrev pub double_code : DoubleFault → Code
double_code double_faults.Bad = BadDouble
double_code double_faults.TooLong = NumberTooLong

-- a text that isn't written as the pattern says is no number of the format
abbrev pub MisreadsNumber : Code → NumberRules → Option Format → List ℕ → Code → Type 0
MisreadsNumber bad rules format text code =
    ((fits_format format (chars text) ≡ false) × (code ≡ bad))
    ⊎ ((fits_format format (chars text) ≡ true) × (fault : NumberFault) × MisreadNumber rules (chars text) fault × (code ≡ number_code bad fault))

abbrev pub MisreadsString : Option Format → List ℕ → Code → Type 0
MisreadsString format text code = (is_described format text ≡ false) × (code ≡ BadText)

abbrev pub MisreadsPlain : List ℕ → Code → Type 0
MisreadsPlain text code = (fault : DoubleFault) × IsDoubleFault text fault × (code ≡ double_code fault)

-- a text that isn't written as the pattern says, or whose mantissa is no number, or that writes a text which is no double
abbrev pub MisreadsFormatted : NumberFormat → List ℕ → Code → Type 0
MisreadsFormatted f text code =
    ((fits_pattern f (chars text) ≡ false) × (code ≡ BadDouble))
    ⊎ (((fits_pattern f (chars text) ≡ true) × (fault : NumberFault) × HasNoPlain f text fault × (code ≡ number_code BadDouble fault))
    ⊎ ((fits_pattern f (chars text) ≡ true) × (plain : List ℕ) × IsPlainOf f text plain × MisreadsPlain plain code))

abbrev pub MisreadsDouble : Option Format → List ℕ → Code → Type 0
MisreadsDouble (Some (formats.Number f)) text code = MisreadsFormatted f text code
MisreadsDouble _ text code = MisreadsPlain text code

abbrev pub MisreadsText : TextType → Option Format → List ℕ → Code → Type 0
MisreadsText t format text code = (text_value t format text ≡ None) × (code ≡ text_code t)

-- the text is not a value, for this reason
abbrev pub MisreadAs : Simple → Option Format → List ℕ → Code → Type 0
MisreadAs simples.Text format text code = MisreadsString format text code
MisreadAs simples.Uri format text code = MisreadsString format text code
MisreadAs (simples.Other t) format text code = MisreadsText t format text code
MisreadAs (simples.Floating t) format text code = MisreadsDouble format text code
MisreadAs simples.Truth format text code = ((b : Bool) → ¬ SpellsTruth format text b) × (code ≡ BadBoolean)
MisreadAs simples.Whole format text code = MisreadsNumber BadInteger (whole_rules format) format text code
MisreadAs (simples.Derived w) format text code =
    MisreadsNumber BadInteger (whole_rules format) format text code
    ⊎ ((z : ℤ) × ReadsNumberAs (whole_rules format) format text z × (¬ IsInWidth w z) × (code ≡ OutOfRange))
MisreadAs simples.Decimal format text code = MisreadsNumber BadDecimal (decimal_rules format) format text code
MisreadAs simples.Day format text code = ((day : ℤ) → ¬ ReadsDate (date_format format) text day) × (code ≡ BadDate)
MisreadAs simples.Moment format text code = ((moment : ℤ) → ¬ ReadsMoment (moment_format format) text moment) × (code ≡ BadDateTime)

-- the text is not a value under a datatype, for this reason
abbrev pub Misread : Datatype → List ℕ → Code → Type 0
Misread d text code = MisreadAs d.simple d.format text code
