-- Numbers with an exponent in a format: the text of XML Schema that a text writes (Model for Tabular Data, section 6.4.2).
use Rattle.std.specs.Prelude.{◌≡◌, ℕ, ◌⊎◌, Bool, true, false, not, Option, Some, None, is_some, if◌then◌else◌, List, [], ◌∷◌, ◌++◌, ℤ}
use Rattle.std.specs.Str.{chars}
use Rattle.csvw_datatype_core.specs.declared.number.NumberRules.{NumberRules}
use Rattle.csvw_datatype_core.specs.declared.number.NumberFault.{NumberFault}
use Rattle.csvw_datatype_core.specs.Forms.{number_form}
use Rattle.csvw_datatype_core.specs.Misread.{MisreadNumber}
use Rattle.csvw_datatype_core.specs.Numbers.{ReadsNumber}
use Rattle.csvw_double.specs.Forms.{special_form}
use Rattle.csvw_datatype_core.specs.declared.number_pattern.NumberPattern.{NumberPattern}
use Rattle.csvw_datatype.specs.declared.format.NumberFormat.{NumberFormat}
use Rattle.csvw_datatype.specs.Splits.{parts_at}

-- The text before the first "E" and the text after it, if there is one. Under a pattern without an exponent an "E" is before no exponent.
abbrev pub exponent_by : Option NumberPattern → List ℕ → Option (List ℕ × List ℕ)
exponent_by None text = parts_at 69 text
exponent_by (Some p) text = if is_some p.exponent then parts_at 69 text else None

abbrev pub at_exponent : NumberFormat → List ℕ → Option (List ℕ × List ℕ)
at_exponent f text = exponent_by f.pattern text

-- how a number is written before its exponent: it has a mark only if it has no exponent
abbrev pub mantissa_rules : NumberFormat → Option (List ℕ × List ℕ) → NumberRules
mantissa_rules f parts = record { decimal_char = Some f.decimal_char; group_char = f.group_char; allows_marks = not (is_some parts) }

-- the text before the exponent
abbrev pub mantissa : List ℕ → Option (List ℕ × List ℕ) → List ℕ
mantissa text None = text
mantissa text (Some x) = x.0

-- the exponent, with its "E"
abbrev pub exponent : Option (List ℕ × List ℕ) → List ℕ
exponent None = []
exponent (Some x) = 69 ∷ x.1

-- `INF`, `-INF` or `NaN`, which have no other characters in a format
abbrev pub is_special : List ℕ → Bool
is_special text = is_some (special_form text)

-- the parts of a text write a number, and this text of XML Schema is the same number
abbrev pub IsSameNumber : NumberFormat → List ℕ → Option (List ℕ × List ℕ) → List ℕ → Type 0
IsSameNumber f text parts plain =
    (z : ℤ) × ReadsNumber (mantissa_rules f parts) (chars (mantissa text parts)) z × (plain ≡ number_form z ++ exponent parts)

-- the text of XML Schema that a text in the format writes
abbrev pub IsPlainOf : NumberFormat → List ℕ → List ℕ → Type 0
IsPlainOf f text plain =
    ((is_special text ≡ true) × (plain ≡ text)) ⊎ ((is_special text ≡ false) × IsSameNumber f text (at_exponent f text) plain)

-- the parts of a text write no number, for this reason
abbrev pub IsNoNumber : NumberFormat → List ℕ → Option (List ℕ × List ℕ) → NumberFault → Type 0
IsNoNumber f text parts fault = MisreadNumber (mantissa_rules f parts) (chars (mantissa text parts)) fault

-- the text before the exponent is no number of the format
abbrev pub HasNoPlain : NumberFormat → List ℕ → NumberFault → Type 0
HasNoPlain f text fault = (is_special text ≡ false) × IsNoNumber f text (at_exponent f text) fault
