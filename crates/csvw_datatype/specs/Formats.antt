-- The formats that a datatype may have (Model for Tabular Data, sections 6.4.2 to 6.4.4 and 6.4.6).
use Rattle.std.specs.Prelude.{◌≡◌, ◌≢◌, ℕ, Bool, true, IsTrue, Option, Some, None, List, [], ◌∷◌, ◌++◌}
use Rattle.csvw_datatype_core.specs.declared.number.NumberRules.{NumberRules}
use Rattle.csvw_datatype_core.specs.declared.number_pattern.NumberPattern.{NumberPattern}
use Rattle.csvw_datatype_core.specs.Numbers.{IsLawful}
use Rattle.csvw_datatype_core.specs.NumberPatterns.{fits, pattern_form}
use Rattle.csvw_regex.specs.Expressions.{fits_expression}
use Rattle.csvw_datatype.specs.Bars.{IsTruthText}
use Rattle.csvw_datatype.specs.Strings.{takes_expression}
use Rattle.csvw_datatype.specs.Characters.{IsCharacterOr, IsOptionalCharacter}
use Rattle.csvw_datatype.specs.declared.simple.Simple.{Simple}
use Rattle.csvw_datatype.specs.declared.simple.Simple.TheVariants as simples
use Rattle.csvw_datatype.specs.declared.simple.TextType.TheVariants as types
use Rattle.csvw_datatype.specs.declared.format.TruthFormat.{TruthFormat}
use Rattle.csvw_datatype.specs.declared.format.NumberFormat.{NumberFormat}
use Rattle.csvw_datatype.specs.declared.format.Format.{Format}
use Rattle.csvw_datatype.specs.declared.format.Format.TheVariants as formats

-- two different texts of booleans
abbrev pub AreTruthTexts : TruthFormat → Type 0
AreTruthTexts f = IsTruthText f.if_true × IsTruthText f.if_false × (f.if_true ≢ f.if_false)

-- the two texts, with a vertical line between them
abbrev pub truth_pattern : TruthFormat → List ℕ
truth_pattern f = f.if_true ++ (124 ∷ f.if_false)

-- the format has the characters of these texts, and no pattern; the decimal character is "." if it is absent
pub record IsNumberFormat (decimal_char group_char : Option (List ℕ)) (f : NumberFormat) : Type 0 where
  pub decimal : IsCharacterOr 46 decimal_char f.decimal_char
  pub group : IsOptionalCharacter group_char f.group_char
  pub pattern : f.pattern ≡ None

-- how decimals are written in a format: marks are allowed
abbrev pub format_rules : NumberFormat → NumberRules
format_rules f = record { decimal_char = Some f.decimal_char; group_char = f.group_char; allows_marks = true }

-- the characters are written as the pattern says, if there is one
abbrev pub fits_option : NumberRules → Option NumberPattern → List ℕ → Bool
fits_option rules None cs = true
fits_option rules (Some p) cs = fits rules p cs

abbrev pub fits_pattern : NumberFormat → List ℕ → Bool
fits_pattern f cs = fits_option (format_rules f) f.pattern cs

-- the text of the pattern, if there is one
abbrev pub option_form : NumberRules → Option NumberPattern → List ℕ
option_form rules None = []
option_form rules (Some p) = pattern_form rules p

abbrev pub pattern_form_of : NumberFormat → List ℕ
pattern_form_of f = option_form (format_rules f) f.pattern

-- whether a text fits the pattern of a format, if there is one
abbrev pub fits_format : Option Format → List ℕ → Bool
fits_format (Some (formats.Number f)) cs = fits_pattern f cs
fits_format _ cs = true

-- the format's expression describes the text, if it is one
abbrev pub is_described : Option Format → List ℕ → Bool
is_described (Some (formats.Expression e)) text = fits_expression e text
is_described _ text = true

-- a type may have this format
abbrev pub IsFormatOf : Simple → Option Format → Type 0
IsFormatOf s None = Unit {0}
IsFormatOf s (Some (formats.Expression e)) = IsTrue (takes_expression s)
IsFormatOf simples.Truth (Some (formats.Truth f)) = AreTruthTexts f
IsFormatOf simples.Whole (Some (formats.Number f)) = IsLawful (format_rules f)
IsFormatOf (simples.Derived w) (Some (formats.Number f)) = IsLawful (format_rules f)
IsFormatOf simples.Decimal (Some (formats.Number f)) = IsLawful (format_rules f)
IsFormatOf (simples.Floating t) (Some (formats.Number f)) = IsLawful (format_rules f)
IsFormatOf simples.Day (Some (formats.Day f)) = Unit {0}
IsFormatOf simples.Moment (Some (formats.Moment f)) = Unit {0}
IsFormatOf (simples.Other types.Time) (Some (formats.Time f)) = Unit {0}
IsFormatOf (simples.Other types.Date) (Some (formats.ZonedDay f)) = Unit {0}
IsFormatOf (simples.Other (types.DateTime zone)) (Some (formats.Stamp f)) = Unit {0}
IsFormatOf _ _ = ⊥
