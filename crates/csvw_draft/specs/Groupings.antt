-- Numbers with group characters that a draft looks for, as 63 110: a group character is before each three digits of the whole part.
use Rattle.std.specs.Prelude.{ℕ, Option, Some, None, List, ℤ, false, if◌then◌else◌}
use Rattle.std.specs.Str.{chars}
use Rattle.csvw_datatype_core.specs.declared.number.NumberRules.{NumberRules}
use Rattle.csvw_datatype_core.specs.declared.number.Mark.TheVariants.{Plain}
use Rattle.csvw_datatype_core.specs.declared.number_pattern.NumberPattern.{NumberPattern}
use Rattle.csvw_datatype_core.specs.NumberPatterns.{fits}
use Rattle.csvw_datatype_core.specs.Values.{number_value}
use Rattle.csvw_draft.specs.declared.grouping.GroupChar.{GroupChar}
use Rattle.csvw_draft.specs.declared.grouping.GroupChar.TheVariants.{Space, NoBreakSpace, NarrowNoBreakSpace, Apostrophe}
use Rattle.csvw_draft.specs.declared.grouping.Fraction.{Fraction}
use Rattle.csvw_draft.specs.declared.grouping.Fraction.TheVariants as fractions
use Rattle.csvw_draft.specs.declared.grouping.Grouping.{Grouping}

abbrev pub group_char : GroupChar → ℕ
group_char Space = 0x20
group_char NoBreakSpace = 0xA0
group_char NarrowNoBreakSpace = 0x202F
group_char Apostrophe = 0x27

abbrev pub decimal_char : Fraction → Option ℕ
decimal_char fractions.None = None
decimal_char fractions.Point = Some 46
decimal_char fractions.Comma = Some 44

abbrev pub rules_of : Grouping → NumberRules
rules_of g = record { decimal_char = decimal_char g.fraction; group_char = Some (group_char g.group_char); allows_marks = false }

-- the pattern #,##0.################## with these characters
abbrev pub thousands : NumberPattern
thousands = record {
  needs_sign = false;
  least_whole = 1;
  groups = Some (record { last = 3; other = 3 });
  least_fraction = 0;
  most_fraction = 18;
  mark = Plain;
  exponent = None;
}

-- the number of a text whose group characters are before each three digits
abbrev pub grouped_value : Grouping → List ℕ → Option ℤ
grouped_value g text = if fits (rules_of g) thousands (chars text) then number_value (rules_of g) (chars text) else None
