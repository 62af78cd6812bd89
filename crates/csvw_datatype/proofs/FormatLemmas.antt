-- The rules of a sound datatype's format are lawful.
use Rattle.std.proofs.Common.{ℕ, List, Option, Some, None, arith}
use Rattle.csvw_datatype_core.specs.Numbers.{IsFree, IsLawful}
use Rattle.csvw_datatype.specs.declared.simple.Simple.TheVariants as simples
use Rattle.csvw_datatype.specs.declared.simple.Width.{Width}
use Rattle.csvw_datatype.specs.declared.simple.Floating.{Floating}
use Rattle.csvw_datatype.specs.declared.format.NumberFormat.{NumberFormat}
use Rattle.csvw_datatype.specs.declared.format.Format.{Format}
use Rattle.csvw_datatype.specs.declared.format.Format.TheVariants as formats
use Rattle.csvw_datatype.specs.DoubleFormats.{mantissa_rules}
use Rattle.csvw_datatype.specs.Formats.{format_rules, IsFormatOf}
use Rattle.csvw_datatype.specs.Reads.{whole_rules, decimal_rules}

point_free : IsFree 46
point_free = record {
  no_digit = λ h. omega arith;
  no_plus = λ e. omega arith;
  no_minus = λ e. omega arith;
  no_percent = λ e. omega arith;
  no_per_mille = λ e. omega arith;
  no_tab = λ e. omega arith;
  no_line_feed = λ e. omega arith;
  no_carriage_return = λ e. omega arith;
}

whole_of : (f : NumberFormat) → IsLawful (format_rules f) → IsLawful (whole_rules (Some (formats.Number f)))
whole_of f l = record { decimal_char = tt; group_char = l.group_char; differ = λ c p q. cc }

plain_whole : IsLawful (whole_rules None)
plain_whole = record { decimal_char = tt; group_char = tt; differ = λ c p q. cc }

plain_decimal : IsLawful (decimal_rules None)
plain_decimal = record { decimal_char = point_free; group_char = tt; differ = λ c p q. cc }

pub whole_lawful : (o : Option Format) → IsFormatOf simples.Whole o → IsLawful (whole_rules o)
whole_lawful None h = plain_whole
whole_lawful (Some (formats.Number f)) h = whole_of f h
whole_lawful (Some (formats.Truth f)) h = plain_whole
whole_lawful (Some (formats.Day f)) h = plain_whole
whole_lawful (Some (formats.Moment f)) h = plain_whole
whole_lawful (Some (formats.Time f)) h = plain_whole
whole_lawful (Some (formats.ZonedDay f)) h = plain_whole
whole_lawful (Some (formats.Stamp f)) h = plain_whole
whole_lawful (Some (formats.Expression e)) h = plain_whole

pub derived_lawful : (w : Width) (o : Option Format) → IsFormatOf (simples.Derived w) o → IsLawful (whole_rules o)
derived_lawful w None h = plain_whole
derived_lawful w (Some (formats.Number f)) h = whole_of f h
derived_lawful w (Some (formats.Truth f)) h = plain_whole
derived_lawful w (Some (formats.Day f)) h = plain_whole
derived_lawful w (Some (formats.Moment f)) h = plain_whole
derived_lawful w (Some (formats.Time f)) h = plain_whole
derived_lawful w (Some (formats.ZonedDay f)) h = plain_whole
derived_lawful w (Some (formats.Stamp f)) h = plain_whole
derived_lawful w (Some (formats.Expression e)) h = plain_whole

pub decimal_lawful : (o : Option Format) → IsFormatOf simples.Decimal o → IsLawful (decimal_rules o)
decimal_lawful None h = plain_decimal
decimal_lawful (Some (formats.Number f)) h = h
decimal_lawful (Some (formats.Truth f)) h = plain_decimal
decimal_lawful (Some (formats.Day f)) h = plain_decimal
decimal_lawful (Some (formats.Moment f)) h = plain_decimal
decimal_lawful (Some (formats.Time f)) h = plain_decimal
decimal_lawful (Some (formats.ZonedDay f)) h = plain_decimal
decimal_lawful (Some (formats.Stamp f)) h = plain_decimal
decimal_lawful (Some (formats.Expression e)) h = plain_decimal

pub floating_lawful : (t : Floating) (o : Option Format) → IsFormatOf (simples.Floating t) o → IsLawful (decimal_rules o)
floating_lawful t None h = plain_decimal
floating_lawful t (Some (formats.Number f)) h = h
floating_lawful t (Some (formats.Truth f)) h = plain_decimal
floating_lawful t (Some (formats.Day f)) h = plain_decimal
floating_lawful t (Some (formats.Moment f)) h = plain_decimal
floating_lawful t (Some (formats.Time f)) h = plain_decimal
floating_lawful t (Some (formats.ZonedDay f)) h = plain_decimal
floating_lawful t (Some (formats.Stamp f)) h = plain_decimal
floating_lawful t (Some (formats.Expression e)) h = plain_decimal

-- the rules of a mantissa differ from those of a number in marks alone
pub mantissa_lawful : (f : NumberFormat) (parts : Option (List ℕ × List ℕ)) → IsLawful (format_rules f) → IsLawful (mantissa_rules f parts)
mantissa_lawful f parts l = record { decimal_char = l.decimal_char; group_char = l.group_char; differ = l.differ }
