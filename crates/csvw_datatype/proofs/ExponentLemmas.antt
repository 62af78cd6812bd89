-- What isn't read before an exponent is no number.
use Rattle.std.proofs.Common.{◌≡◌, ℕ, Option, List, subst}
use Rattle.std.specs.Str.{chars}
use Rattle.csvw_datatype_core.specs.declared.number.NumberRules.{NumberRules}
use Rattle.csvw_datatype_core.specs.declared.number.NumberFault.{NumberFault}
use Rattle.csvw_datatype_core.specs.Misread.{MisreadNumber}
use Rattle.csvw_datatype.specs.declared.format.NumberFormat.{NumberFormat}
use Rattle.csvw_datatype.specs.DoubleFormats.{IsNoNumber, at_exponent, mantissa, mantissa_rules}

pub no_number : (f : NumberFormat) (text : List ℕ) (parts : Option (List ℕ × List ℕ)) (rules : NumberRules) (before : List ℕ) (fault : NumberFault)
    → rules ≡ mantissa_rules f parts → before ≡ mantissa text parts → parts ≡ at_exponent f text → MisreadNumber rules (chars before) fault
    → IsNoNumber f text (at_exponent f text) fault
no_number f text parts rules before fault r b p h =
    let with_rules : MisreadNumber (mantissa_rules f parts) (chars before) fault = subst (λ x. MisreadNumber x (chars before) fault) r h in
    subst (λ q. IsNoNumber f text q fault) p (subst (λ x. MisreadNumber (mantissa_rules f parts) (chars x) fault) b with_rules)
