-- A text that is no decimal by the rules of its format.
use Rattle.std.proofs.Common.{subst}
use Rattle.csvw_fault.specs.declared.fault.Code.TheVariants.{BadDecimal}
use Rattle.csvw_datatype_core.specs.declared.number.NumberRules.{NumberRules}
use Rattle.csvw_datatype.specs.Reads.{MisreadsNumber}
use Rattle.csvw_datatype.proofs.read.read_decimal.Goals as goal

pub returns-in-Err : goal.returns-in-Err
returns-in-Err c =
    let P : NumberRules → Type 0 = λ r. MisreadsNumber BadDecimal r c.args.format.now c.args.text.now c.in-Err.code in
    subst P c.decimal_rules.ensures c.in-Err.ensures
