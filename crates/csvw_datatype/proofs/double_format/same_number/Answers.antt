-- What isn't read is no number by the rules and the parts of the definition.
use Rattle.csvw_datatype.proofs.ExponentLemmas.{no_number}
use Rattle.csvw_datatype.proofs.double_format.same_number.Goals as goal

pub returns-in-Err : goal.returns-in-Err
returns-in-Err c =
    no_number c.args.format.now c.args.text.now _ c.mantissa_rules.result c.mantissa.result.now c.in-Err.fault c.mantissa_rules.ensures
    c.mantissa.ensures c.at_exponent-parts.ensures c.in-Err.ensures
