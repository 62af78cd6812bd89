use Rattle.std.proofs.Common.{sym, ◌∙◌}
use Rattle.csvw_datatype_core.proofs.ShortLemmas.{fraction_begins, fraction_read}
use Rattle.csvw_datatype_core.proofs.short_number.fraction_digits.Goals as goal

pub loop-rest-init : goal.loop-rest-init
loop-rest-init c = fraction_begins c.args.bytes.now

pub loop-rest-preserved : goal.loop-rest-preserved
loop-rest-preserved c =
    fraction_read c.args.bytes.now c.loop-rest.rest.now c.loop-rest.units c.loop-rest.weight c.if-weight-gt0.true c.in-len1-up.len_at_least
    (sym c.is_ascii_digit.ensures.value ∙ c.if-is_ascii_digit.true) c.loop-rest.invariant
