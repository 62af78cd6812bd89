use Rattle.std.proofs.Common.{sym, ◌∙◌}
use Rattle.csvw_datatype_core.proofs.ShortLemmas.{whole_read, whole_begins}
use Rattle.csvw_datatype_core.proofs.short_number.whole_digits.Goals as goal

pub loop-rest-init : goal.loop-rest-init
loop-rest-init c = λ rules s begun place whole. whole_begins rules s c.args.bytes.now c.args.first whole

pub loop-rest-preserved : goal.loop-rest-preserved
loop-rest-preserved c = λ rules s begun place whole.
    whole_read rules s c.args.bytes.now c.loop-rest.rest.now c.loop-rest.value place c.if-value-lt-SHORT_LIMIT.true c.in-len1-up.len_at_least
    (sym c.is_ascii_digit.ensures.value ∙ c.if-is_ascii_digit.true) (c.loop-rest.invariant rules s begun place whole)
