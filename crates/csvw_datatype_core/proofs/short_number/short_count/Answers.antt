use Rattle.std.proofs.Common.{sym, ◌∙◌, ◌^◌, ◌<◌, arith}
use Rattle.csvw_datatype_core.proofs.ShortLemmas.{counts}
use Rattle.csvw_datatype_core.proofs.short_number.short_count.Goals as goal

pub returns-in_ok-units-in-len1-up-clause-count : goal.returns-in_ok-units-in-len1-up-clause-count
returns-in_ok-units-in-len1-up-clause-count c =
    let whole = c.whole_digits-whole.result in
    let low : whole.value < 10 ^ 20 = omega arith in
    counts c.args.rules.now c.args.read.has_sign c.args.read.minus c.args.read.digits.now whole.rest.now whole.value
    c.in_ok-units-in-len1-up.units c.in-len1-up.len_at_least
    (sym c.is_ascii_digit.ensures.value ∙ c.if-is_ascii_digit.true) low (c.whole_digits-whole.ensures c.args.rules.now) c.in_ok-units-in-len1-up.ensures
