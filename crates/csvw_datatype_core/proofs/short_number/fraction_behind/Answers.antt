use Rattle.std.proofs.Common.{sym, ◌∙◌, ◌<◌, arith, length, slice_index_or}
use Rattle.std.proofs.lemmas.Bool.Decides.{nat_tests}
use Rattle.csvw_datatype_core.proofs.ShortLemmas.{whole_ends, fraction_ends}
use Rattle.csvw_datatype_core.proofs.short_number.fraction_behind.Goals as goal

pub returns-in-empty : goal.returns-in-empty
returns-in-empty c = λ s begun whole. whole_ends c.args.rules.now s c.args.bytes.now c.in-empty.len_below begun whole

pub returns-then-is_empty : goal.returns-then-is_empty
returns-then-is_empty c = λ s begun whole.
    let fraction = c.fraction_digits-fraction.result in
    let low : slice_index_or c.args.bytes.now 0 0 < 128 = grind (arith, nat_tests, c.is_ascii.ensures, c.if-is_ascii.true) in
    let none : length fraction.rest.now < 1 = grind (arith, nat_tests, c.is_empty.ensures, c.if-is_empty.true) in
    fraction_ends c.args.rules.now s c.args.bytes.now fraction.rest.now fraction.units fraction.weight c.requires c.in-len1-up.len_at_least low
    (sym c.holds.ensures ∙ c.if-holds.true) begun whole none (c.fraction_digits-fraction.ensures c.args.rules.now)
