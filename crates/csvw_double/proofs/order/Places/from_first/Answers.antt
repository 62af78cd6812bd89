-- The first piece has zeros alone, or another digit.
use Rattle.std.proofs.Common.{◌∙◌}
use Rattle.csvw_double.proofs.PlaceLemmas.{after_empty, after_some}
use Rattle.csvw_double.proofs.order.Places.from_first.Goals as goal

pub returns-in-empty : goal.returns-in-empty
returns-in-empty c =
    c.after_zeros-in-empty.ensures ∙ after_empty c.args.self.whole.now c.args.self.fraction.now c.after_zeros.result.now c.after_zeros.ensures c.in-empty.len_below

pub returns-in-len1-up : goal.returns-in-len1-up
returns-in-len1-up c =
    after_some c.args.self.whole.now c.args.self.fraction.now c.after_zeros.result.now c.after_zeros.ensures c.in-len1-up.len_at_least
