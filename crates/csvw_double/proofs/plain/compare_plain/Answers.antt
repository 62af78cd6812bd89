-- The order of two numbers in digits alone is that of the numbers.
use Rattle.std.proofs.Common.{◌∙◌, Some, ap, sym}
use Rattle.csvw_double.proofs.PlainOrderLemmas.{plain_order}
use Rattle.csvw_double.proofs.plain.compare_plain.Goals as goal

pub returns : goal.returns
returns c =
    plain_order c.args.a.now c.args.b.now c.in_ok-first.first c.in_ok-second.second c.in_ok-first.ensures c.in_ok-second.ensures
    ∙ ap Some (sym c.compare.ensures)
