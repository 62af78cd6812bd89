-- The order of two numbers is that of their digits, points and signs.
use Rattle.std.proofs.Common.{◌∙◌, Some, ap}
use Rattle.csvw_double.proofs.OrderLemmas.{numbers_are}
use Rattle.csvw_double.proofs.order.compare_doubles.Goals as goal

pub returns-in-Number-Number : goal.returns-in-Number-Number
returns-in-Number-Number c =
    ap Some c.compare_decimals.ensures
    ∙ numbers_are c.args.a.now c.args.b.now c.in_ok-first.first c.in_ok-second.second c.in-Number-Number.x c.in-Number-Number.y
    c.in_ok-first.ensures c.in_ok-second.ensures c.in-Number-Number.is-0 c.in-Number-Number.is-1
