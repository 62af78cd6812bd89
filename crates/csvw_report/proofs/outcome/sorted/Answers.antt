-- The derived order is that of reports.
use Rattle.std.proofs.Common.{sym, subst}
use Rattle.std.specs.List.Sorted.{IsSorted}
use Rattle.csvw_report.specs.Order.{fault_cmp}
use Rattle.csvw_report.proofs.OrderFacts.{sorted-is}
use Rattle.csvw_report.proofs.outcome.sorted.Goals as goal

pub returns-clause-order : goal.returns-clause-order
returns-clause-order c = subst (IsSorted fault_cmp) (sym c.of.ensures) (sorted-is c.sort_unstable.new.self.items c.sort_unstable.ensures.sorted)
