-- The number of times that each fault occurs determines a sorted list.
use Rattle.csvw_report.proofs.OneOrder.{sorts_to_one}
use Rattle.csvw_report.proofs.laws.sorts_to_one.Goals as goal

pub returns : goal.returns
returns c = sorts_to_one
