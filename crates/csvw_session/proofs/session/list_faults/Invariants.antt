-- The faults of the tables passed so far were added.
use Rattle.std.proofs.Common.{◌≡◌, ◌++◌, take}
use Rattle.csvw_session.specs.Faults.{all_faults}
use Rattle.csvw_session.proofs.session.list_faults.Given as goal

abbrev pub invariant-loop-table : goal.invariant-loop-table
invariant-loop-table l = l.faults ≡ l.initial.faults ++ all_faults (take l.table-index l.tables)
