-- The faults of the rows passed so far.
use Rattle.std.proofs.Common.{◌≡◌, take}
use Rattle.csvw_columns_core.specs.HeaderFits.{count_faults}
use Rattle.csvw_columns_core.proofs.header.count_faults.Given as goal

abbrev pub invariant-loop-row : goal.invariant-loop-row
invariant-loop-row l = l.faults ≡ count_faults l.table l.count (take l.row-index l.rows)
