-- The mismatches of the columns passed so far.
use Rattle.std.proofs.Common.{◌≡◌, take}
use Rattle.csvw_columns_core.specs.HeaderFits.{mismatches_from, last_source}
use Rattle.csvw_columns_core.proofs.header.mismatches_at.Given as goal

abbrev pub invariant-loop-i : goal.invariant-loop-i
invariant-loop-i l = l.faults ≡ mismatches_from l.table (last_source l.rows) l.rows 0 (take l.i l.columns)
