-- The titles of the rows passed so far.
use Rattle.std.proofs.Common.{◌≡◌, take}
use Rattle.csvw_columns_core.specs.HeaderColumns.{titles_at}
use Rattle.csvw_columns_core.proofs.header_columns.titles_at.Given as goal

abbrev pub invariant-loop-row : goal.invariant-loop-row
invariant-loop-row l = l.titles ≡ titles_at (take l.row-index l.rows) l.i
