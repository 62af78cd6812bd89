-- The encoded cells of the rows passed so far.
use Rattle.std.proofs.Common.{◌≡◌, take}
use Rattle.csvw_columns_core.specs.HeaderFits.{encoded_cells}
use Rattle.csvw_columns_core.proofs.header.encoded_cells.Given as goal

abbrev pub invariant-loop-row : goal.invariant-loop-row
invariant-loop-row l = l.cells.items ≡ encoded_cells (take l.row-index l.rows) l.i
