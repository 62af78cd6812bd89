-- The cells passed so far, and the others after them.
use Rattle.std.proofs.Common.{◌≡◌, take, length}
use Rattle.csvw_rows.specs.RowValue.{row_of}
use Rattle.csvw_annotate.specs.Annotated.{AreCells}
use Rattle.csvw_annotate.proofs.annotating.fill_cells.Given as goal

abbrev pub invariant-loop-i : goal.invariant-loop-i
invariant-loop-i l = record {
  places : length l.cells ≡ length l.columns;
  filled : AreCells (take l.i l.columns) (row_of l.row).fields (take l.i l.cells);
}
