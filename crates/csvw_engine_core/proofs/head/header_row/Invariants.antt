-- The cells of the fields passed so far.
use Rattle.std.proofs.Common.{◌≡◌, take}
use Rattle.csvw_rows.specs.RowValue.{row_of}
use Rattle.csvw_engine_core.proofs.head.header_row.Given as goal

abbrev pub invariant-loop-i : goal.invariant-loop-i
invariant-loop-i l = l.cells.items ≡ take l.i (row_of l.raw).fields
