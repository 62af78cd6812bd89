-- The first columns.
use Rattle.std.proofs.Common.{◌≡◌}
use Rattle.csvw_columns_core.specs.HeaderColumns.{titled_columns}
use Rattle.csvw_columns_core.proofs.header_columns.titled_columns.Given as goal

abbrev pub invariant-loop-i : goal.invariant-loop-i
invariant-loop-i l = l.columns.items ≡ titled_columns l.rows l.i
