-- The fields of the first columns were counted.
use Rattle.std.proofs.Common.{◌≡◌, ◌≤◌, take}
use Rattle.csvw_columns_core.specs.Columns.{field_count}
use Rattle.csvw_columns_core.proofs.columns.count_fields.Given as goal

abbrev pub invariant-loop-column : goal.invariant-loop-column
invariant-loop-column l = record {
  counted : l.count ≡ field_count (take l.column-index l.columns);
  within : l.count ≤ l.column-index;
}
