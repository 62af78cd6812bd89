-- The items of the tables so far.
use Rattle.std.proofs.Common.{◌≡◌, ◌++◌, take, flat_map}
use Rattle.csvw_description.specs.Unknown.{in_table}
use Rattle.csvw_columns.proofs.warnings.push_tables.Given as goal

abbrev pub invariant-loop-table : goal.invariant-loop-table
invariant-loop-table l = l.out.items ≡ l.initial.out.items ++ flat_map in_table (take l.table-index l.tables)
