-- The plans made so far, and then those of the tables left.
use Rattle.std.proofs.Common.{◌≡◌, ◌++◌, ◌+◌, length}
use Rattle.std.specs.Prelude.{All}
use Rattle.std.specs.Vec.Iter.{into_iter_items}
use Rattle.csvw_description.specs.Plannable.{IsFitTable}
use Rattle.csvw_columns.specs.PlanOf.{table_plans}
use Rattle.csvw_columns.proofs.planning.table_plans.Given as goal

abbrev pub invariant-loop-table : goal.invariant-loop-table
invariant-loop-table l = record {
  made : l.plans.items ++ table_plans l.known.targets l.group (length l.plans.items + 1) (into_iter_items l.table-iterator)
      ≡ table_plans l.known.targets l.group 1 l.fn.tables.items;
  left : All IsFitTable (into_iter_items l.table-iterator);
  count : length l.plans.items + length (into_iter_items l.table-iterator) ≡ length l.fn.tables.items;
}
