-- The items so far.
use Rattle.std.proofs.Common.{◌≡◌, map, take}
use Rattle.csvw_description.specs.Name.{numbered_names}
use Rattle.csvw_columns.specs.PlanOf.{schema_of}
use Rattle.csvw_columns.proofs.references.all_names.Given as goal

abbrev pub invariant-loop-table : goal.invariant-loop-table
invariant-loop-table l = l.all.items ≡ map (λ t. numbered_names 0 (schema_of t.schema l.group).columns) (take l.table-index l.tables)
