-- The constraints that a group of annotated tables violates: `violations`, `AreViolations` (Model for Tabular Data, sections 6
-- and 8).
use Rattle.std.specs.Prelude.{ℕ, zero, suc, List, [], ◌++◌, flat_map, slice_get, Option, Some, None}
use Rattle.std.specs.List.{zip}
use Rattle.std.specs.List.Sorted.{IsPermutation, IsSorted}
use Rattle.csvw_fault.specs.declared.fault.Fault.{Fault}
use Rattle.csvw_columns.specs.declared.plan.Plan.{Plan}
use Rattle.csvw_columns.specs.declared.plan.TablePlan.{TablePlan}
use Rattle.csvw_annotate.specs.declared.row.Row.{Row}
use Rattle.csvw_keys.specs.KeyRules.{key_faults, rules_of}
use Rattle.csvw_engine_core.specs.Faults.{table_faults}
use Rattle.csvw_report.specs.Order.{fault_cmp}
use Rattle.csvw_group_laws.specs.Annotated.{Table}

-- the faults of the header of a table, and each code of each of its cells
abbrev pub table_violations : TablePlan → Table → List Fault
table_violations plan table = table.header_faults ++ table_faults plan.number (Some table.columns) table.rows

-- those of all tables
abbrev pub tables_violations : List TablePlan → List Table → List Fault
tables_violations plans tables = flat_map (λ p. table_violations p.0 p.1) (zip plans tables)

-- the rows of a table, if it is there
abbrev pub rows_at : Option Table → List Row
rows_at None = []
rows_at (Some table) = table.rows

-- the rows of the table of a number, from 1
abbrev pub rows_of : List Table → ℕ → List Row
rows_of tables zero = []
rows_of tables (suc i) = rows_at (slice_get tables i)

-- the warnings of the metadata, the faults of the tables, and the faults of the rows of whole tables by their keys
abbrev pub violations : Plan → List Table → List Fault
violations plan tables = (plan.warnings ++ tables_violations plan.tables tables) ++ key_faults (rules_of plan) (rows_of tables)

-- The list of the violations in the order of reports, each as often as it has causes. There is one such list.
pub record AreViolations (plan : Plan) (tables : List Table) (faults : List Fault) : Type 0 where
  pub same : IsPermutation (violations plan tables) faults
  pub sorted : IsSorted fault_cmp faults
