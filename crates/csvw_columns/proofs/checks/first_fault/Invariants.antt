-- The tables passed so far are fit.
use Rattle.std.proofs.Common.{ℕ, ◌<◌, get_or}
use Rattle.csvw_description.specs.declared.table.TableDescription.{TableDescription}
use Rattle.csvw_description.specs.Plannable.{IsFitTable}
use Rattle.csvw_columns.proofs.checks.first_fault.Given as goal

abbrev pub invariant-loop-table : goal.invariant-loop-table
invariant-loop-table l = (k : ℕ) → k < l.table-index → (d : TableDescription) → IsFitTable (get_or l.tables k d)
