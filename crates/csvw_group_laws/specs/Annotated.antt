-- The annotated tables of a group: `AreAnnotated` (Model for Tabular Data, sections 4.1 to 4.5 and 8).
use Rattle.std.specs.Prelude.{◌≡◌, ℕ, List, length, slice_get, Some}
use Rattle.csvw_fault.specs.declared.fault.Fault.{Fault}
use Rattle.csvw_records.specs.Files.{Row as FileRow, File, Body}
use Rattle.csvw_columns_core.specs.declared.columns.Columns.{Columns}
use Rattle.csvw_columns.specs.declared.plan.TablePlan.{TablePlan}
use Rattle.csvw_annotate.specs.declared.row.Row.{Row}
use Rattle.csvw_engine_core.specs.Annotated.{IsWholeTable}
use Rattle.csvw_engine_core.specs.Tables.{max_rows}

-- an annotated table: its columns, the faults of its header, and its rows
pub record Table : Type 0 where
  pub columns : Columns
  pub header_faults : List Fault
  pub rows : List Row

-- the text is a file by the dialect of the table, and the header rows and data rows of that file are the table
pub record IsAnnotated (plan : TablePlan) (text : List ℕ) (table : Table) : Type 0 where
  pub file : List FileRow
  pub is_file : File plan.dialect max_rows text file
  pub whole : IsWholeTable plan (Body plan.dialect file) table.columns table.header_faults table.rows

-- the table of each plan, whose text is the one at its place, from 0
pub record AreAnnotated (plans : List TablePlan) (texts : ℕ → List ℕ) (tables : List Table) : Type 0 where
  pub many : length tables ≡ length plans
  pub each : (i : ℕ) (plan : TablePlan) (table : Table) → slice_get plans i ≡ Some plan → slice_get tables i ≡ Some table → IsAnnotated plan (texts i) table
