-- The rows that the bytes up to a place give, and those of a whole file: `FindRows` (Model for Tabular Data, sections 4.1 to 4.5 and 8).
use Rattle.std.specs.Prelude.{◌≡◌, ℕ, List, take, Option, Some}
use Rattle.csvw_annotate.specs.declared.row.Row.{Row}
use Rattle.csvw_columns.specs.Ready.{IsReady}
use Rattle.csvw_columns.specs.declared.plan.TablePlan.{TablePlan}
use Rattle.csvw_columns_core.specs.declared.columns.Columns.{Columns}
use Rattle.csvw_fault.specs.declared.fault.Fault.{Fault}
use Rattle.csvw_group_laws.specs.Annotated.{IsAnnotated, Table}
use Rattle.csvw_part_plan.specs.declared.piece.Piece.{Piece}
use Rattle.csvw_parts.specs.PieceRows.{AreAllRows, AreRowsTo}
use Rattle.csvw_join_laws.specs.PlanPieces.{IsTableBefore}

-- the columns and the header faults that were found are those of this table, and the rows are these
pub record IsFound (table : Table) (columns : Option Columns) (faults : List Fault) (found rows : List Row) : Type 0 where
  pub columns_are : columns ≡ Some table.columns
  pub faults_are : faults ≡ table.header_faults
  pub rows_are : found ≡ rows

pub record FindRows : Type 0 where
  -- the rows up to a later piece are the first rows of the table, as many as the piece says
  pub to_next : (plan : TablePlan) (text : List ℕ) (table : Table) (q : Piece) (columns : Option Columns) (faults : List Fault) (rows : List Row)
      → IsReady plan → IsAnnotated plan text table → IsTableBefore plan table text q
      → AreRowsTo plan (take q.first_byte text) columns faults rows q
      → IsFound table columns faults rows (take q.data_rows_before table.rows)
  -- the rows of the whole file are all rows of the table
  pub to_end : (plan : TablePlan) (text : List ℕ) (table : Table) (columns : Option Columns) (faults : List Fault) (rows : List Row)
      → IsReady plan → IsAnnotated plan text table → AreAllRows plan text columns faults rows → IsFound table columns faults rows table.rows
