-- The rows of a piece of a table's file, as rows of the whole table: `ComesBefore`, `AreRowsTo`.
use Rattle.std.specs.Prelude.{◌≡◌, ◌<◌, ◌+◌, ℕ, zero, suc, false, true, List, [], ◌++◌, length, Option, Some, None}
use Rattle.csvw_records.specs.Files.{Body, remaining}
use Rattle.csvw_records.specs.Files.{Row as Record}
use Rattle.csvw_records.specs.FirstRows.{AreFirst}
use Rattle.csvw_records.specs.RowValue.{Given}
use Rattle.csvw_part_laws.specs.Parts.{AreWholeRows}
use Rattle.csvw_part_plan.specs.declared.piece.Piece.{Piece}
use Rattle.csvw_fault.specs.declared.fault.Fault.{Fault}
use Rattle.csvw_columns_core.specs.declared.columns.Columns.{Columns}
use Rattle.csvw_columns.specs.declared.plan.TablePlan.{TablePlan}
use Rattle.csvw_annotate.specs.declared.row.Row.{Row}
use Rattle.csvw_engine_core.specs.Annotated.{HasRows, IsHead, IsTable, IsWholeTable, header_count}
use Rattle.csvw_engine_core.specs.Tables.{IsAtRest, max_rows}

-- The front of a file makes these columns and faults of the header.
pub record IsFront (plan : TablePlan) (front : List ℕ) (columns : Columns) (faults : List Fault) : Type 0 where
  pub given : List Given
  pub first : AreFirst plan.dialect max_rows front false given
  pub head : IsHead plan given (Some columns) faults

-- The bytes before a later piece begin with the front of the file. They are whole rows in the numbers of the piece, which are these annotated
-- rows of the table.
pub record StandBefore (plan : TablePlan) (piece : Piece) (front : List ℕ) (columns : Option Columns) (bytes : List ℕ) (rows : List Row) : Type 0 where
  pub between : List ℕ
  pub begins : bytes ≡ front ++ between
  pub whole : List Record
  pub are_rows : AreWholeRows plan.dialect bytes whole
  pub count : piece.rows_before ≡ length whole
  pub data_count : header_count plan + piece.data_rows_before ≡ length (remaining plan.dialect 1 whole)
  pub annotated : HasRows plan columns (Body plan.dialect whole) rows

-- these bytes, with these rows, come before a piece that begins at a byte; nothing comes before the first piece
abbrev pub ComesBefore : ℕ → TablePlan → Piece → List ℕ → Option Columns → List ℕ → List Row → Type 0
ComesBefore zero plan piece front columns bytes rows = (bytes ≡ []) × (rows ≡ [])
ComesBefore (suc byte) plan piece front columns bytes rows = StandBefore plan piece front columns bytes rows

-- The bytes are whole rows, in the numbers of a piece that begins there.
pub record AreRowsHere (plan : TablePlan) (bytes : List ℕ) (given : List Given) (next : Piece) : Type 0 where
  pub whole : List Record
  pub are_rows : AreWholeRows plan.dialect bytes whole
  pub body : Body plan.dialect whole ≡ given
  pub count : length whole ≡ next.rows_before
  pub data_count : header_count plan + next.data_rows_before ≡ length (remaining plan.dialect 1 whole)

-- no row of any kind comes before a piece, so there is no header row and no data row
abbrev pub HasNoneBefore : TablePlan → List Given → Piece → Type 0
HasNoneBefore plan given next = (given ≡ []) × (header_count plan + next.data_rows_before ≡ 0)

-- The bytes, which are the front of a file, have these rows of the table. A row ends there, and the next piece begins after as many rows of all
-- kinds and data rows as its numbers say.
pub record AreRowsTo (plan : TablePlan) (bytes : List ℕ) (columns : Option Columns) (faults : List Fault) (rows : List Row) (next : Piece) : Type 0 where
  pub given : List Given
  pub first : AreFirst plan.dialect max_rows bytes false given
  pub table : IsTable plan given columns faults rows
  pub ends : 0 < next.rows_before → AreRowsHere plan bytes given next
  pub none : next.rows_before ≡ 0 → HasNoneBefore plan given next

-- The bytes are a whole file, whose rows are these rows of the table.
pub record AreAllRows (plan : TablePlan) (bytes : List ℕ) (columns : Option Columns) (faults : List Fault) (rows : List Row) : Type 0 where
  pub given : List Given
  pub at_rest : IsAtRest plan bytes true given
  pub known : Columns
  pub columns_are : columns ≡ Some known
  pub table : IsWholeTable plan given known faults rows

-- the bytes up to the end of a piece have these rows, if this piece of its table follows
abbrev pub AreRowsUpTo : Option Piece → TablePlan → List ℕ → Option Columns → List Fault → List Row → Type 0
AreRowsUpTo (Some next) plan bytes columns faults rows = AreRowsTo plan bytes columns faults rows next
AreRowsUpTo None plan bytes columns faults rows = AreAllRows plan bytes columns faults rows
