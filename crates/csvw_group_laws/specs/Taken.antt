-- Tables whose events a session took, all or those before a stop: `AreTaken`, `AreTakenBefore` (Model for Tabular Data, sections
-- 4.1 to 4.5 and 8).
use Rattle.std.specs.Prelude.{◌≡◌, ℕ, ◌+◌, Bool, true, false, List, [], ◌∷◌, ◌++◌, slice_get, Option, Some}
use Rattle.csvw_fault.specs.declared.fault.Fault.{Fault}
use Rattle.csvw_records.specs.RowValue.{Given}
use Rattle.csvw_rows.specs.RowsState.{HasGiven, NoStop}
use Rattle.csvw_columns_core.specs.declared.columns.Columns.{Columns}
use Rattle.csvw_columns.specs.declared.plan.TablePlan.{TablePlan}
use Rattle.csvw_annotate.specs.declared.row.Row.{Row}
use Rattle.csvw_engine_core.specs.Annotated.{IsTable, IsWholeTable}
use Rattle.csvw_engine_core.specs.Tables.{max_rows}
use Rattle.csvw_session.specs.Events.{Event, table_of, text_of, ended_in}

-- the rows of a text that goes on are a table so far; those of a text that has ended are a whole table
abbrev pub IsTableSoFar : TablePlan → Bool → List Given → Type 0
IsTableSoFar plan false given = (columns : Option Columns) × (faults : List Fault) × (rows : List Row) × IsTable plan given columns faults rows
IsTableSoFar plan true given = (columns : Columns) × (faults : List Fault) × (rows : List Row) × IsWholeTable plan given columns faults rows

-- The text so far has no stop, and the table refuses no row of it.
pub record IsTaken (plan : TablePlan) (text : List ℕ) (ended : Bool) : Type 0 where
  pub given : List Given
  pub all : HasGiven plan.dialect max_rows text ended given
  pub no_stop : NoStop plan.dialect max_rows text ended
  pub table : IsTableSoFar plan ended given

-- each table was taken so far
abbrev pub AreTaken : List TablePlan → List Event → Type 0
AreTaken plans events = (i : ℕ) (plan : TablePlan) → slice_get plans i ≡ Some plan → IsTaken plan (text_of events (i + 1)) (ended_in events (i + 1))

-- The last of these events is of table t, and all events before it were taken.
pub record AreTakenBefore (plans : List TablePlan) (events : List Event) (t : ℕ) : Type 0 where
  pub before : List Event
  pub event : Event
  pub all : events ≡ before ++ event ∷ []
  pub of_table : table_of event ≡ t
  pub taken : AreTaken plans before
