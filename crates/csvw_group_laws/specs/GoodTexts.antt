-- Texts that begin annotated tables: `GoesOnToTable` (Model for Tabular Data, sections 4.1 to 4.5 and 8).
use Rattle.std.specs.Prelude.{◌≡◌, ℕ, Bool, true, List, [], ◌++◌, Option}
use Rattle.csvw_fault.specs.declared.fault.Fault.{Fault}
use Rattle.csvw_records.specs.Lawful.{IsLawful}
use Rattle.csvw_records.specs.RowValue.{Given}
use Rattle.csvw_records.specs.declared.stop.RowStop.{RowStop}
use Rattle.csvw_columns_core.specs.declared.columns.Columns.{Columns}
use Rattle.csvw_columns.specs.declared.plan.TablePlan.{TablePlan}
use Rattle.csvw_columns_core.specs.declared.table_stop.TableStop.{TableStop}
use Rattle.csvw_annotate.specs.declared.row.Row.{Row}
use Rattle.csvw_engine_core.specs.Annotated.{IsTable}
use Rattle.csvw_engine_core.specs.Tables.{IsStopped}
use Rattle.csvw_session.specs.Sessions.{IsRefusedHere}
use Rattle.csvw_group_laws.specs.Annotated.{Table, IsAnnotated}

-- the text so far begins the text of an annotated table, and is all of it if it has ended
pub record GoesOnToTable (plan : TablePlan) (bytes : List ℕ) (ended : Bool) : Type 0 where
  pub more : List ℕ
  pub none_left : ended ≡ true → more ≡ []
  pub table : Table
  pub annotated : IsAnnotated plan (bytes ++ more) table

-- such a text doesn't stop, and the table refuses neither a row of it nor its header
pub record GoodTextsAreAccepted : Type 0 where
  pub stops : (plan : TablePlan) (bytes : List ℕ) (ended : Bool) (given : List Given) (row : ℕ) (stop : RowStop) → IsLawful plan.dialect
      → GoesOnToTable plan bytes ended → IsStopped plan bytes ended given row stop → ⊥
  pub refuses : (plan : TablePlan) (bytes : List ℕ) (ended : Bool) (given : List Given) (columns : Option Columns) (faults : List Fault) (rows : List Row)
      (row : ℕ) (stop : TableStop) → IsLawful plan.dialect → GoesOnToTable plan bytes ended → IsTable plan given columns faults rows
      → IsRefusedHere plan columns bytes ended given row stop → ⊥
