-- The texts that the readers of a group returned, and the text in which a run stops: `GaveEvents`, `StopsInText`, `RefusedInText`
-- (Model for Tabular Data, sections 4.1 to 4.5 and 8).
use Rattle.std.specs.Prelude.{◌≡◌, ◌⊎◌, ◌<◌, ◌+◌, ℕ, true, List, [], length, slice_get, Option, Some}
use Rattle.csvw_streams.specs.declared.counted.Counted.{Counted}
use Rattle.csvw_fault.specs.declared.fault.Fault.{Fault}
use Rattle.csvw_records.specs.RowValue.{Given}
use Rattle.csvw_records.specs.declared.stop.RowStop.{RowStop}
use Rattle.csvw_columns_core.specs.declared.columns.Columns.{Columns}
use Rattle.csvw_columns_core.specs.declared.table_stop.TableStop.{TableStop}
use Rattle.csvw_columns.specs.declared.plan.Plan.{Plan}
use Rattle.csvw_columns.specs.declared.plan.TablePlan.{TablePlan}
use Rattle.csvw_annotate.specs.declared.row.Row.{Row}
use Rattle.csvw_engine_core.specs.Annotated.{IsTable}
use Rattle.csvw_engine_core.specs.Tables.{IsStopped}
use Rattle.csvw_engine_core.specs.declared.stop.Stop.{Stop}
use Rattle.csvw_engine_core.specs.declared.stop.Stop.TheVariants as stop
use Rattle.csvw_session.specs.Events.{Event, text_of, ended_in}
use Rattle.csvw_session.specs.Sessions.{IsRefusedHere}
use Rattle.csvw_group_laws.specs.Taken.{AreTaken, AreTakenBefore}
use Rattle.csvw_engine.specs.Reading.{GaveTexts, AreSteady, OneFailed, AreMany}
use Rattle.csvw_engine.specs.ReadOrder.{AreReadIn}
use Rattle.csvw_engine.specs.declared.room.TheConstants.{PIECE}

-- how many bytes are read at once
abbrev pub piece_limit : ℕ
piece_limit = PIECE

-- The readers of this number of tables returned the texts of these events, read in this order, in pieces that have at least one byte and at
-- most this many.
pub record GaveEvents {R : Type 0} (remaining : R → Option (List ℕ)) (order : ℕ → List Event → Type 0) (many : ℕ) (olds news : List (Counted R))
    (events : List Event) : Type 0 where
  pub gave : GaveTexts remaining olds news events
  pub read : AreReadIn order many piece_limit events

-- Each reader was read to its end, and none failed.
pub record ReadToEnds {R : Type 0} (remaining : R → Option (List ℕ)) (order : ℕ → List Event → Type 0) (olds news : List (Counted R))
    (events : List Event) : Type 0 where
  pub gave : GaveEvents remaining order (length olds) olds news events
  pub steady : AreSteady olds news
  pub ended : (i : ℕ) → i < length olds → ended_in events (i + 1) ≡ true

-- The text of table t stops here. The events before the last were taken, and so were the rows before the stop.
pub record StopsInText (plan : Plan) (events : List Event) (t row : ℕ) (reason : RowStop) : Type 0 where
  pub i : ℕ
  pub number : i + 1 ≡ t
  pub table : TablePlan
  pub is_at : slice_get plan.tables i ≡ Some table
  pub before : AreTakenBefore plan.tables events t
  pub given : List Given
  pub columns : Option Columns
  pub faults : List Fault
  pub rows : List Row
  pub rows_before : IsTable table given columns faults rows
  pub stopped : IsStopped table (text_of events t) (ended_in events t) given row reason

-- Table t refuses a row, or its header. The events before the last were taken, and so were the rows before that row.
pub record RefusedInText (plan : Plan) (events : List Event) (t row : ℕ) (reason : TableStop) : Type 0 where
  pub i : ℕ
  pub number : i + 1 ≡ t
  pub table : TablePlan
  pub is_at : slice_get plan.tables i ≡ Some table
  pub before : AreTakenBefore plan.tables events t
  pub given : List Given
  pub columns : Option Columns
  pub faults : List Fault
  pub rows : List Row
  pub rows_before : IsTable table given columns faults rows
  pub refused : IsRefusedHere table columns (text_of events t) (ended_in events t) given row reason

-- nothing was read, or all events before the last were taken
abbrev pub AreTakenButLast : Plan → List Event → Type 0
AreTakenButLast plan events = (events ≡ []) ⊎ ((t : ℕ) × AreTakenBefore plan.tables events t)

-- The reason why the tables stop after these events. After Memory and a failed write no reason is given here.
abbrev pub IsReason : {R : Type 0} → Plan → List (Counted R) → List (Counted R) → Stop → List Event → Type 0
IsReason plan olds news stop.Memory events = AreSteady olds news × AreTakenButLast plan events
IsReason plan olds news stop.Write events = AreSteady olds news × AreTakenButLast plan events
IsReason plan olds news stop.Read events = (OneFailed olds news ⊎ (AreMany events × AreSteady olds news)) × AreTaken plan.tables events
IsReason plan olds news (stop.Rows t row reason) events = AreSteady olds news × StopsInText plan events t row reason
IsReason plan olds news (stop.Table t row reason) events = AreSteady olds news × RefusedInText plan events t row reason
IsReason plan olds news other events = ⊥
