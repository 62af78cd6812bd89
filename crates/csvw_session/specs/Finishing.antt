-- The result of finishing a session: `Finishes`, `IsUnfinishedInOrder`.
use Rattle.std.specs.Prelude.{◌≡◌, ◌↔◌, ◌+◌, ℕ, List, true, false, ◌++◌, slice_get, Some, Result, Ok, Err}
use Rattle.std.specs.List.{list_all}
use Rattle.std.specs.List.Sorted.{IsPermutation, IsSorted}
use Rattle.csvw_annotate.specs.declared.row.Row.{Row}
use Rattle.csvw_engine_core.specs.Tables.{is_ended}
use Rattle.csvw_engine_core.specs.declared.table.Table.{Table}
use Rattle.csvw_rows.specs.RowsState.{reading_of}
use Rattle.csvw_keys.specs.Books.{KeepsKeys}
use Rattle.csvw_keys.specs.KeyRules.{AreKeyFaults, KeyRule}
use Rattle.csvw_keys.specs.declared.key_book.KeyBook.{KeyBook}
use Rattle.csvw_report.specs.Order.{fault_cmp}
use Rattle.csvw_report.specs.declared.outcome.Outcome.{Outcome}
use Rattle.csvw_fault.specs.declared.fault.Fault.{Fault}
use Rattle.csvw_session.specs.Faults.{all_faults}
use Rattle.csvw_session.specs.declared.session.Session.{Session}
use Rattle.csvw_session.specs.declared.state.State.{State}
use Rattle.csvw_session.specs.declared.state.State.TheVariants as state
use Rattle.csvw_engine_core.specs.declared.stop.Stop.{Stop}
use Rattle.csvw_engine_core.specs.declared.stop.Stop.TheVariants as stop

-- the same session in this state
pub record IsIn {S : Type 0} (old new : Session S) (now : State) : Type 0 where
  pub plan : new.plan ≡ old.plan
  pub mode : new.mode ≡ old.mode
  pub tables : new.tables ≡ old.tables
  pub sink : new.sink ≡ old.sink
  pub keys : new.keys ≡ old.keys
  pub state_is : new.state ≡ now

-- the faults of the rows that the book keeps, by their keys
abbrev pub TellsKeys : KeyBook → List Fault → Type 0
TellsKeys book faults = (rules : List KeyRule) (tables : ℕ → List Row) → KeepsKeys book rules tables → AreKeyFaults rules tables faults

-- Each table was ended. The outcome lists the warnings of the metadata, the faults of the tables, and the faults of their rows by their keys,
-- in order.
pub record HasOutcome {S : Type 0} (s : Session S) (outcome : Outcome) : Type 0 where
  pub ended : list_all is_ended s.tables.items ≡ true
  pub key_faults : List Fault
  pub told : TellsKeys s.keys key_faults
  pub faults : IsPermutation ((s.plan.warnings ++ all_faults s.tables.items) ++ key_faults) outcome.faults
  pub sorted : IsSorted fault_cmp outcome.faults

-- the warnings of the metadata and the faults of the tables so far, in order
pub record AreFaultsSoFar {S : Type 0} (s : Session S) (faults : List Fault) : Type 0 where
  pub all : IsPermutation (s.plan.warnings ++ all_faults s.tables.items) faults
  pub sorted : IsSorted fault_cmp faults

-- so many complete rows were read of the table of this number
pub record HasRead {S : Type 0} (s : Session S) (t rows : ℕ) : Type 0 where
  pub place : ℕ
  pub numbered : place + 1 ≡ t
  pub table : Table
  pub found : slice_get s.tables.items place ≡ Some table
  pub read : rows + 1 ≡ reading_of table.rows

-- the list of these faults, in this order
pub record ListsFaults {S : Type 0} (s : Session S) (faults : List Fault) : Type 0 where
  pub key_faults : List Fault
  pub told : TellsKeys s.keys key_faults
  pub all : faults ≡ (s.plan.warnings ++ all_faults s.tables.items) ++ key_faults

-- why a session is not finished and stays as it was, by the first reason that is true
pub record IsUnfinishedInOrder {S : Type 0} (s : Session S) (result : Result Outcome Stop) : Type 0 where
  pub failed : (result ≡ Err stop.Failed) ↔ (s.state ≡ state.Failed)
  pub after_end : (result ≡ Err stop.AfterEnd) ↔ (s.state ≡ state.Finished)
  pub not_ended : (result ≡ Err stop.NotEnded) ↔ ((s.state ≡ state.Open) × (list_all is_ended s.tables.items ≡ false))

abbrev pub Finishes : {S : Type 0} → Session S → Session S → Result Outcome Stop → Type 0
Finishes old new (Ok outcome) = IsIn old new state.Finished × HasOutcome old outcome
Finishes old new (Err stop.Failed) = (new ≡ old) × (old.state ≡ state.Failed)
Finishes old new (Err stop.AfterEnd) = (new ≡ old) × (old.state ≡ state.Finished)
Finishes old new (Err stop.NotEnded) = (new ≡ old) × (list_all is_ended old.tables.items ≡ false)
Finishes old new (Err stop.Memory) = IsIn old new state.Failed
Finishes old new (Err other) = ⊥
