-- The state of a session, and how each call changes it: `Stands`, `Takes`, `IsRefusedInOrder`.
use Rattle.std.specs.Prelude.{◌≡◌, ◌≢◌, ◌↔◌, ◌⊎◌, ◌<◌, ◌+◌, ◌-◌, ◌^◌, ◌≤◌, ℕ, zero, suc, Bool, true, false, List, [], ◌∷◌, ◌++◌, length, slice_get}
use Rattle.std.specs.Prelude.{Contains, Option, Some, Result, Ok, Err}
use Rattle.csvw_records.specs.RowValue.{Given}
use Rattle.csvw_columns_core.specs.declared.columns.Columns.{Columns}
use Rattle.csvw_columns.specs.declared.plan.Plan.{Plan}
use Rattle.csvw_columns.specs.declared.plan.TablePlan.{TablePlan}
use Rattle.csvw_columns_core.specs.declared.table_stop.TableStop.{TableStop}
use Rattle.csvw_annotate.specs.declared.row.Row.{Row}
use Rattle.csvw_keys.specs.Books.{KeepsKeys}
use Rattle.csvw_keys.specs.KeyRules.{rules_of}
use Rattle.csvw_triples_core.specs.Taking.{IsAsReady}
use Rattle.csvw_triples_core.specs.declared.mode.Mode.{Mode}
use Rattle.csvw_triples_core.specs.declared.term.Triple.{Triple}
use Rattle.csvw_triples.specs.OpeningTriples.{opening}
use Rattle.csvw_engine_core.specs.Annotated.{IsTable}
use Rattle.csvw_engine_core.specs.Faults.{table_faults}
use Rattle.csvw_engine_core.specs.Tables.{TableHolds, HoldsWhole, IsAtRest, IsStopped, IsRefused, IsRefusedAtEnd, GivesSome, GivesFront}
use Rattle.csvw_engine_core.specs.Tables.{table_triples, columns_of, faults_of, header_faults_of, is_ended}
use Rattle.csvw_engine_core.specs.declared.table.Table.{Table}
use Rattle.csvw_session.specs.Events.{Event, text_of, ended_in}
use Rattle.csvw_session.specs.declared.session.Session.{Session}
use Rattle.csvw_session.specs.declared.state.State.TheVariants as state
use Rattle.csvw_engine_core.specs.declared.stop.Stop.{Stop}
use Rattle.csvw_engine_core.specs.declared.stop.Stop.TheVariants as stop

-- the text of a table so far made these rows, which are all its complete rows
pub record IsOpenTable (plan : TablePlan) (mode : Mode) (t : Table) (bytes : List ℕ) (rows : List Row) : Type 0 where
  pub given : List Given
  pub holds : TableHolds plan mode t bytes false given rows
  pub at_rest : (bytes ≡ []) ⊎ IsAtRest plan bytes false given

-- a table whose text goes on, or has ended
abbrev pub TableStands : TablePlan → Mode → Table → List ℕ → Bool → List Row → Type 0
TableStands plan mode t bytes false rows = IsOpenTable plan mode t bytes rows
TableStands plan mode t bytes true rows = HoldsWhole plan mode t bytes rows

-- the same, and its faults were listed
pub record Told (plan : TablePlan) (mode : Mode) (t : Table) (bytes : List ℕ) (ended : Bool) (rows : List Row) : Type 0 where
  pub stands : TableStands plan mode t bytes ended rows
  pub faults : faults_of t ≡ table_faults plan.number (columns_of t) rows

-- a plan and the state of its table, by their place from 0
abbrev pub IsTableAt : {S : Type 0} → Session S → ℕ → TablePlan → Table → Type 0
IsTableAt s i plan t = (slice_get s.plan.tables i ≡ Some plan) × (slice_get s.tables.items i ≡ Some t)

-- the triples of the rows of all tables
abbrev pub RowsGraph : {S : Type 0} → Session S → (ℕ → List Row) → Triple → Type 0
RowsGraph s rows x = (i : ℕ) × (plan : TablePlan) × (t : Table) × IsTableAt s i plan t × Contains (table_triples s.mode plan.number (columns_of t) (rows i)) x

-- the rows of the table of a number, from 1, by its place from 0
abbrev pub by_number : (ℕ → List Row) → ℕ → List Row
by_number rows zero = []
by_number rows (suc i) = rows i

-- the triples that a sink took since the start form a graph
pub record TookGraph {S : Type 0} (gains : S → List Triple → S → Type 0) (start now : S) (Graph : Triple → Type 0) : Type 0 where
  pub taken : List Triple
  pub gained : gains start taken now
  pub within : (x : Triple) → Contains taken x → Graph x
  pub whole : (x : Triple) → Graph x → Contains taken x

-- The session took exactly these events since the start.
pub record Stands {S : Type 0} (gains : S → List Triple → S → Type 0) (is_open : S → Bool) (failed : S → ℕ) (start : S) (events : List Event)
    (s : Session S) : Type 0 where
  pub rows : ℕ → List Row
  pub tables : (i : ℕ) (plan : TablePlan) (t : Table) → IsTableAt s i plan t → Told plan s.mode t (text_of events (i + 1)) (ended_in events (i + 1)) (rows i)
  pub beyond : (i : ℕ) → length s.plan.tables ≤ i → rows i ≡ []
  pub took : TookGraph gains start s.sink (RowsGraph s rows)
  pub keys : KeepsKeys s.keys (rules_of s.plan) (by_number rows)
  pub ready : IsAsReady is_open failed start s.sink
  pub state_is : s.state ≡ state.Open

-- a session that has just started over this plan: its sink took the triples of the group and its tables, which come before any row
pub record Starts {S : Type 0} (gains : S → List Triple → S → Type 0) (is_open : S → Bool) (failed : S → ℕ) (plan : Plan) (mode : Mode) (sink : S)
    (s : Session S) : Type 0 where
  pub plan_is : s.plan ≡ plan
  pub mode_is : s.mode ≡ mode
  pub opened : gains sink (opening mode plan) s.sink
  pub ready : IsAsReady is_open failed sink s.sink
  pub stands : Stands gains is_open failed s.sink [] s

-- the session has no table of this number
abbrev pub HasNoTable : {S : Type 0} → Session S → ℕ → Type 0
HasNoTable s t = (t ≡ 0) ⊎ (length s.tables.items < t)

-- the session was finished, or this table was ended
abbrev pub IsOver : {S : Type 0} → Session S → ℕ → Type 0
IsOver s t = (s.state ≡ state.Finished) ⊎ ((i : ℕ) × (table : Table) × (i + 1 ≡ t) × (slice_get s.tables.items i ≡ Some table) × (is_ended table ≡ true))

-- which error comes before an event of table t is looked at, by the first reason that is true
pub record IsRefusedInOrder {S : Type 0} (s : Session S) (t : ℕ) (result : Result Unit Stop) : Type 0 where
  pub failed : (result ≡ Err stop.Failed) ↔ (s.state ≡ state.Failed)
  pub unknown : (result ≡ Err stop.UnknownTable) ↔ ((s.state ≢ state.Failed) × HasNoTable s t)
  pub after_end : (result ≡ Err stop.AfterEnd) ↔ ((s.state ≢ state.Failed) × (HasNoTable s t → ⊥) × IsOver s t)

-- whether table t, from 1, takes an event now
abbrev pub Checks : {S : Type 0} → Session S → ℕ → Result ℕ Stop → Type 0
Checks s t (Ok i) = (s.state ≡ state.Open) × (i + 1 ≡ t) × (i < length s.tables.items)
    × ((table : Table) → slice_get s.tables.items i ≡ Some table → is_ended table ≡ false)
Checks s t (Err stop.Failed) = s.state ≡ state.Failed
Checks s t (Err stop.UnknownTable) = (s.state ≢ state.Failed) × HasNoTable s t
Checks s t (Err stop.AfterEnd) = (s.state ≢ state.Failed) × (HasNoTable s t → ⊥) × IsOver s t
Checks s t (Err other) = ⊥

-- a table of the session, with the rows of the source that it made before the call, which are these rows of it
pub record AtTable {S : Type 0} (s : Session S) (t : ℕ) (rows : ℕ → List Row) (Leaves : ℕ → TablePlan → List Given → Type 0) : Type 0 where
  pub i : ℕ
  pub number : i + 1 ≡ t
  pub plan : TablePlan
  pub table : Table
  pub is_at : IsTableAt s i plan table
  pub given : List Given
  pub was : IsTable plan given (columns_of table) (header_faults_of table) (rows i)
  pub leaves : Leaves i plan given

-- the table refuses the next row or, at the end of its text, the header that it has
abbrev pub IsRefusedHere : TablePlan → Option Columns → List ℕ → Bool → List Given → ℕ → TableStop → Type 0
IsRefusedHere plan columns bytes ended given row stop =
    IsRefused plan columns bytes ended given row stop ⊎ ((ended ≡ true) × IsRefusedAtEnd plan columns bytes given row stop)

-- what the sink gained in a call that was cut short: a front of the triples of some further rows of the table, each of them whole; if its
-- device failed, it failed within the triple after these
abbrev pub GainsSome : {S : Type 0} → (S → List Triple → S → Type 0) → (S → Triple → S → Type 0) → Session S → Session S → ℕ → List Event
    → (ℕ → List Row) → Type 0 → Type 0
GainsSome gains cuts old new t events rows Fails =
    AtTable old t rows (λ i plan given. GivesSome gains cuts plan old.mode (text_of events t) (ended_in events t) given (rows i) old.sink new.sink Fails)

-- what the sink gained in a call that stopped in the text: the triples of all rows before the stop
abbrev pub GainsFront : {S : Type 0} → (S → List Triple → S → Type 0) → Session S → Session S → ℕ → List Event → (ℕ → List Row)
    → (TablePlan → Option Columns → List Given → Type 0) → Type 0
GainsFront gains old new t events rows Why =
    AtTable old t rows (λ i plan given. GivesFront gains plan old.mode (text_of events t) (ended_in events t) given (rows i) old.sink new.sink
    (λ columns all. Why plan columns all))

-- An event of table t was taken, or there is a reason why not. After a stop in the text, and after Memory, the session has failed. After a
-- failed write its sink is closed too.
abbrev pub Takes : {S : Type 0} → (S → List Triple → S → Type 0) → (S → Triple → S → Type 0) → (S → Bool) → (S → ℕ) → Session S → Session S → ℕ → Event
    → Result Unit Stop → Type 0
Takes {S} gains cuts is_open failed old new t event (Ok u) =
    (start : S) (events : List Event) → Stands gains is_open failed start events old → Stands gains is_open failed start (events ++ event ∷ []) new
Takes gains cuts is_open failed old new t event (Err stop.Failed) = (new ≡ old) × (old.state ≡ state.Failed)
Takes gains cuts is_open failed old new t event (Err stop.UnknownTable) = (new ≡ old) × (old.state ≢ state.Failed) × HasNoTable old t
Takes {S} gains cuts is_open failed old new t event (Err stop.AfterEnd) = (new ≡ old) × (old.state ≢ state.Failed)
    × ((start : S) (events : List Event) → Stands gains is_open failed start events old → ended_in events t ≡ true)
Takes {S} gains cuts is_open failed old new t event (Err stop.Memory) = (new.state ≡ state.Failed)
    × ((start : S) (events : List Event) (h : Stands gains is_open failed start events old)
    → GainsSome gains cuts old new t (events ++ event ∷ []) h.rows ⊥ × IsAsReady is_open failed old.sink new.sink)
Takes {S} gains cuts is_open failed old new t event (Err stop.Write) = (new.state ≡ state.Failed)
    × ((start : S) (events : List Event) (h : Stands gains is_open failed start events old)
    → GainsSome gains cuts old new t (events ++ event ∷ []) h.rows (is_open old.sink ≡ true)
    × (is_open new.sink ≡ false) × (is_open old.sink ≡ true → failed old.sink < 2 ^ 64 - 1 → failed new.sink ≡ failed old.sink + 1))
Takes {S} gains cuts is_open failed old new t event (Err (stop.Rows u row reason)) = (new.state ≡ state.Failed) × (u ≡ t)
    × ((start : S) (events : List Event) (h : Stands gains is_open failed start events old)
    → GainsFront gains old new t (events ++ event ∷ []) h.rows
    (λ plan columns all. IsStopped plan (text_of (events ++ event ∷ []) t) (ended_in (events ++ event ∷ []) t) all row reason)
    × IsAsReady is_open failed old.sink new.sink)
Takes {S} gains cuts is_open failed old new t event (Err (stop.Table u row reason)) = (new.state ≡ state.Failed) × (u ≡ t)
    × ((start : S) (events : List Event) (h : Stands gains is_open failed start events old)
    → GainsFront gains old new t (events ++ event ∷ []) h.rows
    (λ plan columns all. IsRefusedHere plan columns (text_of (events ++ event ∷ []) t) (ended_in (events ++ event ∷ []) t) all row reason)
    × IsAsReady is_open failed old.sink new.sink)
Takes gains cuts is_open failed old new t event (Err other) = ⊥
