-- The state of a table, and how each piece of its text changes it.
use Rattle.std.specs.Prelude.{◌≡◌, ◌⊎◌, ◌<◌, ◌^◌, ◌-◌, ℕ, ◌+◌, Bool, true, false, List, [], ◌∷◌, ◌++◌, flat_map, length, Option, Some, None, Result, Ok, Err}
use Rattle.csvw_fault.specs.declared.fault.Fault.{Fault}
use Rattle.csvw_records.specs.Files.{IsWhole}
use Rattle.csvw_records.specs.FirstRows.{AreFirst}
use Rattle.csvw_records.specs.RowValue.{Given}
use Rattle.csvw_rows.specs.RowsState.{is_ended_of, unread, Holds, HasGiven, NoStop}
use Rattle.csvw_records.specs.Stops.{StopOf}
use Rattle.csvw_records.specs.declared.stop.RowStop.{RowStop}
use Rattle.csvw_columns_core.specs.declared.columns.Columns.{Columns}
use Rattle.csvw_columns.specs.declared.plan.TablePlan.{TablePlan}
use Rattle.csvw_columns_core.specs.declared.table_stop.TableStop.{TableStop}
use Rattle.csvw_annotate.specs.declared.row.Row.{Row}
use Rattle.csvw_keys.specs.Books.{KeepsKeys}
use Rattle.csvw_keys.specs.KeyRules.{KeyRule}
use Rattle.csvw_keys.specs.Tables.{with_rows}
use Rattle.csvw_keys.specs.declared.key_book.KeyBook.{KeyBook}
use Rattle.csvw_triples_core.specs.Taking.{FrontOf, IsAsReady}
use Rattle.csvw_triples_core.specs.declared.mode.Mode.{Mode}
use Rattle.csvw_triples_core.specs.declared.term.Triple.{Triple}
use Rattle.csvw_annotate.specs.HasForms.{HasForms}
use Rattle.csvw_triples_rows.specs.ModeTriples.{row_triples}
use Rattle.csvw_engine_core.specs.Annotated.{IsTable, IsWholeTable, HasRows, Refuses, RefusesEnd}
use Rattle.csvw_engine_core.specs.Faults.{table_faults}
use Rattle.csvw_engine_core.specs.Heads.{HeadHolds, Settles}
use Rattle.csvw_engine_core.specs.declared.stop.Stop.{Stop}
use Rattle.csvw_engine_core.specs.declared.stop.Stop.TheVariants as stop
use Rattle.csvw_engine_core.specs.declared.step.Step.{Step}
use Rattle.csvw_engine_core.specs.declared.step.Step.TheVariants as step
use Rattle.csvw_engine_core.specs.declared.table.Table.{Table}
use Rattle.csvw_engine_core.specs.declared.table.TheConstants.{MAX_ROWS}

-- how many rows of all kinds a table has at most
abbrev pub max_rows : ℕ
max_rows = MAX_ROWS

-- whether the text of the table has ended
abbrev pub is_ended : Table → Bool
is_ended t = is_ended_of t.rows

-- the columns, once they are known, and the faults of the header and the cells
abbrev pub columns_of : Table → Option Columns
columns_of t = t.head.columns

-- The text so far made these rows of the source, and they are these rows of the table.
pub record TableHolds (plan : TablePlan) (mode : Mode) (t : Table) (bytes : List ℕ) (ended : Bool) (given : List Given) (rows : List Row) : Type 0 where
  pub number_is : t.number ≡ plan.number
  pub mode_is : t.mode ≡ mode
  pub reader : Holds t.rows plan.dialect max_rows bytes ended given
  pub head : HeadHolds plan t.head given
  pub has : HasRows plan t.head.columns given rows

-- nothing was read yet
pub record IsNewTable (plan : TablePlan) (mode : Mode) (t : Table) : Type 0 where
  pub not_ended : is_ended t ≡ false
  pub holds : TableHolds plan mode t [] false [] []
  pub no_faults : t.faults ≡ []

-- columns that are known stay the same
abbrev pub KeepsColumns : Table → Table → Type 0
KeepsColumns old new = (columns : Columns) → old.head.columns ≡ Some columns → new.head.columns ≡ Some columns

-- there are columns, the row has a cell for each, and its values have lexical forms
abbrev pub RowFits : Option Columns → Row → Type 0
RowFits None row = ⊥
RowFits (Some columns) row = (length row.cells ≡ length columns.columns) × HasForms row

-- one more row of the source changes the rows of the table in this way
abbrev pub Goes : TablePlan → Table → Table → (List Row → List Row) → Type 0
Goes plan old new on = (mode : Mode) (bytes : List ℕ) (ended : Bool) (given : List Given) (rows : List Row) → TableHolds plan mode old bytes ended given rows
    → (raw : Given) × TableHolds plan mode new bytes ended (given ++ raw ∷ []) (on rows)

-- all rows of the text so far were given, and there is no stop
pub record IsAtRest (plan : TablePlan) (bytes : List ℕ) (ended : Bool) (given : List Given) : Type 0 where
  pub all : HasGiven plan.dialect max_rows bytes ended given
  pub no_stop : NoStop plan.dialect max_rows bytes ended
  pub whole : ended ≡ true → IsWhole plan.dialect max_rows bytes

-- all rows of the text so far were given, and the text stops after them
pub record IsStopped (plan : TablePlan) (bytes : List ℕ) (ended : Bool) (given : List Given) (row : ℕ) (stop : RowStop) : Type 0 where
  pub all : HasGiven plan.dialect max_rows bytes ended given
  pub stops : StopOf plan.dialect max_rows bytes ended stop row

-- after the rows that were given comes one that the table refuses
pub record IsRefused (plan : TablePlan) (columns : Option Columns) (bytes : List ℕ) (ended : Bool) (given : List Given) (row : ℕ)
    (stop : TableStop) : Type 0 where
  pub raw : Given
  pub first : AreFirst plan.dialect max_rows bytes ended (given ++ raw ∷ [])
  pub refuses : Refuses plan given columns raw row stop

-- the reason for which a table stops in its text
abbrev pub StopsTable : TablePlan → Table → Stop → Type 0
StopsTable plan t stop.Memory = Unit {0}
StopsTable plan t (stop.Rows table row reason) = (table ≡ plan.number)
    × ((mode : Mode) (bytes : List ℕ) (ended : Bool) (given : List Given) (rows : List Row) → TableHolds plan mode t bytes ended given rows
    → IsStopped plan bytes ended given row reason)
StopsTable plan t (stop.Table table row reason) = (table ≡ plan.number)
    × ((mode : Mode) (bytes : List ℕ) (ended : Bool) (given : List Given) (rows : List Row) → TableHolds plan mode t bytes ended given rows
    → IsRefused plan t.head.columns bytes ended given row reason)
StopsTable plan t other = ⊥

-- what is the same after each step
pub record Keeps (old new : Table) : Type 0 where
  pub ended : is_ended new ≡ is_ended old
  pub columns : KeepsColumns old new
  pub faults : new.faults ≡ old.faults
  pub number : new.number ≡ old.number
  pub mode : new.mode ≡ old.mode

-- A step gives one more row, takes a header row, finds nothing, or stops. After it less is unread, or the search ends.
abbrev pub Steps : TablePlan → Table → Table → Result Step Stop → Type 0
Steps plan old new (Ok (step.Row row)) = Keeps old new × (unread new.rows < unread old.rows) × RowFits new.head.columns row
    × Goes plan old new (λ rows. rows ++ row ∷ [])
Steps plan old new (Ok step.Header) = Keeps old new × (unread new.rows < unread old.rows) × Goes plan old new (λ rows. rows)
Steps plan old new (Ok step.Nothing) = Keeps old new
    × ((mode : Mode) (bytes : List ℕ) (ended : Bool) (given : List Given) (rows : List Row) → TableHolds plan mode old bytes ended given rows
    → TableHolds plan mode new bytes ended given rows × IsAtRest plan bytes ended given)
Steps plan old new (Err reason) = (is_ended new ≡ is_ended old) × StopsTable plan old reason

-- the triples of rows of a table; without columns there are none
abbrev pub table_triples : Mode → ℕ → Option Columns → List Row → List Triple
table_triples mode t None rows = []
table_triples mode t (Some columns) rows = flat_map (row_triples mode t columns) rows

-- after a row was given to the sink, and its faults were listed
abbrev pub Gives : {S : Type 0} → (S → List Triple → S → Type 0) → (S → Triple → S → Type 0) → (S → Bool) → (S → ℕ) → List Triple → S → S
    → Result Unit Stop → Type 0
Gives gains cuts is_open failed triples old new (Ok u) = gains old triples new × IsAsReady is_open failed old new
Gives gains cuts is_open failed triples old new (Err stop.Memory) = FrontOf gains cuts old triples new ⊥ × IsAsReady is_open failed old new
Gives gains cuts is_open failed triples old new (Err stop.Write) = FrontOf gains cuts old triples new (is_open old ≡ true)
    × (is_open new ≡ false) × (is_open old ≡ true → failed old < 2 ^ 64 - 1 → failed new ≡ failed old + 1)
Gives gains cuts is_open failed triples old new (Err other) = ⊥

-- the sink for the triples of rows, and the book for their keys
pub record Outlets (S : Type 0) : Type 0 where
  pub sink : S
  pub keys : KeyBook

abbrev pub outlets : {S : Type 0} → S → KeyBook → Outlets S
outlets sink keys = record { sink = sink; keys = keys }

-- the book took these further rows of a table
abbrev pub AddsRows : ℕ → List Row → KeyBook → KeyBook → Type 0
AddsRows table more old new = (rules : List KeyRule) (tables : ℕ → List Row) → KeepsKeys old rules tables → KeepsKeys new rules (with_rows tables table more)

-- Further rows were given: the sink took their triples, the book took their keys, and their faults were listed.
pub record Gone {S : Type 0} (gains : S → List Triple → S → Type 0) (plan : TablePlan) (mode : Mode) (bytes : List ℕ) (ended : Bool)
    (given : List Given) (rows : List Row) (old new : Table) (before now : Outlets S) : Type 0 where
  pub raws : List Given
  pub more : List Row
  pub holds : TableHolds plan mode new bytes ended (given ++ raws) (rows ++ more)
  pub took : gains before.sink (table_triples mode plan.number new.head.columns more) now.sink
  pub kept : AddsRows plan.number more before.keys now.keys
  pub told : new.faults ≡ old.faults ++ table_faults plan.number new.head.columns more
  pub keeps : KeepsColumns old new

-- all rows of the text so far were given
pub record GivesAll {S : Type 0} (gains : S → List Triple → S → Type 0) (plan : TablePlan) (mode : Mode) (bytes : List ℕ) (ended : Bool)
    (given : List Given) (rows : List Row) (old new : Table) (before now : Outlets S) : Type 0 where
  pub gone : Gone gains plan mode bytes ended given rows old new before now
  pub at_rest : IsAtRest plan bytes ended (given ++ gone.raws)

-- Some of the rows were given, perhaps with a front of the triples of the last one. If the device failed, it failed within the triple after
-- these.
pub record GivesSome {S : Type 0} (gains : S → List Triple → S → Type 0) (cuts : S → Triple → S → Type 0) (plan : TablePlan) (mode : Mode)
    (bytes : List ℕ) (ended : Bool) (given : List Given) (rows : List Row) (before now : S) (Fails : Type 0) : Type 0 where
  pub raws : List Given
  pub more : List Row
  pub first : AreFirst plan.dialect max_rows bytes ended (given ++ raws)
  pub columns : Option Columns
  pub faults : List Fault
  pub table : IsTable plan (given ++ raws) columns faults (rows ++ more)
  pub took : FrontOf gains cuts before (table_triples mode plan.number columns more) now Fails

-- All rows before a stop were given.
pub record GivesFront {S : Type 0} (gains : S → List Triple → S → Type 0) (plan : TablePlan) (mode : Mode) (bytes : List ℕ) (ended : Bool)
    (given : List Given) (rows : List Row) (before now : S) (Why : Option Columns → List Given → Type 0) : Type 0 where
  pub raws : List Given
  pub more : List Row
  pub columns : Option Columns
  pub faults : List Fault
  pub table : IsTable plan (given ++ raws) columns faults (rows ++ more)
  pub why : Why columns (given ++ raws)
  pub took : gains before (table_triples mode plan.number columns more) now

-- the state after a call, by its result
abbrev pub TableOutcome : {S : Type 0} → (S → List Triple → S → Type 0) → (S → Triple → S → Type 0) → (S → Bool) → (S → ℕ) → TablePlan → Mode
    → List ℕ → Bool → List Given → List Row → Table → Table → Outlets S → Outlets S → Result Unit Stop → Type 0
TableOutcome gains cuts is_open failed plan mode bytes ended given rows old new before now (Ok u) =
    GivesAll gains plan mode bytes ended given rows old new before now × IsAsReady is_open failed before.sink now.sink
TableOutcome gains cuts is_open failed plan mode bytes ended given rows old new before now (Err stop.Memory) =
    GivesSome gains cuts plan mode bytes ended given rows before.sink now.sink ⊥ × IsAsReady is_open failed before.sink now.sink
TableOutcome gains cuts is_open failed plan mode bytes ended given rows old new before now (Err stop.Write) =
    GivesSome gains cuts plan mode bytes ended given rows before.sink now.sink (is_open before.sink ≡ true)
    × (is_open now.sink ≡ false) × (is_open before.sink ≡ true → failed before.sink < 2 ^ 64 - 1 → failed now.sink ≡ failed before.sink + 1)
TableOutcome gains cuts is_open failed plan mode bytes ended given rows old new before now (Err (stop.Rows table row reason)) =
    GivesFront gains plan mode bytes ended given rows before.sink now.sink (λ columns all. IsStopped plan bytes ended all row reason)
    × IsAsReady is_open failed before.sink now.sink
TableOutcome gains cuts is_open failed plan mode bytes ended given rows old new before now (Err (stop.Table table row reason)) =
    GivesFront gains plan mode bytes ended given rows before.sink now.sink (λ columns all. IsRefused plan columns bytes ended all row reason)
    × IsAsReady is_open failed before.sink now.sink
TableOutcome gains cuts is_open failed plan mode bytes ended given rows old new before now (Err other) = ⊥

-- The whole text is a table: these are its columns and rows.
pub record HoldsWhole (plan : TablePlan) (mode : Mode) (t : Table) (bytes : List ℕ) (rows : List Row) : Type 0 where
  pub number_is : t.number ≡ plan.number
  pub mode_is : t.mode ≡ mode
  pub ended : is_ended t ≡ true
  pub given : List Given
  pub at_rest : IsAtRest plan bytes true given
  pub columns : Columns
  pub columns_are : t.head.columns ≡ Some columns
  pub table : IsWholeTable plan given columns t.head.faults rows

-- Further rows were given, and they are all that are left.
pub record GivesWhole {S : Type 0} (gains : S → List Triple → S → Type 0) (plan : TablePlan) (mode : Mode) (bytes : List ℕ) (rows : List Row)
    (old new : Table) (before now : Outlets S) : Type 0 where
  pub more : List Row
  pub holds : HoldsWhole plan mode new bytes (rows ++ more)
  pub took : gains before.sink (table_triples mode plan.number new.head.columns more) now.sink
  pub kept : AddsRows plan.number more before.keys now.keys
  pub told : new.faults ≡ old.faults ++ table_faults plan.number new.head.columns more
  pub keeps : KeepsColumns old new

-- after the rows that were given comes one that the table refuses; or the text ended before all header rows, and these are refused
abbrev pub IsRefusedAtEnd : TablePlan → Option Columns → List ℕ → List Given → ℕ → TableStop → Type 0
IsRefusedAtEnd plan columns bytes given row stop =
    IsRefused plan columns bytes true given row stop ⊎ (IsAtRest plan bytes true given × (columns ≡ None) × RefusesEnd plan given row stop)

-- the state after the end of a text, by the result
abbrev pub EndOutcome : {S : Type 0} → (S → List Triple → S → Type 0) → (S → Triple → S → Type 0) → (S → Bool) → (S → ℕ) → TablePlan → Mode → List ℕ
    → List Given → List Row → Table → Table → Outlets S → Outlets S → Result Unit Stop → Type 0
EndOutcome gains cuts is_open failed plan mode bytes given rows old new before now (Ok u) =
    GivesWhole gains plan mode bytes rows old new before now × IsAsReady is_open failed before.sink now.sink
EndOutcome gains cuts is_open failed plan mode bytes given rows old new before now (Err stop.Memory) =
    GivesSome gains cuts plan mode bytes true given rows before.sink now.sink ⊥ × IsAsReady is_open failed before.sink now.sink
EndOutcome gains cuts is_open failed plan mode bytes given rows old new before now (Err stop.Write) =
    GivesSome gains cuts plan mode bytes true given rows before.sink now.sink (is_open before.sink ≡ true)
    × (is_open now.sink ≡ false) × (is_open before.sink ≡ true → failed before.sink < 2 ^ 64 - 1 → failed now.sink ≡ failed before.sink + 1)
EndOutcome gains cuts is_open failed plan mode bytes given rows old new before now (Err (stop.Rows table row reason)) =
    GivesFront gains plan mode bytes true given rows before.sink now.sink (λ columns all. IsStopped plan bytes true all row reason)
    × IsAsReady is_open failed before.sink now.sink
EndOutcome gains cuts is_open failed plan mode bytes given rows old new before now (Err (stop.Table table row reason)) =
    GivesFront gains plan mode bytes true given rows before.sink now.sink (λ columns all. IsRefusedAtEnd plan columns bytes all row reason)
    × IsAsReady is_open failed before.sink now.sink
EndOutcome gains cuts is_open failed plan mode bytes given rows old new before now (Err other) = ⊥

-- after the end of a text whose columns were not known; after Memory nothing is said
abbrev pub SettlesHead : TablePlan → Table → Table → Result Unit Stop → Type 0
SettlesHead plan old new result = (new ≡ record old { head = new.head }) × Settles plan None 0 old.head new.head result

abbrev pub SettlesTable : TablePlan → Table → Table → Result Unit Stop → Type 0
SettlesTable plan old new result = ((columns : Columns) × (old.head.columns ≡ Some columns) × (new ≡ old) × (result ≡ Ok tt)) ⊎
    ((old.head.columns ≡ None) × SettlesHead plan old new result)

-- the faults of the header of the table, and those of its cells so far
abbrev pub header_faults_of : Table → List Fault
header_faults_of t = t.head.faults

abbrev pub faults_of : Table → List Fault
faults_of t = t.faults
