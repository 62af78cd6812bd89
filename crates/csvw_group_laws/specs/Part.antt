-- The graph of the part of a group that its texts so far make: `PartGraph`, `HaveAllRows`, `IsCutShort` (Model for Tabular Data,
-- sections 4.1 to 4.5 and 8; csv2rdf, section 4.2).
use Rattle.std.specs.Prelude.{◌≡◌, ◌≢◌, ◌⊎◌, ◌+◌, ℕ, Bool, true, List, [], ◌∷◌, ◌++◌, Contains, slice_get, Option, Some, None}
use Rattle.csvw_fault.specs.declared.fault.Fault.{Fault}
use Rattle.csvw_records.specs.FirstRows.{AreFirst}
use Rattle.csvw_records.specs.RowValue.{Given}
use Rattle.csvw_rows.specs.RowsState.{HasGiven}
use Rattle.csvw_columns_core.specs.declared.columns.Columns.{Columns}
use Rattle.csvw_columns.specs.declared.plan.Plan.{Plan}
use Rattle.csvw_columns.specs.declared.plan.TablePlan.{TablePlan}
use Rattle.csvw_columns_core.specs.declared.table_stop.TableStop.{TableStop}
use Rattle.csvw_annotate.specs.declared.row.Row.{Row}
use Rattle.csvw_triples_core.specs.declared.mode.Mode.{Mode}
use Rattle.csvw_triples_core.specs.declared.term.Triple.{Triple}
use Rattle.csvw_triples_rows.specs.ModeGraph.{RowGraph, TableGraph}
use Rattle.csvw_triples.specs.Opening.{Opening}
use Rattle.csvw_engine_core.specs.Annotated.{IsTable, IsWholeTable}
use Rattle.csvw_engine_core.specs.Tables.{max_rows}
use Rattle.csvw_session.specs.Events.{Event, table_of, text_of, ended_in}
use Rattle.csvw_session.specs.Sessions.{IsRefusedHere}

-- a part of an annotated table: its columns, once they are known, and the first of its rows
pub record TablePart : Type 0 where
  pub columns : Option Columns
  pub rows : List Row

-- these rows of the source are the table so far, or all of a text that ended
abbrev pub IsTableOf : TablePlan → Bool → List Given → Option Columns → List Fault → List Row → Type 0
IsTableOf plan ended given columns faults rows =
    IsTable plan given columns faults rows
    ⊎ ((ended ≡ true) × (whole : Columns) × (columns ≡ Some whole) × IsWholeTable plan given whole faults rows)

-- after the rows that are given the table refuses the next one or, at the end of the text, its header
abbrev pub RefusesNext : TablePlan → Option Columns → List ℕ → Bool → List Given → Type 0
RefusesNext plan columns text ended given = (row : ℕ) × (stop : TableStop) × IsRefusedHere plan columns text ended given row stop

-- all rows that are complete in the text so far, or all before the first that the table refuses
pub record HasAllRows (plan : TablePlan) (text : List ℕ) (ended : Bool) (part : TablePart) : Type 0 where
  pub given : List Given
  pub faults : List Fault
  pub table : IsTableOf plan ended given part.columns faults part.rows
  pub all : HasGiven plan.dialect max_rows text ended given ⊎ RefusesNext plan part.columns text ended given

-- some rows that come first in the text so far, and the rows after them, as far as they are known
pub record HasSomeRows (plan : TablePlan) (text : List ℕ) (ended : Bool) (part : TablePart) (behind : List Row) : Type 0 where
  pub given : List Given
  pub first : AreFirst plan.dialect max_rows text ended given
  pub faults : List Fault
  pub table : IsTable plan given part.columns faults (part.rows ++ behind)

-- the triples of the rows of these parts of the tables, by their places from 0
abbrev pub PartRows : Mode → List TablePlan → (ℕ → TablePart) → Triple → Type 0
PartRows m plans parts x =
    (i : ℕ) × (plan : TablePlan) × (slice_get plans i ≡ Some plan) × TableGraph m plan.number (parts i).columns (parts i).rows x

-- the triples of the group and its tables, and those of the rows of these parts, by the mode
abbrev pub PartGraph : Mode → Plan → (ℕ → TablePart) → Triple → Type 0
PartGraph m plan parts x = Opening m plan x ⊎ PartRows m plan.tables parts x

-- the graph of the first of these rows of table t; if there are no rows there is none
abbrev pub FirstRowGraph : Mode → ℕ → Option Columns → List Row → Triple → Type 0
FirstRowGraph m t None rows x = ⊥
FirstRowGraph m t (Some columns) [] x = ⊥
FirstRowGraph m t (Some columns) (row ∷ rows) x = RowGraph m t columns row x

-- each part has all rows of its table's text so far
abbrev pub HaveAllRows : List TablePlan → List Event → (ℕ → TablePart) → Type 0
HaveAllRows plans events parts = (i : ℕ) (plan : TablePlan) → slice_get plans i ≡ Some plan
    → HasAllRows plan (text_of events (i + 1)) (ended_in events (i + 1)) (parts i)

-- The part of the table at place i has some rows: all that it had before the last event, and perhaps more. Each other part has all rows.
pub record HaveAllRowsBut (plans : List TablePlan) (before events : List Event) (i : ℕ) (parts : ℕ → TablePart) (behind : List Row) : Type 0 where
  pub others : (j : ℕ) (plan : TablePlan) → slice_get plans j ≡ Some plan → j ≢ i
      → HasAllRows plan (text_of events (j + 1)) (ended_in events (j + 1)) (parts j)
  pub plan : TablePlan
  pub is_at : slice_get plans i ≡ Some plan
  pub old : TablePart
  pub had : HasAllRows plan (text_of before (i + 1)) (ended_in before (i + 1)) old
  pub more : List Row
  pub rows : (parts i).rows ≡ old.rows ++ more
  pub has : HasSomeRows plan (text_of events (i + 1)) (ended_in events (i + 1)) (parts i) behind

-- The last event was cut short in its table. These triples are the graph of such parts and some triples of the next row of that table. The
-- triple that would be next is one of these too.
pub record IsCutInTable (m : Mode) (plan : Plan) (events : List Event) (triples rest : List Triple) : Type 0 where
  pub before : List Event
  pub event : Event
  pub all : events ≡ before ++ event ∷ []
  pub i : ℕ
  pub number : i + 1 ≡ table_of event
  pub parts : ℕ → TablePart
  pub behind : List Row
  pub have : HaveAllRowsBut plan.tables before events i parts behind
  pub whole : (x : Triple) → PartGraph m plan parts x → Contains triples x
  pub within : (x : Triple) → Contains triples x → PartGraph m plan parts x ⊎ FirstRowGraph m have.plan.number (parts i).columns behind x
  pub next : (x : Triple) (xs : List Triple) → rest ≡ x ∷ xs → FirstRowGraph m have.plan.number (parts i).columns behind x

-- There was no event. These are some triples of the group and its tables, and the triple that would be next is one of them too.
pub record IsCutInOpening (m : Mode) (plan : Plan) (events : List Event) (triples rest : List Triple) : Type 0 where
  pub none : events ≡ []
  pub within : (x : Triple) → Contains triples x → Opening m plan x
  pub next : (x : Triple) (xs : List Triple) → rest ≡ x ∷ xs → Opening m plan x

-- the part of the graph that was taken when Memory or a failed device cut it short
abbrev pub IsCutShort : Mode → Plan → List Event → List Triple → List Triple → Type 0
IsCutShort m plan events triples rest = IsCutInOpening m plan events triples rest ⊎ IsCutInTable m plan events triples rest
