-- The state of a header, and how each row changes it.
use Rattle.std.specs.Prelude.{◌≡◌, ◌<◌, ◌+◌, ℕ, List, [], ◌∷◌, ◌++◌, length, map, Option, Some, None, Result, Ok, Err}
use Rattle.csvw_records.specs.RowValue.{Given}
use Rattle.csvw_columns_core.specs.declared.columns.Columns.{Columns}
use Rattle.csvw_columns.specs.declared.plan.TablePlan.{TablePlan}
use Rattle.csvw_columns.specs.HeaderMatch.{IsMatch}
use Rattle.csvw_engine_core.specs.Annotated.{header_count, header_row, source_of, GivesNone, IsHead, RefusesHeader, first_source}
use Rattle.csvw_engine_core.specs.declared.stop.Stop.{Stop}
use Rattle.csvw_engine_core.specs.declared.stop.Stop.TheVariants as stop
use Rattle.csvw_engine_core.specs.declared.head.Head.{Head}

pub record IsNewHead (head : Head) : Type 0 where
  pub rows : head.rows ≡ []
  pub columns : head.columns ≡ None
  pub faults : head.faults ≡ []

-- the state is that of the header of these rows of the source
pub record HeadHolds (plan : TablePlan) (head : Head) (given : List Given) : Type 0 where
  pub known : IsHead plan given head.columns head.faults
  pub waits : head.columns ≡ None → head.rows ≡ map header_row given

-- the columns are known
pub record Settled (plan : TablePlan) (width : Option ℕ) (old new : Head) : Type 0 where
  pub columns : Columns
  pub is : new.columns ≡ Some columns
  pub gives : IsMatch plan old.rows width columns new.faults

-- after the columns were made; after Memory nothing is said
abbrev pub Settles : TablePlan → Option ℕ → ℕ → Head → Head → Result Unit Stop → Type 0
Settles plan width source old new (Ok u) = Settled plan width old new
Settles plan width source old new (Err stop.Memory) = Unit {0}
Settles plan width source old new (Err (stop.Table table row reason)) =
    (table ≡ plan.number) × GivesNone plan old.rows width reason × (row ≡ source_of old.rows source)
Settles plan width source old new (Err other) = ⊥

-- after a header row
abbrev pub TakesHeader : TablePlan → Given → Head → Head → Result Unit Stop → Type 0
TakesHeader plan raw old new (Ok u) = (given : List Given) → HeadHolds plan old given → old.columns ≡ None → 0 < header_count plan
    → HeadHolds plan new (given ++ raw ∷ [])
TakesHeader plan raw old new (Err stop.Memory) = Unit {0}
TakesHeader plan raw old new (Err (stop.Table table row reason)) = (table ≡ plan.number)
    × ((given : List Given) → HeadHolds plan old given → old.columns ≡ None → 0 < header_count plan
    → (length given + 1 ≡ header_count plan) × RefusesHeader plan (given ++ raw ∷ []) reason × (row ≡ first_source (given ++ raw ∷ [])))
TakesHeader plan raw old new (Err other) = ⊥
