-- What reading the complete rows does to a reader of rows.
use Rattle.std.specs.Prelude.{◌≡◌, ℕ, ◌+◌, Bool, true, false, List, length, Result, Ok, Err}
use Rattle.csvw_records.specs.declared.dialect.Dialect.{Dialect}
use Rattle.csvw_records.specs.declared.stop.RowStop.{RowStop}
use Rattle.csvw_records.specs.RowValue.{Given}
use Rattle.csvw_rows.specs.declared.rows.Rows.{Rows}
use Rattle.csvw_rows.specs.RowsState.{Holds, is_ended_of}

-- so many rows more were returned
abbrev pub PassesMany : Rows → Rows → ℕ → Type 0
PassesMany old new count =
    (d : Dialect) (max : ℕ) (text : List ℕ) (ended : Bool) (given : List Given) → Holds old d max text ended given
    → (later : List Given) × Holds new d max text ended later × (length later ≡ length given + count)

-- one more row was returned, or none
abbrev pub Passes : Rows → Rows → Result Bool RowStop → Type 0
Passes old new (Ok true) = (is_ended_of new ≡ is_ended_of old) × PassesMany old new 1
Passes old new (Ok false) = (is_ended_of new ≡ is_ended_of old) × PassesMany old new 0
Passes old new (Err e) = is_ended_of new ≡ is_ended_of old
