-- Laws of the rows that a reader returned.
use Rattle.std.specs.Prelude.{◌≡◌, ℕ, Bool, false, List, [], ◌++◌}
use Rattle.csvw_records.specs.declared.dialect.Dialect.{Dialect}
use Rattle.csvw_rows.specs.declared.rows.Rows.{Rows}
use Rattle.csvw_records.specs.Files.{Row, Front, Body}
use Rattle.csvw_records.specs.FirstRows.{AreFirst}
use Rattle.csvw_records.specs.RowValue.{Given}
use Rattle.csvw_rows.specs.RowsState.{Holds}

-- each front has one list of rows, and those that were given are the first of them
abbrev pub GivenBegin : Type 0
GivenBegin = (s : Rows) (d : Dialect) (max : ℕ) (bytes : List ℕ) (ended : Bool) (given : List Given) (front : List Row)
    → Holds s d max bytes ended given → Front d max bytes ended front
    → (rest : List Given) × (Body d front ≡ given ++ rest)

-- the same of all bytes that begin with bytes that haven't ended
abbrev pub GivenBeginLater : Type 0
GivenBeginLater = (s : Rows) (d : Dialect) (max : ℕ) (bytes more : List ℕ) (ended : Bool) (given : List Given) (later : List Row)
    → Holds s d max bytes false given → Front d max (bytes ++ more) ended later
    → (rest : List Given) × (Body d later ≡ given ++ rest)

-- what was given comes first
abbrev pub GivenFirst : Type 0
GivenFirst = (s : Rows) (d : Dialect) (max : ℕ) (bytes : List ℕ) (ended : Bool) (given : List Given) → Holds s d max bytes ended given
    → AreFirst d max bytes ended given

-- the same of all bytes that begin with bytes that haven't ended
abbrev pub GivenFirstLater : Type 0
GivenFirstLater = (s : Rows) (d : Dialect) (max : ℕ) (bytes more : List ℕ) (ended : Bool) (given : List Given) → Holds s d max bytes false given
    → AreFirst d max (bytes ++ more) ended given

-- if nothing was read, nothing was given
abbrev pub NothingGiven : Type 0
NothingGiven = (s : Rows) (d : Dialect) (max : ℕ) (given : List Given) → Holds s d max [] false given → given ≡ []
