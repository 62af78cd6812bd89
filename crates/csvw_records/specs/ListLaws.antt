-- Laws that connect the definitions of rows, files and stops.
use Rattle.std.specs.Prelude.{◌≡◌, ℕ, ◌<◌, ◌≤◌, Bool, false, IsTrue, List, [], ◌++◌, take}
use Rattle.csvw_records.specs.declared.dialect.Dialect.{Dialect}
use Rattle.csvw_records.specs.declared.stop.RowStop.{RowStop}
use Rattle.csvw_records.specs.Lawful.{IsLawful}
use Rattle.csvw_records.specs.Files.{Row, File, Front}
use Rattle.csvw_records.specs.FirstRows.{ComeFirst}
use Rattle.csvw_records.specs.Stops.{Begins, StopsAt, StopOf}

-- bytes are a file of at most one list of rows
abbrev pub HaveOneList : Type 0
HaveOneList = (d : Dialect) (max : ℕ) (bytes : List ℕ) (rows others : List Row) → IsLawful d → File d max bytes rows → File d max bytes others → rows ≡ others

-- the front of bytes that haven't ended begins the front of all bytes that begin with them
abbrev pub FrontsGrow : Type 0
FrontsGrow = (d : Dialect) (max : ℕ) (bytes more : List ℕ) (ended : Bool) (front later : List Row) → IsLawful d → Front d max bytes false front
    → Front d max (bytes ++ more) ended later
    → (rest : List Row) × (later ≡ front ++ rest)

-- the place of a stop separates the fronts that begin a file from those that don't
abbrev pub StopsPart : Type 0
StopsPart = (d : Dialect) (max : ℕ) (text : List ℕ) (n : ℕ) → StopsAt d max text n
    → ((k : ℕ) → k < n → Begins d max (take k text)) × ((k : ℕ) → n ≤ k → Begins d max (take k text) → ⊥)

-- rows that come first begin the front
abbrev pub FirstBegin : Type 0
FirstBegin = (d : Dialect) (max : ℕ) (bytes : List ℕ) (ended : Bool) (rows front : List Row) → IsLawful d → ComeFirst d max bytes ended rows
    → Front d max bytes ended front
    → (rest : List Row) × (front ≡ rows ++ rest)

-- rows that come first in bytes that haven't ended come first in all bytes that begin with them
abbrev pub FirstStay : Type 0
FirstStay = (d : Dialect) (max : ℕ) (bytes more : List ℕ) (ended : Bool) (rows : List Row) → ComeFirst d max bytes false rows
    → ComeFirst d max (bytes ++ more) ended rows

-- bytes that begin a file, or are one, have no stop
abbrev pub FilesHaveNoStop : Type 0
FilesHaveNoStop = (d : Dialect) (max : ℕ) (bytes more : List ℕ) (ended : Bool) (rows : List Row) (stop : RowStop) (row : ℕ) → IsLawful d
    → (IsTrue ended → more ≡ [])
    → File d max (bytes ++ more) rows → StopOf d max bytes ended stop row → ⊥
