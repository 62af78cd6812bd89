-- The row or the stop at the start of the text that is left, after a number of rows.
use Rattle.std.specs.Prelude.{◌≡◌, ◌≢◌, ◌⊎◌, ℕ, ◌<◌, ◌≤◌, Bool, true, false, List, [], ◌++◌, length, take, drop, Option}
use Rattle.csvw_records.specs.declared.dialect.Dialect.{Dialect}
use Rattle.csvw_records.specs.declared.stop.RowStop.{RowStop}
use Rattle.csvw_records.specs.declared.stop.RowStop.TheVariants.{Memory, NotUtf8}
use Rattle.csvw_rows.specs.declared.next.After.{After}
use Rattle.csvw_rows.specs.declared.next.After.TheVariants.{More, Nothing, NoText}
use Rattle.csvw_records.specs.Grammar.{terminator_len}
use Rattle.csvw_records.specs.Files.{Row, IsRow}
use Rattle.csvw_records.specs.Lengths.{byte_len, row_limit}
use Rattle.csvw_records.specs.PartOfRow.{Goes, NoRow, NoLast, FirstEnd}
use Rattle.csvw_records.specs.Stops.{IsNamed}

-- whether the text has ended and all of it is characters
abbrev pub is_last : After → Bool
is_last More = false
is_last Nothing = true
is_last NoText = false

-- a row with its terminator, or the last row, which may have none
abbrev pub StandsThere : Bool → Dialect → ℕ → ℕ → List ℕ → ℕ → Row → Type 0
StandsThere whole d max i text len row = ((rest : List ℕ) × (text ≡ row.text ++ rest) × IsRow d i row rest × (0 < terminator_len d rest)
    × (drop len text ≡ drop (terminator_len d rest) rest))
    ⊎ ((whole ≡ true) × (text ≡ row.text) × IsRow d i row [] × (drop len text ≡ []) × Goes d max i text)

pub record TakesRow (whole : Bool) (d : Dialect) (max i : ℕ) (text : List ℕ) (len : ℕ) (fields : Option (List (List ℕ))) : Type 0 where
  pub some : 0 < len
  pub within : len ≤ length text
  pub few : i < max
  pub row : Row
  pub fields_are : row.fields ≡ fields
  pub short : byte_len row.text ≤ row_limit
  pub stands : StandsThere whole d max i text len row

-- the stop is at a character, or at the end
pub record StopsHere (whole : Bool) (d : Dialect) (max i : ℕ) (text : List ℕ) (stop : RowStop) : Type 0 where
  pub some : text ≢ []
  pub no_row : NoRow d max i text
  pub no_last : whole ≡ true → NoLast d max i text
  pub stands : ((f : FirstEnd d max i text (length text)) × IsNamed d max i (take f.at text) false stop) ⊎
      ((whole ≡ true) × Goes d max i text × IsNamed d max i text true stop)

abbrev pub StopGives : After → Dialect → ℕ → ℕ → List ℕ → RowStop → Type 0
StopGives after d max i text Memory = Unit {0}
StopGives after d max i text NotUtf8 = (after ≡ NoText) × Goes d max i text × NoRow d max i text
StopGives after d max i text other = StopsHere (is_last after) d max i text other

-- no row is complete
abbrev pub Waits : After → Dialect → ℕ → ℕ → List ℕ → Type 0
Waits after d max i text = (after ≢ NoText) × Goes d max i text × NoRow d max i text × (after ≡ Nothing → text ≡ [])
