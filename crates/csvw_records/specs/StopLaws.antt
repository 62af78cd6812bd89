-- Laws of the place where a text can no longer begin a file, by the rows before that place.
use Rattle.std.specs.Prelude.{◌≡◌, ◌≢◌, ◌⊎◌, ℕ, ◌+◌, ◌<◌, ◌≤◌, Bool, true, false, List, [], ◌++◌, length, take, drop, is_some}
use Rattle.std.specs.Str.Lossy.{utf8_valid_len, utf8_error_len}
use Rattle.csvw_records.specs.declared.dialect.Dialect.{Dialect}
use Rattle.csvw_records.specs.Lawful.{IsLawful}
use Rattle.csvw_records.specs.declared.stop.RowStop.{RowStop}
use Rattle.csvw_records.specs.Files.{Row, IsRow, AreRows, AreAllRows, KeepsLimits, BeginsWithRows, IsLongest, IsWhole, content, is_text}
use Rattle.csvw_records.specs.Lengths.{byte_len, row_limit}
use Rattle.csvw_records.specs.PartOfRow.{Goes, Ends, NoRow, NoLast, FirstEnd}
use Rattle.csvw_records.specs.RowLaws.{Again}
use Rattle.csvw_records.specs.Stops.{Begins, StopsAt, StopOf}

pub record StopLaws : Type 0 where
  -- a part of a text without a row either begins a row or begins none, and never both
  pub decide_part : (d : Dialect) (max i : ℕ) (part rest : List ℕ) → IsLawful d → NoRow d max i (part ++ rest) → Goes d max i part ⊎ Ends d max i part
  pub not_both : (d : Dialect) (max i : ℕ) (part : List ℕ) → IsLawful d → Goes d max i part → Ends d max i part → ⊥
  -- of the fronts that do not begin a row there is a shortest
  pub first_end : (d : Dialect) (max i : ℕ) (text : List ℕ) (n : ℕ) → IsLawful d → NoRow d max i text → Ends d max i (take n text) → FirstEnd d max i text n
  -- the stop is there
  pub stops_at : (d : Dialect) (max : ℕ) (text : List ℕ) (rows : List Row) (rest : List ℕ) (n : ℕ) → IsLawful d → (a : Again d 0 text rows rest)
      → KeepsLimits max rows
      → (f : FirstEnd d max (length rows) rest n) → n ≤ length rest → StopsAt d max text (length a.front + f.at)
  -- a shorter text after the rows has the same rows before it
  pub rows_before : (d : Dialect) (text : List ℕ) (rows : List Row) (rest : List ℕ) (n : ℕ) → (a : Again d 0 text rows rest)
      → AreRows d 0 (take (length a.front + n) text) rows (take n rest)
  -- they are the most rows if no row comes after them
  pub are_longest : (d : Dialect) (max : ℕ) (text : List ℕ) (rows : List Row) (rest : List ℕ) → IsLawful d → AreRows d 0 text rows rest → KeepsLimits max rows
      → NoRow d max (length rows) rest → IsLongest (BeginsWithRows d max text) rows
  -- the text isn't all rows if no last row comes either
  pub not_all : (d : Dialect) (max : ℕ) (text : List ℕ) (rows : List Row) (rest : List ℕ) → IsLawful d → AreRows d 0 text rows rest → KeepsLimits max rows
      → NoRow d max (length rows) rest → NoLast d max (length rows) rest → rest ≢ []
      → (others : List Row) → AreAllRows d text others → KeepsLimits max others → ⊥
  -- a last row that isn't too long begins a row with its terminator
  pub last_goes : (d : Dialect) (max i : ℕ) (row : Row) → IsLawful d → i < max → IsRow d i row [] → byte_len row.text ≤ row_limit → Goes d max i row.text
  -- the text begins a file if the rest of it begins a row
  pub goes_on_begins : (d : Dialect) (max : ℕ) (text : List ℕ) (rows : List Row) (rest : List ℕ) → IsLawful d → AreRows d 0 text rows rest
      → KeepsLimits max rows → Goes d max (length rows) rest → Begins d max text
  -- bytes that begin a file, and are one if they have ended, have no stop
  pub no_stop : (d : Dialect) (max : ℕ) (bytes : List ℕ) (ended : Bool) → Begins d max (content bytes)
      → (is_text bytes ≡ false → (ended ≡ false) × (is_some (utf8_error_len (drop (utf8_valid_len bytes) bytes)) ≡ false))
      → (ended ≡ true → IsWhole d max bytes) → (stop : RowStop) (row : ℕ) → StopOf d max bytes ended stop row → ⊥
