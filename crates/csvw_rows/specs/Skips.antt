-- A reader that goes on after rows whose bytes it wasn't given, and the place where the rows that were read end: `SkipsTo`, `RowEnds`
-- (RFC 4180, section 2).
use Rattle.std.specs.Prelude.{◌≡◌, ℕ, ◌+◌, ◌<◌, Bool, false, not, ◌&&◌, ◌||◌, nat_lt, is_some, List, ◌++◌, length}
use Rattle.csvw_records.specs.declared.dialect.Dialect.{Dialect}
use Rattle.csvw_records.specs.Files.{Row, Body, remaining}
use Rattle.csvw_records.specs.RowValue.{Given}
use Rattle.csvw_part_laws.specs.Parts.{AreWholeRows}
use Rattle.csvw_rows.specs.declared.rows.Rows.{Rows}
use Rattle.csvw_rows.specs.RowsState.{Holds, is_ended_of, reading_of, stop_of}
use Rattle.csvw_rows.specs.SourceState.{unread_bytes_in}

-- the number of bytes that no row has which was read
abbrev pub unread_bytes_of : Rows → ℕ
unread_bytes_of s = unread_bytes_in s.source

-- the number of header rows and data rows that were read
abbrev pub remained_of : Rows → ℕ
remained_of s = s.remained

-- the reader can go on after so many rows of all kinds, of which so many remained
abbrev pub can_skip : Rows → ℕ → ℕ → Bool
can_skip s rows remained =
    not (is_ended_of s || is_some (stop_of s) || nat_lt 0 (unread_bytes_of s)) && not (nat_lt rows remained || nat_lt s.max_rows rows)

-- The bytes so far and some more are whole rows of these numbers. After the call they were fed, and their rows returned.
pub record SkipsTo (old new : Rows) (rows remained : ℕ) : Type 0 where
  pub reading : reading_of new ≡ rows + 1
  pub not_ended : is_ended_of new ≡ false
  pub goes_on : (d : Dialect) (max : ℕ) (bytes between : List ℕ) (given : List Given) (whole : List Row) → Holds old d max bytes false given
      → AreWholeRows d (bytes ++ between) whole → rows ≡ length whole → remained ≡ length (remaining d 1 whole)
      → Holds new d max (bytes ++ between) false (Body d whole)

-- The bytes are whole rows, which were returned, and then so many bytes that are unread.
pub record EndsRow (s : Rows) (d : Dialect) (bytes : List ℕ) (given : List Given) : Type 0 where
  pub front : List ℕ
  pub unread : List ℕ
  pub spelled : bytes ≡ front ++ unread
  pub count : length unread ≡ unread_bytes_of s
  pub rows : List Row
  pub are_rows : AreWholeRows d front rows
  pub body : Body d rows ≡ given
  pub reading : reading_of s ≡ length rows + 1
  pub remained : remained_of s ≡ length (remaining d 1 rows)

-- If a row was read of a text that hasn't ended, a row ends before the bytes that are unread.
abbrev pub RowEnds : Type 0
RowEnds = (s : Rows) (d : Dialect) (max : ℕ) (bytes : List ℕ) (given : List Given) → Holds s d max bytes false given → 1 < reading_of s
    → EndsRow s d bytes given
