-- The rows of a file so far: `Follows`; and the rows before a place where a row ends: `HasRows`, `HasGiven` (RFC 4180, section 2).
use Rattle.std.specs.Prelude.{◌≡◌, ℕ, ◌-◌, false, List, length}
use Rattle.csvw_records.specs.declared.dialect.Dialect.{Dialect}
use Rattle.csvw_records.specs.Files.{Row, remaining}
use Rattle.csvw_records.specs.RowValue.{Given}
use Rattle.csvw_rows.specs.RowsState.{Holds, reading_of}
use Rattle.csvw_part_laws.specs.Parts.{AreWholeRows}
use Rattle.csvw_split.specs.declared.file.FileRows.{FileRows}

-- how many rows of a file are read
abbrev pub max_rows : ℕ
max_rows = 4000000000

-- the number of complete rows of all kinds
abbrev pub rows_of : FileRows → ℕ
rows_of s = reading_of s.rows - 1

-- the number of header rows and data rows that are complete
abbrev pub given_of : FileRows → ℕ
given_of s = s.given

-- the number of data rows that are complete
abbrev pub data_rows_of : FileRows → ℕ
data_rows_of s = s.given - s.headers

-- these bytes of the file were read, by this dialect
pub record Follows (s : FileRows) (d : Dialect) (text : List ℕ) : Type 0 where
  pub given : List Given
  pub holds : Holds s.rows d max_rows text false given
  pub count : s.given ≡ length given
  pub headers : s.headers ≡ d.header_row_count

-- the bytes are whole rows: so many of all kinds, and so many data rows
pub record HasRows (d : Dialect) (text : List ℕ) (rows data_rows : ℕ) : Type 0 where
  pub all : List Row
  pub whole : AreWholeRows d text all
  pub rows_are : rows ≡ length all
  pub data_rows_are : data_rows ≡ length (remaining d 1 all) - d.header_row_count

-- the bytes are whole rows: so many of all kinds, and so many header rows and data rows
pub record HasGiven (d : Dialect) (text : List ℕ) (rows given : ℕ) : Type 0 where
  pub all : List Row
  pub whole : AreWholeRows d text all
  pub rows_are : rows ≡ length all
  pub given_are : given ≡ length (remaining d 1 all)
