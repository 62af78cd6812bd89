-- The rows of a table with their keys, and what a book of them keeps (Metadata Vocabulary for Tabular Data, section 5.5).
use Rattle.std.specs.Prelude.{◌≡◌, ◌<◌, ℕ, List, Some, map}
use Rattle.std.specs.Vec.{vec_len, vec_capacity}
use Rattle.csvw_annotate.specs.declared.row.Row.{Row}
use Rattle.csvw_keys.specs.declared.key.KeyCell.{KeyCell}
use Rattle.csvw_keys.specs.declared.recording.KeyedRow.{KeyedRow}
use Rattle.csvw_keys.specs.declared.recording.RecordingBook.{RecordingBook}
use Rattle.csvw_keys.specs.Key.{key_of}

-- a row by its key cells and its number in its source
abbrev pub keyed : List KeyCell → ℕ → KeyedRow
keyed key source = record { key = key; source = source }

-- a row by its key in these columns
abbrev pub keyed_row : List ℕ → Row → KeyedRow
keyed_row columns row = keyed (key_of columns row) row.source

-- the rows, each by its key in these columns
abbrev pub keyed_rows : List ℕ → List Row → List KeyedRow
keyed_rows columns rows = map (keyed_row columns) rows

-- the book has these rows
abbrev pub KeepsRecording : RecordingBook → List Row → Type 0
KeepsRecording book rows = book.rows.items ≡ keyed_rows book.columns rows

-- the book has room for a row, and has the row's key
pub record IsRecordingStaged (book : RecordingBook) (row : Row) : Type 0 where
  pub key : book.next ≡ Some (key_of book.columns row)
  pub room : vec_len book.rows < vec_capacity book.rows
