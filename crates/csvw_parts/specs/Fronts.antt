-- The front of a table's file, which is read before a later piece of it: `ReadsFront`, `GoesToPiece`.
use Rattle.std.specs.Prelude.{◌≡◌, ℕ, zero, suc, false, List, [], length, Option, Some}
use Rattle.std.specs.Io.KnownBytes.{Consumes}
use Rattle.csvw_streams.specs.declared.counted.Counted.{Counted}
use Rattle.csvw_streams.specs.Counted.{inner_of}
use Rattle.csvw_records.specs.RowValue.{Given}
use Rattle.csvw_part_plan.specs.declared.piece.Piece.{Piece}
use Rattle.csvw_columns_core.specs.declared.columns.Columns.{Columns}
use Rattle.csvw_columns.specs.declared.plan.TablePlan.{TablePlan}
use Rattle.csvw_annotate.specs.declared.row.Row.{Row}
use Rattle.csvw_triples_core.specs.declared.mode.Mode.{Mode}
use Rattle.csvw_engine_core.specs.Skipping.{SkipsTable}
use Rattle.csvw_engine_core.specs.Tables.{TableHolds}
use Rattle.csvw_engine_core.specs.declared.table.Table.{Table}

-- what is said of an opener and its readers
pub record Opens (O R : Type 0) : Type 1 where
  pub opens : O → List ℕ → Option R → O → Type 0
  pub opens_at : O → List ℕ → ℕ → R → O → Type 0
  pub closes : O → Counted R → O → Type 0
  pub remaining : R → Option (List ℕ)

abbrev pub opener_of : {O R : Type 0} → (O → List ℕ → Option R → O → Type 0) → (O → List ℕ → ℕ → R → O → Type 0) → (O → Counted R → O → Type 0)
    → (R → Option (List ℕ)) → Opens O R
opener_of opens opens_at closes remaining = record { opens = opens; opens_at = opens_at; closes = closes; remaining = remaining }

-- a table of which nothing had been read has this text, and some rows of it
pub record HoldsFront (plan : TablePlan) (mode : Mode) (t : Table) (text : List ℕ) : Type 0 where
  pub given : List Given
  pub rows : List Row
  pub holds : TableHolds plan mode t text false given rows

-- The reader gave so many bytes, which are the text of the table.
pub record ReadsFront {R : Type 0} (remaining : R → Option (List ℕ)) (plan : TablePlan) (old new : Table) (reader next : Counted R) (count : ℕ) : Type 0 where
  pub text : List ℕ
  pub many : length text ≡ count
  pub consumed : Consumes (remaining (inner_of reader)) (remaining (inner_of next)) text
  pub reads : (mode : Mode) → TableHolds plan mode old [] false [] [] → HoldsFront plan mode new text

-- The file was opened from its start, and so many bytes of its reader were read. Then it was handed back.
pub record OpensFront {O R : Type 0} (opener : Opens O R) (file : List ℕ) (count : ℕ) (before after : O) (text : List ℕ) : Type 0 where
  pub reader : R
  pub between : O
  pub opened : opener.opens before file (Some reader) between
  pub left : Counted R
  pub many : length text ≡ count
  pub consumed : Consumes (opener.remaining reader) (opener.remaining (inner_of left)) text
  pub closed : opener.closes between left after

-- The front of the file was read, and the table went on after the rows before the piece.
pub record GoesToPiece {O R : Type 0} (opener : Opens O R) (file : List ℕ) (plan : TablePlan) (piece : Piece) (old new : Table)
    (before after : O) : Type 0 where
  pub text : List ℕ
  pub opens : OpensFront opener file piece.header_bytes before after text
  pub middle : Table
  pub reads : (mode : Mode) → TableHolds plan mode old [] false [] [] → HoldsFront plan mode middle text
  pub columns : Columns
  pub columns_are : middle.head.columns ≡ Some columns
  pub skips : SkipsTable plan middle new piece.rows_before piece.data_rows_before

-- what was read before a piece that begins at a byte
abbrev pub StartsPiece : {O R : Type 0} → ℕ → Opens O R → List ℕ → TablePlan → Piece → Table → Table → O → O → Type 0
StartsPiece zero opener file plan piece old new before after = (new ≡ old) × (after ≡ before)
StartsPiece (suc byte) opener file plan piece old new before after = GoesToPiece opener file plan piece old new before after
