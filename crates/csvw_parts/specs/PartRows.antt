-- A piece of a table that was read of its file: `ReadsPiece`.
use Rattle.std.specs.Prelude.{◌≡◌, ℕ, zero, suc, List, [], ◌++◌, length, Option, Some, None}
use Rattle.std.specs.Io.KnownBytes.{Consumes}
use Rattle.csvw_streams.specs.declared.counted.Counted.{Counted}
use Rattle.csvw_streams.specs.Counted.{inner_of}
use Rattle.csvw_part_plan.specs.declared.piece.Piece.{Piece}
use Rattle.csvw_fault.specs.declared.fault.Fault.{Fault}
use Rattle.csvw_columns_core.specs.declared.columns.Columns.{Columns}
use Rattle.csvw_columns.specs.declared.plan.TablePlan.{TablePlan}
use Rattle.csvw_annotate.specs.declared.row.Row.{Row}
use Rattle.csvw_keys.specs.KeyRules.{KeyRule}
use Rattle.csvw_triples_core.specs.declared.mode.Mode.{Mode}
use Rattle.csvw_engine_core.specs.Faults.{table_faults}
use Rattle.csvw_engine_core.specs.declared.table.Table.{Table}
use Rattle.csvw_parts.specs.Fronts.{Opens, OpensFront}
use Rattle.csvw_parts.specs.Outlets.{Kept, Outs, TakesRows}
use Rattle.csvw_parts.specs.PieceRows.{AreRowsUpTo, ComesBefore, IsFront}
use Rattle.csvw_parts.specs.Reading.{EndsFile}

-- What is known of a table after a piece of it: its columns, the faults of its header, and those of the cells of the piece.
pub record Found : Type 0 where
  pub columns : Option Columns
  pub header : List Fault
  pub cells : List Fault

abbrev pub found_of : Table → Found
found_of t = record { columns = t.head.columns; header = t.head.faults; cells = t.faults }

-- the front of a file was read, which makes these columns
pub record KnowsFront {O R : Type 0} (opener : Opens O R) (file : List ℕ) (plan : TablePlan) (piece : Piece) (before after : O) (front : List ℕ)
    (known : Option Columns) : Type 0 where
  pub opens : OpensFront opener file piece.header_bytes before after front
  pub columns : Columns
  pub columns_are : known ≡ Some columns
  pub faults : List Fault
  pub is_front : IsFront plan front columns faults

-- what is read before a piece that begins at a byte: the front of the file, and nothing before the first piece
abbrev pub ReadsBefore : {O R : Type 0} → ℕ → Opens O R → List ℕ → TablePlan → Piece → O → O → List ℕ → Option Columns → Type 0
ReadsBefore zero opener file plan piece before after front known = (after ≡ before) × (front ≡ []) × (known ≡ None)
ReadsBefore (suc byte) opener file plan piece before after front known = KnowsFront opener file plan piece before after front known

-- The file was opened at a byte, and so many bytes of its reader were read. If no piece of the table follows, the reader was at its end. Then it
-- was handed back.
pub record OpensPiece {O R : Type 0} (opener : Opens O R) (file : List ℕ) (piece : Piece) (next : Option Piece) (before after : O) (text : List ℕ)
    : Type 0 where
  pub reader : R
  pub between : O
  pub opened : opener.opens_at before file piece.first_byte reader between
  pub left : Counted R
  pub many : length text ≡ piece.bytes
  pub consumed : Consumes (opener.remaining reader) (opener.remaining (inner_of left)) text
  pub ends : EndsFile next (opener.remaining (inner_of left))
  pub closed : opener.closes between left after

-- The bytes so far, with those of the piece, have these rows of the table after the rows before. They were taken, and the faults are those of
-- their cells.
pub record GivesRows {S W : Type 0} (out : Outs S W) (rules : List KeyRule) (plan : TablePlan) (mode : Mode) (next : Option Piece) (known : Option Columns)
    (found : Found) (bytes : List ℕ) (so_far : List Row) (before after : Kept S W) : Type 0 where
  pub rows : List Row
  pub are : AreRowsUpTo next plan bytes found.columns found.header (so_far ++ rows)
  pub same_columns : (columns : Columns) → known ≡ Some columns → found.columns ≡ Some columns
  pub takes : TakesRows out rules mode plan.number found.columns rows before after
  pub cells : found.cells ≡ table_faults plan.number found.columns rows

-- A piece was read. After all bytes that may come before it, it gives its rows.
pub record ReadsPiece {O R S W : Type 0} (opener : Opens O R) (out : Outs S W) (rules : List KeyRule) (plan : TablePlan) (mode : Mode) (file : List ℕ)
    (piece : Piece) (next : Option Piece) (found : Found) (old new : O) (before after : Kept S W) : Type 0 where
  pub between : O
  pub front : List ℕ
  pub known : Option Columns
  pub starts : ReadsBefore piece.first_byte opener file plan piece old between front known
  pub text : List ℕ
  pub reads : OpensPiece opener file piece next between new text
  pub gives : (bytes : List ℕ) (so_far : List Row) → ComesBefore piece.first_byte plan piece front known bytes so_far
      → GivesRows out rules plan mode next known found (bytes ++ text) so_far before after
