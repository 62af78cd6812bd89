-- How a table goes on with the bytes of a piece: `TakesBytes`, `TakesEnd`, `TakesBody`.
use Rattle.std.specs.Prelude.{◌≡◌, ℕ, Bool, true, false, List, [], ◌++◌, length, Option, Some, None}
use Rattle.std.specs.Io.KnownBytes.{Consumes, IsAtEnd}
use Rattle.csvw_streams.specs.declared.counted.Counted.{Counted}
use Rattle.csvw_streams.specs.Counted.{inner_of}
use Rattle.csvw_records.specs.RowValue.{Given}
use Rattle.csvw_part_plan.specs.declared.piece.Piece.{Piece}
use Rattle.csvw_columns.specs.declared.plan.TablePlan.{TablePlan}
use Rattle.csvw_annotate.specs.declared.row.Row.{Row}
use Rattle.csvw_keys.specs.KeyRules.{KeyRule}
use Rattle.csvw_triples_core.specs.declared.mode.Mode.{Mode}
use Rattle.csvw_engine_core.specs.Faults.{table_faults}
use Rattle.csvw_engine_core.specs.Tables.{HoldsWhole, KeepsColumns, TableHolds}
use Rattle.csvw_engine_core.specs.declared.table.Table.{Table}
use Rattle.csvw_parts.specs.Outlets.{Kept, Outs, TakesRows}
use Rattle.csvw_parts.specs.PieceRows.{AreRowsUpTo}

-- Further rows were taken, and the faults of their cells were listed.
pub record TakesMore {S W : Type 0} (out : Outs S W) (rules : List KeyRule) (plan : TablePlan) (mode : Mode) (more : List Row) (old new : Table)
    (before after : Kept S W) : Type 0 where
  pub takes : TakesRows out rules mode plan.number new.head.columns more before after
  pub told : new.faults ≡ old.faults ++ table_faults plan.number new.head.columns more
  pub keeps : KeepsColumns old new

-- the rows that some bytes complete were taken
pub record TakesText {S W : Type 0} (out : Outs S W) (rules : List KeyRule) (plan : TablePlan) (mode : Mode) (bytes : List ℕ) (given : List Given)
    (rows : List Row) (old new : Table) (before after : Kept S W) : Type 0 where
  pub raws : List Given
  pub more : List Row
  pub holds : TableHolds plan mode new bytes false (given ++ raws) (rows ++ more)
  pub takes : TakesMore out rules plan mode more old new before after

-- the text of a table goes on with these bytes
abbrev pub GoesOnWith : {S W : Type 0} → Outs S W → List KeyRule → TablePlan → Table → Table → Kept S W → Kept S W → List ℕ → Type 0
GoesOnWith out rules plan old new before after text = (mode : Mode) (bytes : List ℕ) (given : List Given) (rows : List Row)
    → TableHolds plan mode old bytes false given rows → TakesText out rules plan mode (bytes ++ text) given rows old new before after

-- the reader gave so many bytes, with which the table goes on
pub record TakesBytes {R S W : Type 0} (remaining : R → Option (List ℕ)) (out : Outs S W) (rules : List KeyRule) (plan : TablePlan) (old new : Table)
    (reader next : Counted R) (count : ℕ) (before after : Kept S W) : Type 0 where
  pub text : List ℕ
  pub many : length text ≡ count
  pub consumed : Consumes (remaining (inner_of reader)) (remaining (inner_of next)) text
  pub goes_on : GoesOnWith out rules plan old new before after text

-- the rows that are left at the end of a file were taken
pub record TakesWhole {S W : Type 0} (out : Outs S W) (rules : List KeyRule) (plan : TablePlan) (mode : Mode) (bytes : List ℕ) (rows : List Row)
    (old new : Table) (before after : Kept S W) : Type 0 where
  pub more : List Row
  pub holds : HoldsWhole plan mode new bytes (rows ++ more)
  pub takes : TakesMore out rules plan mode more old new before after

-- the table ends
abbrev pub TakesEnd : {S W : Type 0} → Outs S W → List KeyRule → TablePlan → Table → Table → Kept S W → Kept S W → Type 0
TakesEnd out rules plan old new before after = (mode : Mode) (bytes : List ℕ) (given : List Given) (rows : List Row)
    → TableHolds plan mode old bytes false given rows → TakesWhole out rules plan mode bytes rows old new before after

-- the rows of a piece were taken
pub record TakesPiece {S W : Type 0} (out : Outs S W) (rules : List KeyRule) (plan : TablePlan) (mode : Mode) (next : Option Piece) (bytes : List ℕ)
    (rows : List Row) (old new : Table) (before after : Kept S W) : Type 0 where
  pub more : List Row
  pub are : AreRowsUpTo next plan bytes new.head.columns new.head.faults (rows ++ more)
  pub takes : TakesMore out rules plan mode more old new before after

-- a reader is at its end, unless another piece of the table follows
abbrev pub EndsFile : Option Piece → Option (List ℕ) → Type 0
EndsFile (Some next) known = Unit {0}
EndsFile None known = IsAtEnd known

-- the reader gave so many bytes, which are a piece
pub record TakesBody {R S W : Type 0} (remaining : R → Option (List ℕ)) (out : Outs S W) (rules : List KeyRule) (plan : TablePlan) (next : Option Piece)
    (old new : Table) (reader left : Counted R) (count : ℕ) (before after : Kept S W) : Type 0 where
  pub text : List ℕ
  pub many : length text ≡ count
  pub consumed : Consumes (remaining (inner_of reader)) (remaining (inner_of left)) text
  pub ends : EndsFile next (remaining (inner_of left))
  pub takes : (mode : Mode) (bytes : List ℕ) (given : List Given) (rows : List Row) → TableHolds plan mode old bytes false given rows
      → TakesPiece out rules plan mode next (bytes ++ text) rows old new before after

-- nothing more was read, and the reader is at its end
abbrev pub EndsReader : Option (List ℕ) → Option (List ℕ) → Type 0
EndsReader known left = Consumes known left [] × IsAtEnd left

-- the same, if the reader said so
abbrev pub EndsReaderIf : Bool → Option (List ℕ) → Option (List ℕ) → Type 0
EndsReaderIf true known left = EndsReader known left
EndsReaderIf false known left = Unit {0}
