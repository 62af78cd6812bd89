-- What a part of a run gives, after all bytes that may come before its pieces: `GivesPart`.
use Rattle.std.specs.Prelude.{◌≡◌, ℕ, List, [], ◌∷◌, ◌++◌, find, flat_map, Option}
use Rattle.std.specs.List.Sorted.{IsPermutation}
use Rattle.csvw_annotate.specs.declared.row.Row.{Row}
use Rattle.csvw_columns_core.specs.declared.columns.Columns.{Columns}
use Rattle.csvw_engine_core.specs.Faults.{table_faults}
use Rattle.csvw_engine_core.specs.Tables.{table_triples}
use Rattle.csvw_fault.specs.declared.fault.Fault.{Fault}
use Rattle.csvw_keys.specs.KeyRules.{rules_of}
use Rattle.csvw_part_plan.specs.Plans.{is_later}
use Rattle.csvw_part_plan.specs.declared.piece.Piece.{Piece}
use Rattle.csvw_triples_core.specs.Taking.{IsAsReady}
use Rattle.csvw_triples_core.specs.declared.mode.Mode.{Mode}
use Rattle.csvw_triples_core.specs.declared.term.Triple.{Triple}
use Rattle.csvw_parts.specs.Fronts.{Opens}
use Rattle.csvw_parts.specs.Outlets.{Outs, only}
use Rattle.csvw_parts.specs.PartSteps.{AddsPiece, AddsPieces, Reached, begun_faults}
use Rattle.csvw_parts.specs.PieceRows.{AreRowsUpTo, ComesBefore}
use Rattle.csvw_parts.specs.Recording.{Recorded}
use Rattle.csvw_parts.specs.declared.run.PartRequest.{PartRequest}

-- the rows of a piece, as rows of the whole table
pub record Taken : Type 0 where
  pub table : ℕ
  pub columns : Option Columns
  pub rows : List Row

abbrev pub taken_triples : Mode → Taken → List Triple
taken_triples mode t = table_triples mode t.table t.columns t.rows

abbrev pub taken_faults : Taken → List Fault
taken_faults t = table_faults t.table t.columns t.rows

-- the rows of each table, one piece after the other
abbrev pub rows_of : List Taken → ℕ → List Row
rows_of taken n = flat_map (λ t. only t.table t.rows n) taken

module _ {O R S W : Type 0} (opener : Opens O R) (out : Outs S W) (request : PartRequest) where
  -- some bytes, with their rows, come before a piece
  pub record HasBefore (piece : Piece) (before after : Reached O S W) (a : AddsPiece opener out request piece before after) : Type 0 where
    pub bytes : List ℕ
    pub rows : List Row
    pub comes : ComesBefore piece.first_byte a.plan piece a.reads.front a.reads.known bytes rows

  -- the piece has these rows after the rows before it
  pub record IsTaken (piece : Piece) (before after : Reached O S W) (a : AddsPiece opener out request piece before after)
      (b : HasBefore piece before after a) (t : Taken) : Type 0 where
    pub table_is : t.table ≡ a.plan.number
    pub columns_are : t.columns ≡ a.found.columns
    pub are : AreRowsUpTo (find (is_later piece) request.pieces.now) a.plan (b.bytes ++ a.reads.text) a.found.columns a.found.header (b.rows ++ t.rows)

  -- some bytes come before each piece
  abbrev pub HaveBefore : (pieces : List Piece) (before after : Reached O S W) → AddsPieces opener out request pieces before after → Type 0
  HaveBefore [] before after c = Unit {0}
  HaveBefore (piece ∷ pieces) before after c = HasBefore piece before c.between c.first × HaveBefore pieces c.between after c.rest

  -- the pieces have these rows
  abbrev pub AreTaken : (pieces : List Piece) (before after : Reached O S W) (c : AddsPieces opener out request pieces before after)
      → HaveBefore pieces before after c → List Taken → Type 0
  AreTaken [] before after c b taken = taken ≡ []
  AreTaken (piece ∷ pieces) before after c b [] = ⊥
  AreTaken (piece ∷ pieces) before after c b (t ∷ taken) =
      IsTaken piece before c.between c.first b.0 t × AreTaken pieces c.between after c.rest b.1 taken

  -- the faults of the headers of the tables that begin with these pieces
  abbrev pub header_faults : (pieces : List Piece) (before after : Reached O S W) → AddsPieces opener out request pieces before after → List Fault
  header_faults [] before after c = []
  header_faults (piece ∷ pieces) before after c =
      begun_faults piece.first_byte c.first.found.header ++ header_faults pieces c.between after c.rest

  -- The sink took the triples of these rows, the faults are those of the headers and of their cells, and the records of their keys were written.
  pub record GivesPieces (pieces : List Piece) (before after : Reached O S W) (c : AddsPieces opener out request pieces before after)
      (b : HaveBefore pieces before after c) : Type 0 where
    pub taken : List Taken
    pub are : AreTaken pieces before after c b taken
    pub took : out.gains before.has.sink (flat_map (taken_triples request.mode) taken) after.has.sink
    pub ready : IsAsReady out.is_open out.failed before.has.sink after.has.sink
    pub faults : IsPermutation ((before.faults ++ header_faults pieces before after c) ++ flat_map taken_faults taken) after.faults
    pub recorded : Recorded out.contents (rules_of request.plan.now) (rows_of taken) before.has.book after.has.book before.has.records after.has.records
