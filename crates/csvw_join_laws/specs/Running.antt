-- A part that ran over its pieces of a plan of `split`, whose files are annotated tables: `PartsGive`.
use Rattle.std.specs.Prelude.{◌≡◌, ◌-◌, ℕ, List, [], ◌∷◌, map, slice_get, take, Option, Some}
use Rattle.std.specs.List.{All}
use Rattle.csvw_streams.specs.declared.counted.Counted.{Counted}
use Rattle.csvw_group_laws.specs.Annotated.{AreAnnotated, Table}
use Rattle.csvw_group_laws.specs.Violations.{rows_of}
use Rattle.csvw_part_plan.specs.declared.piece.Piece.{Piece}
use Rattle.csvw_parts.specs.Fronts.{Opens}
use Rattle.csvw_parts.specs.Outlets.{Outs}
use Rattle.csvw_parts.specs.PartGains.{HasBefore, HaveBefore}
use Rattle.csvw_parts.specs.PartRuns.{GivesPart, RunsPart, own_pieces, warnings_of}
use Rattle.csvw_parts.specs.PartSteps.{AddsPiece, AddsPieces, Reached, reached}
use Rattle.csvw_parts.specs.declared.run.PartRequest.{PartRequest}
use Rattle.csvw_parts.specs.declared.state.PartRun.{PartRun}
use Rattle.csvw_join_laws.specs.PlanPieces.{AreLawful, HasRowsBefore}

-- the files of a part
abbrev pub paths_of : PartRequest → List (List ℕ)
paths_of request = map (λ f. f.now) request.files.now

-- the files that an opener opens have these texts
abbrev pub OpensTexts : {O R : Type 0} → Opens O R → List (List ℕ) → (ℕ → List ℕ) → Type 0
OpensTexts {O} {R} opener paths texts = (i : ℕ) (path : List ℕ) (before after : O) (reader : R) → slice_get paths i ≡ Some path
    → opener.opens before path (Some reader) after → opener.remaining reader ≡ Some (texts i)

module _ {O R S W : Type 0} (opener : Opens O R) (out : Outs S W) (request : PartRequest) (texts : ℕ → List ℕ) (tables : List Table) where
  -- before a piece come the bytes of its file that are before it, and the first rows of its table
  pub record IsPlaced (piece : Piece) (before after : Reached O S W) (a : AddsPiece opener out request piece before after)
      (b : HasBefore opener out request piece before after a) : Type 0 where
    pub bytes : b.bytes ≡ take piece.first_byte (texts (piece.table - 1))
    pub rows : b.rows ≡ take piece.data_rows_before (rows_of tables piece.table)

  abbrev pub ArePlaced : (pieces : List Piece) (before after : Reached O S W) (c : AddsPieces opener out request pieces before after)
      → HaveBefore opener out request pieces before after c → Type 0
  ArePlaced [] before after c b = Unit {0}
  ArePlaced (piece ∷ pieces) before after c b = IsPlaced piece before c.between c.first b.0 × ArePlaced pieces c.between after c.rest b.1

  -- before each piece of the part come these bytes and rows, so it gives its own
  pub record PartGives (old new : O) (sink gained : S) (records : Option (Counted W)) (run : PartRun W)
      (runs : RunsPart opener out request old new sink gained records run) : Type 0 where
    pub before : HaveBefore opener out request (own_pieces request) (reached old runs.own.opened runs.own.book records (warnings_of request))
        runs.own.last runs.own.pieces
    pub placed : ArePlaced (own_pieces request) (reached old runs.own.opened runs.own.book records (warnings_of request)) runs.own.last
        runs.own.pieces before
    pub gives : GivesPart opener out request old new sink gained records run runs.own before

-- a part that ran over such pieces gives their rows
abbrev pub PartsGive : {O R S W : Type 0} → Opens O R → Outs S W → Type 0
PartsGive {O} {R} {S} {W} opener out =
    (request : PartRequest) (texts : ℕ → List ℕ) (tables : List Table) (old new : O) (sink gained : S) (records : Option (Counted W)) (run : PartRun W)
    → OpensTexts opener (paths_of request) texts → AreLawful request.plan.now.tables → AreAnnotated request.plan.now.tables texts tables
    → All (HasRowsBefore request.plan.now.tables texts tables) request.pieces.now → (runs : RunsPart opener out request old new sink gained records run)
    → PartGives opener out request texts tables old new sink gained records run runs
