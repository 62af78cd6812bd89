-- The runs of all parts of a group, joined, are the whole group: `RunsJoin` (csv2rdf, section 4.2; Model for Tabular Data, sections 4.1 to
-- 4.5, 6.6 and 8; Metadata Vocabulary for Tabular Data, sections 5.5.1 and 5.5.2).
use Rattle.std.specs.Prelude.{◌≡◌, ◌≢◌, ◌↔◌, ℕ, zero, suc, nat_eq, if◌then◌else◌, List, [], ◌∷◌, ◌++◌, All, Contains, drop, flat_map, slice_get, Option, Some}
use Rattle.std.specs.List.{zip}
use Rattle.std.specs.List.Sorted.{IsPermutation}
use Rattle.csvw_columns.specs.Ready.{AreReady}
use Rattle.csvw_columns.specs.declared.plan.Plan.{Plan}
use Rattle.csvw_group_laws.specs.Annotated.{AreAnnotated, Table}
use Rattle.csvw_group_laws.specs.Graph.{GraphOf}
use Rattle.csvw_group_laws.specs.Violations.{rows_of, violations}
use Rattle.csvw_key_records.specs.RecordFaults.{record_faults}
use Rattle.csvw_key_records.specs.Records.{Fits, line_of}
use Rattle.csvw_key_records.specs.declared.record.KeyRecord.{KeyRecord}
use Rattle.csvw_keys.specs.KeyRules.{rules_of}
use Rattle.csvw_part_plan.specs.Plans.{part_count}
use Rattle.csvw_part_plan.specs.declared.piece.Piece.{Piece}
use Rattle.csvw_parts.specs.Fronts.{Opens}
use Rattle.csvw_parts.specs.Outlets.{Outs}
use Rattle.csvw_parts.specs.PartRuns.{RunsPart}
use Rattle.csvw_parts.specs.Recording.{BothSome}
use Rattle.csvw_parts.specs.declared.run.PartRequest.{PartRequest}
use Rattle.csvw_parts.specs.declared.state.PartRun.{PartRun}
use Rattle.csvw_row_keys.specs.RowRecords.{records_of}
use Rattle.csvw_split.specs.declared.splitting.TableFile.{TableFile}
use Rattle.csvw_streams.specs.Streams.{Sends, stream_of}
use Rattle.csvw_streams.specs.declared.counted.Counted.{Counted}
use Rattle.csvw_triples.specs.OpeningTriples.{opening}
use Rattle.csvw_triples_core.specs.declared.mode.Mode.{Mode}
use Rattle.csvw_triples_core.specs.declared.term.Triple.{Triple}
use Rattle.csvw_join_laws.specs.Joining.{Planned, TablePiece, piece_triples, whole}
use Rattle.csvw_join_laws.specs.Keys.{rows_in}
use Rattle.csvw_join_laws.specs.PlanPieces.{AreOfSplit, GiveTexts, part_pieces}
use Rattle.csvw_join_laws.specs.Running.{OpensTexts, paths_of}

-- A group, the mode of its triples, the plan of its pieces, the paths of its files, their texts, and its annotated tables.
pub record Group : Type 0 where
  pub plan : Plan
  pub mode : Mode
  pub pieces : List Piece
  pub paths : List (List ℕ)
  pub texts : ℕ → List ℕ
  pub tables : List Table

abbrev pub planned_of : Group → List Planned
planned_of g = zip g.plan.tables g.tables

-- the texts of the tables are annotated tables, and the plan of pieces is one that `split` returns for files with these texts
pub record IsSplitGroup {F : Type 0} (known : F → Option (List ℕ)) (files : List (TableFile F)) (g : Group) : Type 0 where
  pub ready : AreReady g.plan.tables
  pub annotated : AreAnnotated g.plan.tables g.texts g.tables
  pub of_split : AreOfSplit known g.plan.tables files g.pieces
  pub give : GiveTexts known files g.texts
  pub some : g.pieces ≢ []

-- the files that an opener opens from a byte on have the rest of these texts
abbrev pub OpensRests : {O R : Type 0} → Opens O R → List (List ℕ) → (ℕ → List ℕ) → Type 0
OpensRests {O} {R} opener paths texts = (i : ℕ) (path : List ℕ) (byte : ℕ) (before after : O) (reader : R) → slice_get paths i ≡ Some path
    → opener.opens_at before path byte reader after → opener.remaining reader ≡ Some (drop byte (texts i))

-- the files that an opener opens have the texts of the group
pub record OpensGroup {O R : Type 0} (opener : Opens O R) (g : Group) : Type 0 where
  pub texts : OpensTexts opener g.paths g.texts
  pub rests : OpensRests opener g.paths g.texts

-- a run of a part that returned: what was asked for, the states before it and after it, and what it returned
pub record Ran {O R S W : Type 0} (opener : Opens O R) (out : Outs S W) : Type 0 where
  pub request : PartRequest
  pub old : O
  pub new : O
  pub sink : S
  pub gained : S
  pub records : Option (Counted W)
  pub run : PartRun W
  pub runs : RunsPart opener out request old new sink gained records run

-- so many numbers from one on
abbrev pub numbers : ℕ → ℕ → List ℕ
numbers k zero = []
numbers k (suc n) = k ∷ numbers (suc k) n

-- the pieces of tables that the part of a number has
abbrev pub pieces_in : Group → ℕ → List TablePiece
pieces_in g k = part_pieces (planned_of g) g.pieces k

-- the triples of a part: those of the group and its tables, if it is part 1, and then those of the rows of its pieces
abbrev pub part_triples : Group → ℕ → List Triple
part_triples g k = (if nat_eq k 1 then opening g.mode g.plan else []) ++ flat_map (piece_triples g.mode) (pieces_in g k)

-- the triples of the group and its tables, and then those of the rows of each table, in order
abbrev pub group_triples : Group → List Triple
group_triples g = opening g.mode g.plan ++ flat_map (λ t. piece_triples g.mode (whole t)) (planned_of g)

-- these records were written, each in a line
pub record Wrote {W : Type 0} (contents : W → Option (List ℕ)) (records : List KeyRecord) (old new : Counted W) : Type 0 where
  pub fit : All Fits records
  pub sent : Sends (stream_of contents old new) (flat_map line_of records)

module _ {O R S W : Type 0} (opener : Opens O R) (out : Outs S W) (g : Group) where
  -- the run is that of the part of this number
  pub record IsRunOf (k : ℕ) (r : Ran opener out) : Type 0 where
    pub plan : r.request.plan.now ≡ g.plan
    pub mode : r.request.mode ≡ g.mode
    pub pieces : r.request.pieces.now ≡ g.pieces
    pub paths : paths_of r.request ≡ g.paths
    pub number : r.request.number ≡ k

  -- the runs are those of so many parts with numbers from k on
  abbrev pub AreRunsFrom : ℕ → ℕ → List (Ran opener out) → Type 0
  AreRunsFrom k zero runs = runs ≡ []
  AreRunsFrom k (suc n) [] = ⊥
  AreRunsFrom k (suc n) (r ∷ runs) = IsRunOf k r × AreRunsFrom (suc k) n runs

  -- The sink gained the triples of the part. These are the records of its rows, in some order. If records were asked for, it wrote these.
  pub record GivesOwn (k : ℕ) (r : Ran opener out) (records : List KeyRecord) : Type 0 where
    pub took : out.gains r.sink (part_triples g k) r.gained
    pub are : IsPermutation (records_of (rules_of g.plan) (rows_in (pieces_in g k))) records
    pub wrote : BothSome (Wrote out.contents records) r.records r.run.records

  -- each of the runs gives its own, with numbers from k on
  abbrev pub GiveOwn : ℕ → List (Ran opener out) → List (List KeyRecord) → Type 0
  GiveOwn k [] records = records ≡ []
  GiveOwn k (r ∷ runs) [] = ⊥
  GiveOwn k (r ∷ runs) (own ∷ records) = GivesOwn k r own × GiveOwn (suc k) runs records

  -- The triples of all parts, in order, are those of the group, which are its graph. The records of all parts are those of the rows of the
  -- tables. The faults of all parts and those that these records show, in any order, are the violations of the group.
  pub record JoinedRuns (runs : List (Ran opener out)) : Type 0 where
    pub records : List (List KeyRecord)
    pub each : GiveOwn 1 runs records
    pub triples : flat_map (part_triples g) (numbers 1 (part_count g.pieces)) ≡ group_triples g
    pub graph : (x : Triple) → Contains (group_triples g) x ↔ GraphOf g.mode g.plan g.tables x
    pub recorded : IsPermutation (records_of (rules_of g.plan) (rows_of g.tables)) (flat_map (λ own. own) records)
    pub faults : (joined : List KeyRecord) → IsPermutation (flat_map (λ own. own) records) joined
        → IsPermutation (violations g.plan g.tables) (flat_map (λ r. r.run.outcome.faults) runs ++ record_faults joined)

-- the runs of all parts, over one plan of a group, are the whole group
abbrev pub RunsJoin : {F O R S W : Type 0} → (F → Option (List ℕ)) → Opens O R → Outs S W → Type 0
RunsJoin {F} {O} {R} {S} {W} known opener out =
    (g : Group) (files : List (TableFile F)) (runs : List (Ran opener out)) → IsSplitGroup known files g → OpensGroup opener g
    → AreRunsFrom opener out g 1 (part_count g.pieces) runs → JoinedRuns opener out g runs
