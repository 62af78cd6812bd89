-- What the run of one part gives, by the plan, the mode, the pieces and the number of the part.
use Rattle.std.proofs.Common.{◌≡◌, ◌∙◌, ℕ, List, [], ◌++◌, Option, Some, None, ap, subst, flat_map, length, map}
use mathlib.Core.Path.{fun_ext}
use Rattle.std.specs.Prelude.{if◌then◌else◌, nat_eq}
use Rattle.std.specs.List.{zip}
use Rattle.std.specs.List.Sorted.{IsPermutation}
use Rattle.std.proofs.lemmas.List.Folds.{flat_map-map}
use Rattle.std.proofs.lemmas.List.Sorted.{IsPermutation-refl}
use Rattle.csvw_annotate.specs.declared.row.Row.{Row}
use Rattle.csvw_columns.specs.declared.plan.Plan.{Plan}
use Rattle.csvw_fault.specs.declared.fault.Fault.{Fault}
use Rattle.csvw_group_laws.specs.Annotated.{Table}
use Rattle.csvw_key_records.specs.declared.record.KeyRecord.{KeyRecord}
use Rattle.csvw_keys.specs.KeyRules.{KeyRule, rules_of}
use Rattle.csvw_part_plan.specs.declared.piece.Piece.{Piece}
use Rattle.csvw_parts.specs.Fronts.{Opens}
use Rattle.csvw_parts.specs.Outlets.{Outs, only}
use Rattle.csvw_parts.specs.PartGains.{Taken, taken_faults, taken_triples}
use Rattle.csvw_parts.specs.PartGains.{rows_of as rows_taken}
use Rattle.csvw_parts.specs.PartRuns.{opening_of, own_of, own_pieces, warnings_of}
use Rattle.csvw_parts.specs.Recording.{BothSome, SendsRecords}
use Rattle.csvw_row_keys.specs.RowRecords.{records_of}
use Rattle.csvw_streams.specs.declared.counted.Counted.{Counted}
use Rattle.csvw_triples.specs.OpeningTriples.{opening}
use Rattle.csvw_triples_core.specs.declared.mode.Mode.{Mode}
use Rattle.csvw_join_laws.specs.AllParts.{OpensRests, Ran, Wrote}
use Rattle.csvw_join_laws.specs.Finding.{FindRows}
use Rattle.csvw_join_laws.specs.Joining.{TablePiece, piece_faults, piece_triples}
use Rattle.csvw_join_laws.specs.Keys.{rows_in}
use Rattle.csvw_join_laws.specs.PlanPieces.{HasRowsBefore, part_pieces}
use Rattle.csvw_join_laws.specs.Running.{PartGives, paths_of}
use Rattle.csvw_join_laws.proofs.Headers.{header_of}
use Rattle.csvw_join_laws.proofs.Nexts.{IsFollowed, own_have}
use Rattle.csvw_join_laws.proofs.OwnRows.{AreGoodPlaces, own_all, taken_of}
use Rattle.csvw_join_laws.proofs.Warnings.{warnings_in}

-- the pieces of tables that a part has
abbrev pub own_tables : List Table → Plan → List Piece → ℕ → List TablePiece
own_tables tables plan pieces number = part_pieces (zip plan.tables tables) pieces number

-- the faults of the headers of the tables that begin in a part
abbrev pub headers_in : List Table → Plan → List Piece → ℕ → List Fault
headers_in tables plan pieces number = flat_map (header_of (zip plan.tables tables)) (own_of number pieces)

-- the faults of a part: the warnings, those of the headers, and those of the cells
abbrev pub faults_in : List Table → Plan → List Piece → ℕ → List Fault
faults_in tables plan pieces number =
    (warnings_in (length plan.tables) pieces plan.warnings number ++ headers_in tables plan pieces number)
    ++ flat_map piece_faults (own_tables tables plan pieces number)

pub record Gives {O R S W : Type 0} (opener : Opens O R) (out : Outs S W) (tables : List Table) (r : Ran opener out) (plan : Plan) (mode : Mode)
    (pieces : List Piece) (number : ℕ) : Type 0 where
  pub took : out.gains r.sink
      ((if nat_eq number 1 then opening mode plan else []) ++ flat_map (piece_triples mode) (own_tables tables plan pieces number)) r.gained
  pub faults : IsPermutation (faults_in tables plan pieces number) r.run.outcome.faults
  pub sends : BothSome (SendsRecords out.contents (rules_of plan) (rows_in (own_tables tables plan pieces number))) r.records r.run.records

-- the records that were sent, or those of the rows if none were asked for
pub record Sent {W : Type 0} (contents : W → Option (List ℕ)) (rules : List KeyRule) (rows : ℕ → List Row) (old new : Option (Counted W)) : Type 0 where
  pub records : List KeyRecord
  pub are : IsPermutation (records_of rules rows) records
  pub wrote : BothSome (Wrote contents records) old new

pub sent_of : {W : Type 0} (contents : W → Option (List ℕ)) (rules : List KeyRule) (rows : ℕ → List Row) (old new : Option (Counted W))
    → BothSome (SendsRecords contents rules rows) old new → Sent contents rules rows old new
sent_of contents rules rows None None sends = record { records = records_of rules rows; are = IsPermutation-refl (records_of rules rows); wrote = tt }
sent_of contents rules rows None (Some new) sends = absurd sends
sent_of contents rules rows (Some old) None sends = absurd sends
sent_of contents rules rows (Some old) (Some new) sends =
    record { records = sends.records; are = sends.are; wrote = record { fit = sends.fit; sent = sends.sent } }

module _ {O R S W : Type 0} (opener : Opens O R) (out : Outs S W) (texts : ℕ → List ℕ) (tables : List Table) (find_rows : FindRows) (r : Ran opener out)
    (rests : OpensRests opener (paths_of r.request) texts)
    (good : AreGoodPlaces r.request.plan.now.tables texts tables r.request.pieces.now) where
  abbrev own : List TablePiece
  own = own_tables tables r.request.plan.now r.request.pieces.now r.request.number

  rows_same : (taken : List Taken) → taken ≡ map taken_of own → rows_taken taken ≡ rows_in own
  rows_same taken is = fun_ext (λ n. ap (λ l. rows_taken l n) is ∙ flat_map-map (λ (t : Taken). only t.table t.rows n) taken_of own)

  pub gives_own : PartGives opener out r.request texts tables r.old r.new r.sink r.gained r.records r.run r.runs
      → Gives opener out tables r r.request.plan.now r.request.mode r.request.pieces.now r.request.number
  gives_own part =
      let request = r.request in
      let pieces = request.pieces.now in
      let mine = part.gives in
      let has = own_have (HasRowsBefore request.plan.now.tables texts tables) request.number pieces good.places in
      let followed = own_have (IsFollowed pieces) request.number pieces good.followed in
      let all = own_all opener out request texts tables find_rows rests good (own_pieces request) has followed _ r.runs.own.last r.runs.own.pieces part.before
      part.placed mine.taken mine.are in
      let triples = ap (flat_map (taken_triples request.mode)) all.all ∙ flat_map-map (taken_triples request.mode) taken_of own in
      let cells = ap (flat_map taken_faults) all.all ∙ flat_map-map taken_faults taken_of own in
      let headers = ap (λ l. (warnings_of request ++ l) ++ flat_map taken_faults mine.taken) all.faults in
      let whole = ap (λ l. (warnings_of request ++ headers_in tables request.plan.now pieces request.number) ++ l) cells in
      record {
        took = subst (λ l. out.gains r.sink (opening_of request ++ l) r.gained) triples mine.took;
        faults = subst (λ l. IsPermutation l r.run.outcome.faults) (headers ∙ whole) mine.faults;
        sends = subst (λ rows. BothSome (SendsRecords out.contents (rules_of request.plan.now) rows) r.records r.run.records)
            (rows_same mine.taken all.all) mine.recorded;
      }
