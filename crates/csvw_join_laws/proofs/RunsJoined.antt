-- The runs of all parts, one after the other, are the whole group: their triples, their records and their faults.
use Rattle.std.proofs.Common.{◌≡◌, ◌≢◌, ◌∙◌, ℕ, zero, suc, ◌<◌, ◌≤◌, false, List, [], ◌∷◌, ◌++◌, Option, None, refl, sym, ap, ap₂, subst, arith, append_assoc, flat_map, length, map}
use mathlib.Core.Path.{fun_ext}
use Rattle.std.specs.Prelude.{if◌then◌else◌, nat_eq}
use Rattle.std.specs.List.{All}
use Rattle.std.specs.List.Sorted.{IsPermutation}
use Rattle.std.proofs.lemmas.Bool.Decides.{nat_tests}
use Rattle.std.proofs.lemmas.List.Elements.{All-weaker}
use Rattle.std.proofs.lemmas.List.Folds.{flat_map-map}
use Rattle.std.proofs.lemmas.List.Sorted.{IsPermutation-append_left, IsPermutation-refl, IsPermutation-sym, IsPermutation-trans}
use Rattle.csvw_columns.specs.declared.plan.Plan.{Plan}
use Rattle.csvw_fault.specs.declared.fault.Fault.{Fault}
use Rattle.csvw_group_laws.specs.Annotated.{AreAnnotated}
use Rattle.csvw_group_laws.specs.Violations.{rows_of, violations}
use Rattle.csvw_key_records.specs.RecordFaults.{record_faults}
use Rattle.csvw_key_records.specs.declared.record.KeyRecord.{KeyRecord}
use Rattle.csvw_keys.specs.KeyRules.{rules_of}
use Rattle.csvw_part_plan.specs.Plans.{TileFront, last_of, part_count}
use Rattle.csvw_part_plan.specs.declared.piece.Piece.{Piece}
use Rattle.csvw_parts.specs.Fronts.{Opens}
use Rattle.csvw_parts.specs.Outlets.{Outs}
use Rattle.csvw_split.specs.Split.{IsPieceOfSome}
use Rattle.csvw_row_keys.specs.RecordLaws.{JoinsRecords, all_of}
use Rattle.csvw_row_keys.specs.RowRecords.{records_of}
use Rattle.csvw_triples.specs.OpeningTriples.{opening}
use Rattle.csvw_join_laws.specs.AllParts.{AreRunsFrom, GiveOwn, Group, IsRunOf, OpensGroup, OpensRests, Ran, RunsJoin, group_triples, numbers, part_triples, pieces_in, planned_of}
use Rattle.csvw_join_laws.specs.Finding.{FindRows}
use Rattle.csvw_join_laws.specs.Joining.{AreCutInto, PartsJoin, Planned, TablePiece, piece_faults, piece_triples, pieces_of}
use Rattle.csvw_join_laws.specs.Keys.{KeysJoin, rows_in}
use Rattle.csvw_join_laws.specs.PlanPieces.{AreLawful, CutsArePieces, parts_of}
use Rattle.csvw_join_laws.specs.Running.{OpensTexts, PartsGive}
use Rattle.csvw_join_laws.proofs.Graphs.{OpeningIsGraph, RowsAreGraph, group_graph}
use Rattle.csvw_join_laws.proofs.Headers.{header_of, headers_joined}
use Rattle.csvw_join_laws.proofs.Joins.{apart, both, same}
use Rattle.csvw_join_laws.proofs.Keys.{rows_joined}
use Rattle.csvw_join_laws.proofs.Nexts.{all_followed}
use Rattle.csvw_join_laws.proofs.OwnRows.{AreGoodPlaces}
use Rattle.csvw_join_laws.proofs.PartGiven.{Gives, faults_in, gives_own, headers_in, own_tables, sent_of}
use Rattle.csvw_join_laws.proofs.Places.{has_last, low_table, zip_len}
use Rattle.csvw_join_laws.proofs.Ranges.{by_numbers, in_order, parts_by_numbers}
use Rattle.csvw_join_laws.proofs.Texts.{ready_at}
use Rattle.csvw_join_laws.proofs.Warnings.{some_part, warnings_in, warnings_joined}

module _ {O R S W : Type 0} (opener : Opens O R) (out : Outs S W) (g : Group) (find_rows : FindRows) (parts_give : PartsGive opener out)
    (opens : OpensGroup opener g) (good : AreGoodPlaces g.plan.tables g.texts g.tables g.pieces) where
  -- the run of one part
  run_gives : (k : ℕ) (r : Ran opener out) → IsRunOf opener out g k r → Gives opener out g.tables r g.plan g.mode g.pieces k
  run_gives k r is =
      let request = r.request in
      let texts = subst (λ paths. OpensTexts opener paths g.texts) (sym is.paths) opens.texts in
      let rests = subst (λ paths. OpensRests opener paths g.texts) (sym is.paths) opens.rests in
      let mine = subst (λ (plan : Plan). AreGoodPlaces plan.tables g.texts g.tables request.pieces.now) (sym is.plan)
      (subst (λ pieces. AreGoodPlaces g.plan.tables g.texts g.tables pieces) (sym is.pieces) good) in
      let lawful : AreLawful request.plan.now.tables = λ i plan at. (ready_at request.plan.now.tables i plan mine.ready at).dialect in
      let part = parts_give request g.texts g.tables r.old r.new r.sink r.gained r.records r.run texts lawful mine.annotated mine.places r.runs in
      let own = gives_own opener out g.texts g.tables find_rows r rests mine part in
      subst (λ n. Gives opener out g.tables r g.plan g.mode g.pieces n) is.number
      (subst (λ pieces. Gives opener out g.tables r g.plan g.mode pieces request.number) is.pieces
      (subst (λ mode. Gives opener out g.tables r g.plan mode request.pieces.now request.number) is.mode
      (subst (λ (plan : Plan). Gives opener out g.tables r plan request.mode request.pieces.now request.number) is.plan own)))

  abbrev pub faults_of : ℕ → List Fault
  faults_of k = faults_in g.tables g.plan g.pieces k

  -- the records of the rows of so many parts
  abbrev pub records_by : ℕ → ℕ → List KeyRecord
  records_by k n = flat_map (λ i. records_of (rules_of g.plan) (rows_in (pieces_in g i))) (numbers k n)

  -- the runs of so many parts
  pub record AllGiven (k n : ℕ) (runs : List (Ran opener out)) : Type 0 where
    pub records : List (List KeyRecord)
    pub each : GiveOwn opener out g k runs records
    pub faults : IsPermutation (flat_map faults_of (numbers k n)) (flat_map (λ r. r.run.outcome.faults) runs)
    pub recorded : IsPermutation (records_by k n) (flat_map (λ own. own) records)

  pub all_given : (k n : ℕ) (runs : List (Ran opener out)) → AreRunsFrom opener out g k n runs → AllGiven k n runs
  all_given k zero [] are = record { records = []; each = refl; faults = IsPermutation-refl []; recorded = IsPermutation-refl [] }
  all_given k zero (r ∷ runs) are = cc
  all_given k (suc n) [] are = absurd are
  all_given k (suc n) (r ∷ runs) are =
      let one = run_gives k r are.0 in
      let sent = sent_of out.contents (rules_of g.plan) (rows_in (pieces_in g k)) r.records r.run.records one.sends in
      let more = all_given (suc k) n runs are.1 in
      record {
        records = sent.records ∷ more.records;
        each = (record { took = one.took; are = sent.are; wrote = sent.wrote }, more.each);
        faults = both _ _ _ _ one.faults more.faults;
        recorded = both _ _ _ _ sent.are more.recorded;
      }

-- what only part 1 has is not in the parts after it
none_of_later : (g : Group) (k n : ℕ) → 1 < k
    → flat_map (part_triples g) (numbers k n) ≡ flat_map (λ i. flat_map (piece_triples g.mode) (pieces_in g i)) (numbers k n)
none_of_later g k zero later = refl
none_of_later g k (suc n) later =
    let other : nat_eq k 1 ≡ false = grind (arith, nat_tests) in
    ap₂ (λ a b. a ++ b) (ap (λ b. (if b then opening g.mode g.plan else []) ++ flat_map (piece_triples g.mode) (pieces_in g k)) other)
    (none_of_later g (suc k) n (omega (arith, later)))

opens_first : (g : Group) (n : ℕ) → 0 < n
    → flat_map (part_triples g) (numbers 1 n) ≡ opening g.mode g.plan ++ flat_map (λ i. flat_map (piece_triples g.mode) (pieces_in g i)) (numbers 1 n)
opens_first g zero some = absurd (omega (arith, some))
opens_first g (suc n) some =
    ap (λ l. part_triples g 1 ++ l) (none_of_later g 2 n (omega arith))
    ∙ append_assoc (opening g.mode g.plan) (flat_map (piece_triples g.mode) (pieces_in g 1)) _

module _ (g : Group) (tile : TileFront g.pieces) (some : g.pieces ≢ []) (few : All (λ p. p.table ≤ length (planned_of g)) g.pieces)
    (top : 0 < length (planned_of g) → last_of (length (planned_of g)) g.pieces ≢ None) (same_length : length (planned_of g) ≡ length g.plan.tables)
    (cut : AreCutInto (planned_of g) (pieces_of (parts_of (planned_of g) g.pieces))) where
  abbrev count : ℕ
  count = part_count g.pieces

  abbrev parts : List (List TablePiece)
  parts = parts_of (planned_of g) g.pieces

  -- the triples of all parts
  triples_joined : PartsJoin → flat_map (part_triples g) (numbers 1 count) ≡ group_triples g
  triples_joined parts_join =
      let joined = parts_join g.plan g.tables parts cut in
      opens_first g count (some_part g.pieces tile some)
      ∙ ap (λ l. opening g.mode g.plan ++ l)
      (parts_by_numbers (planned_of g) g.pieces (flat_map (piece_triples g.mode)) 1 count ∙ joined.triples g.mode)

  -- the faults of all parts, but for those of the keys
  abbrev found : List Fault
  found = (g.plan.warnings ++ flat_map (λ (t : Planned). t.1.header_faults) (planned_of g)) ++ flat_map (flat_map piece_faults) parts

  faults_joined : IsPermutation found (flat_map (faults_in g.tables g.plan g.pieces) (numbers 1 count))
  faults_joined =
      let ks = numbers 1 count in
      let many = length g.plan.tables in
      let ws = warnings_in many g.pieces g.plan.warnings in
      let hs = headers_in g.tables g.plan g.pieces in
      let cells = λ (i : ℕ). flat_map piece_faults (own_tables g.tables g.plan g.pieces i) in
      let each = λ (i : ℕ). ws i ++ hs i in
      let warnings = warnings_joined many g.pieces tile some (subst (λ n. All (λ (p : Piece). p.table ≤ n) g.pieces) same_length few)
      (subst (λ n. 0 < n → last_of n g.pieces ≢ None) same_length top) g.plan.warnings in
      let headers = by_numbers (header_of (planned_of g)) g.pieces 1 count ∙ in_order (header_of (planned_of g)) g.pieces tile
      ∙ headers_joined (planned_of g) g.pieces tile few top in
      let all_cells = parts_by_numbers (planned_of g) g.pieces (flat_map piece_faults) 1 count in
      let split = IsPermutation-trans _ _ _ (apart each cells ks) (both _ _ _ _ (apart ws hs ks) (IsPermutation-refl (flat_map cells ks))) in
      let order = both _ _ _ _ (both _ _ _ _ warnings (same _ _ headers)) (same _ _ all_cells) in
      IsPermutation-sym _ _ (IsPermutation-trans _ _ _ split order)

  -- the records of all parts, by their numbers
  records_by_parts : flat_map (λ i. records_of (rules_of g.plan) (rows_in (pieces_in g i))) (numbers 1 count)
      ≡ flat_map (λ part. records_of (rules_of g.plan) (rows_in part)) parts
  records_by_parts = parts_by_numbers (planned_of g) g.pieces (λ part. records_of (rules_of g.plan) (rows_in part)) 1 count

  records_joined : JoinsRecords → length g.tables ≡ length g.plan.tables
      → IsPermutation (records_of (rules_of g.plan) (rows_of g.tables)) (flat_map (λ part. records_of (rules_of g.plan) (rows_in part)) parts)
  records_joined joins many =
      let rules = rules_of g.plan in
      let all : all_of (map rows_in parts) ≡ rows_of g.tables = fun_ext (rows_joined g.plan g.tables parts many cut) in
      subst (IsPermutation (records_of rules (rows_of g.tables))) (flat_map-map (records_of rules) rows_in parts)
      (subst (λ t. IsPermutation (records_of rules t) (flat_map (records_of rules) (map rows_in parts))) all (joins rules (map rows_in parts)))

  -- the faults of all parts, with those that their records show
  all_violations : KeysJoin → (annotated : AreAnnotated g.plan.tables g.texts g.tables) (told : List Fault) (records joined : List KeyRecord)
      → IsPermutation (flat_map (faults_in g.tables g.plan g.pieces) (numbers 1 count)) told
      → IsPermutation (flat_map (λ part. records_of (rules_of g.plan) (rows_in part)) parts) records → IsPermutation records joined
      → IsPermutation (violations g.plan g.tables) (told ++ record_faults joined)
  all_violations keys_join annotated told records joined faults recorded order =
      keys_join g.plan g.texts g.tables parts joined (told ++ record_faults joined) annotated cut record {
        recorded = IsPermutation-trans _ _ _ recorded order;
        joined = IsPermutation-append_left (record_faults joined) _ _ (IsPermutation-trans _ _ _ faults_joined faults);
      }

module _ {F O R S W : Type 0} (known : F → Option (List ℕ)) (opener : Opens O R) (out : Outs S W) where
  pub runs_join : FindRows → PartsGive opener out → CutsArePieces known → PartsJoin → KeysJoin → JoinsRecords → OpeningIsGraph → RowsAreGraph
      → RunsJoin known opener out
  runs_join find_rows parts_give cuts_are_pieces parts_join keys_join joins openings rows_are g files runs split opens are =
      let plans = g.plan.tables in
      let planned = planned_of g in
      let lawful : AreLawful plans = λ i plan at. (ready_at plans i plan split.ready at).dialect in
      let of = cuts_are_pieces g.plan files g.texts g.tables g.pieces split.of_split split.give lawful split.annotated in
      let tile = split.of_split.tile in
      let good : AreGoodPlaces plans g.texts g.tables g.pieces =
      record { ready = split.ready; annotated = split.annotated; places = of.places; followed = all_followed g.pieces tile } in
      let all = all_given opener out g find_rows parts_give opens good 1 (part_count g.pieces) runs are in
      let n : length planned ≡ length plans = zip_len plans g.tables split.annotated.many in
      let few = All-weaker (IsPieceOfSome known plans files) (λ p. p.table ≤ length planned)
      (low_table known plans files g.pieces split.of_split.whole (length planned) n) g.pieces split.of_split.cuts in
      let top = has_last known plans files g.pieces split.of_split.whole (length planned) n in
      let by_parts = records_by_parts g tile split.some few top n of.cut_into in
      let recorded = subst (λ l. IsPermutation l (flat_map (λ own. own) all.records)) by_parts all.recorded in
      record {
        records = all.records;
        each = all.each;
        triples = triples_joined g tile split.some few top n of.cut_into parts_join;
        graph = λ x. group_graph openings rows_are g.mode x g.plan g.tables;
        recorded = IsPermutation-trans _ _ _ (records_joined g tile split.some few top n of.cut_into joins split.annotated.many) recorded;
        faults = λ joined order. all_violations g tile split.some few top n of.cut_into keys_join split.annotated
            (flat_map (λ r. r.run.outcome.faults) runs) (flat_map (λ own. own) all.records) joined all.faults recorded order;
      }
