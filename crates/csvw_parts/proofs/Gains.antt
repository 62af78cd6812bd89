-- What the pieces of a part give, from what each of them gives.
use Rattle.std.proofs.Common.{◌≡◌, ◌∙◌, List, [], ◌∷◌, ◌++◌, append-nil, append_assoc, flat_map, refl, sym, ap, subst, Option}
use Rattle.std.specs.List.Sorted.{IsPermutation}
use Rattle.std.proofs.lemmas.List.Sorted.{IsPermutation-append_comm, IsPermutation-append_left, IsPermutation-append_right, IsPermutation-refl, IsPermutation-trans}
use Rattle.csvw_fault.specs.declared.fault.Fault.{Fault}
use Rattle.csvw_keys.specs.KeyRules.{rules_of}
use Rattle.csvw_part_plan.specs.declared.piece.Piece.{Piece}
use Rattle.csvw_streams.specs.declared.counted.Counted.{Counted}
use Rattle.csvw_row_keys.specs.RecordLaws.{JoinsRecords}
use Rattle.csvw_triples_core.specs.Taking.{IsAsReady}
use Rattle.csvw_triples_core.specs.declared.term.Triple.{Triple}
use Rattle.csvw_parts.specs.Fronts.{Opens}
use Rattle.csvw_parts.specs.Outlets.{Outs, only}
use Rattle.csvw_parts.specs.PartGains.{GivesPieces, HaveBefore, Taken, header_faults, rows_of, taken_faults, taken_triples}
use Rattle.csvw_parts.specs.PartRuns.{GivesPart, ReadsOwn, opening_of, own_pieces, warnings_of}
use Rattle.csvw_parts.specs.PartSteps.{AddsPieces, Reached, begun_faults, reached}
use Rattle.csvw_parts.specs.Recording.{BothSome, IsFlushed, Recorded}
use Rattle.csvw_parts.specs.declared.run.PartRequest.{PartRequest}
use Rattle.csvw_parts.specs.declared.state.PartRun.{PartRun}
use Rattle.csvw_parts.proofs.Recording.{recorded_all, recorded_join, recorded_nothing}

equal : {X : Type 0} (xs ys : List X) → xs ≡ ys → IsPermutation xs ys
equal xs ys e = subst (IsPermutation xs) e (IsPermutation-refl xs)

-- the faults of a header and those of the cells before it change places
shuffled : (old header later cells more : List Fault)
    → IsPermutation ((old ++ (header ++ later)) ++ (cells ++ more)) ((((old ++ header) ++ cells) ++ later) ++ more)
shuffled old header later cells more =
    let front = old ++ header in
    let swapped = IsPermutation-append_left more (later ++ cells) (cells ++ later) (IsPermutation-append_comm later cells) in
    let there : (old ++ (header ++ later)) ++ (cells ++ more) ≡ front ++ ((later ++ cells) ++ more) =
    ap (λ l. l ++ (cells ++ more)) (sym (append_assoc old header later))
    ∙ append_assoc front later (cells ++ more)
    ∙ ap (λ l. front ++ l) (sym (append_assoc later cells more)) in
    let back : front ++ ((cells ++ later) ++ more) ≡ ((front ++ cells) ++ later) ++ more =
    sym (append_assoc front (cells ++ later) more) ∙ ap (λ l. l ++ more) (sym (append_assoc front cells later)) in
    subst (λ l. IsPermutation l (((front ++ cells) ++ later) ++ more)) (sym there)
    (subst (IsPermutation (front ++ ((later ++ cells) ++ more))) back (IsPermutation-append_right front _ _ swapped))

module _ {O R S W : Type 0} (opener : Opens O R) (out : Outs S W) (request : PartRequest) (law : JoinsRecords) (stays : (s : S) → out.gains s [] s)
    (goes_on : (a b c : S) (xs ys : List Triple) → out.gains a xs b → out.gains b ys c → out.gains a (xs ++ ys) c) where
  none_given : (before after : Reached O S W) (c : after ≡ before) → GivesPieces opener out request [] before after c tt
  none_given before after c = record {
    taken = [];
    are = refl;
    took = subst (λ (x : Reached O S W). out.gains before.has.sink [] x.has.sink) (sym c) (stays before.has.sink);
    ready = subst (λ (x : Reached O S W). IsAsReady out.is_open out.failed before.has.sink x.has.sink) (sym c) (refl, refl);
    faults = subst (λ (x : Reached O S W). IsPermutation ((before.faults ++ []) ++ []) x.faults) (sym c)
        (equal ((before.faults ++ []) ++ []) before.faults (append-nil (before.faults ++ []) ∙ append-nil before.faults));
    recorded = subst
        (λ (x : Reached O S W). Recorded out.contents (rules_of request.plan.now) (rows_of []) before.has.book x.has.book before.has.records x.has.records)
        (sym c) (recorded_nothing out.contents (rules_of request.plan.now) law before.has.book before.has.records);
  }

  pub gives_pieces : (pieces : List Piece) (before after : Reached O S W) (c : AddsPieces opener out request pieces before after)
      (b : HaveBefore opener out request pieces before after c) → GivesPieces opener out request pieces before after c b
  gives_pieces [] before after c b = none_given before after c
  gives_pieces (piece ∷ pieces) before after c b =
      let a = c.first in
      let between = c.between in
      let g = a.reads.gives b.0.bytes b.0.rows b.0.comes in
      let r = gives_pieces pieces between after c.rest b.1 in
      let t : Taken = record { table = a.plan.number; columns = a.found.columns; rows = g.rows } in
      let h = begun_faults piece.first_byte a.found.header in
      let later = header_faults opener out request pieces between after c.rest in
      let more = flat_map taken_faults r.taken in
      let told : between.faults ≡ (before.faults ++ h) ++ taken_faults t = a.faults ∙ ap (λ l. (before.faults ++ h) ++ l) g.cells in
      record {
        taken = t ∷ r.taken;
        are = (record { table_is = refl; columns_are = refl; are = g.are }, r.are);
        took = goes_on before.has.sink between.has.sink after.has.sink (taken_triples request.mode t) (flat_map (taken_triples request.mode) r.taken)
            g.takes.took r.took;
        ready = (r.ready.0 ∙ g.takes.ready.0, r.ready.1 ∙ g.takes.ready.1);
        faults = IsPermutation-trans _ _ _ (shuffled before.faults h later (taken_faults t) more)
            (subst (λ l. IsPermutation ((l ++ later) ++ more) after.faults) told r.faults);
        recorded = recorded_join out.contents (rules_of request.plan.now) law (only t.table t.rows) (rows_of r.taken) before.has.book between.has.book
            after.has.book before.has.records between.has.records after.has.records g.takes.recorded r.recorded;
      }

  pub gives_part : (old new : O) (sink gained : S) (records : Option (Counted W)) (run : PartRun W)
      (own : ReadsOwn opener out request old new sink gained records)
      → BothSome (IsFlushed out.contents) own.last.has.records run.records → IsPermutation own.last.faults run.outcome.faults
      → (b : HaveBefore opener out request (own_pieces request) (reached old own.opened own.book records (warnings_of request)) own.last own.pieces)
      → GivesPart opener out request old new sink gained records run own b
  gives_part old new sink gained records run own flushed sorted b =
      let first = reached old own.opened own.book records (warnings_of request) in
      let g = gives_pieces (own_pieces request) first own.last own.pieces b in
      let triples = flat_map (taken_triples request.mode) g.taken in
      record {
        taken = g.taken;
        are = g.are;
        took = subst (out.gains sink (opening_of request ++ triples)) own.sink_is
            (goes_on sink own.opened own.last.has.sink (opening_of request) triples own.opens g.took);
        ready = subst (IsAsReady out.is_open out.failed sink) own.sink_is (g.ready.0 ∙ own.ready.0, g.ready.1 ∙ own.ready.1);
        faults = IsPermutation-trans _ _ _ g.faults sorted;
        recorded = recorded_all out.contents (rules_of request.plan.now) law (rows_of g.taken) own.book own.last.has.book records own.last.has.records
            run.records own.starts g.recorded flushed;
      }
