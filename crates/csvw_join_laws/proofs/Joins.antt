-- What is additive over the rows of a table is, over the pieces of all parts, that of the tables.
use Rattle.std.proofs.Common.{◌≡◌, ◌∙◌, List, [], ◌∷◌, ◌++◌, Some, refl, sym, ap, ap₂, subst, append_assoc, flat_map}
use Rattle.std.specs.List.{All, zip}
use Rattle.std.specs.List.Sorted.{IsPermutation}
use Rattle.std.proofs.lemmas.Grind.{flat_map-append}
use Rattle.std.proofs.lemmas.List.Elements.{All-head, All-tail}
use Rattle.std.proofs.lemmas.List.Sorted.{IsPermutation-append_comm, IsPermutation-append_left, IsPermutation-append_right, IsPermutation-refl, IsPermutation-trans}
use Rattle.csvw_annotate.specs.declared.row.Row.{Row}
use Rattle.csvw_columns.specs.declared.plan.TablePlan.{TablePlan}
use Rattle.csvw_columns_core.specs.declared.columns.Columns.{Columns}
use Rattle.csvw_engine_core.specs.Faults.{table_faults}
use Rattle.csvw_engine_core.specs.Tables.{table_triples}
use Rattle.csvw_engine_core.proofs.Going.{faults_more, triples_more}
use Rattle.csvw_group_laws.specs.Violations.{rows_of}
use Rattle.csvw_keys.specs.KeyRules.{key_faults, rules_of}
use Rattle.csvw_join_laws.specs.Joining.{AreCutInto, PartsJoin, Planned, TablePiece, piece_faults, piece_triples, pieces_of, whole}

-- by parts or by pieces
pub by_parts : {X Y : Type 0} (f : X → List Y) (parts : List (List X)) → flat_map (flat_map f) parts ≡ flat_map f (flat_map (λ part. part) parts)
by_parts f [] = refl
by_parts f (part ∷ parts) = ap (λ l. flat_map f part ++ l) (by_parts f parts) ∙ sym (flat_map-append f part (flat_map (λ p. p) parts))

module _ {Y : Type 0} (f : TablePlan → Columns → List Row → List Y) (none : (p : TablePlan) (c : Columns) → f p c [] ≡ [])
    (more : (p : TablePlan) (c : Columns) (rows others : List Row) → f p c (rows ++ others) ≡ f p c rows ++ f p c others) where
  abbrev of_piece : TablePiece → List Y
  of_piece p = f p.plan p.columns p.rows

  of_table : (t : Planned) (own : List TablePiece) → All (λ p. p.plan ≡ t.0) own → All (λ p. p.columns ≡ t.1.columns) own
      → flat_map of_piece own ≡ f t.0 t.1.columns (flat_map (λ p. p.rows) own)
  of_table t [] plans columns = sym (none t.0 t.1.columns)
  of_table t (p ∷ ps) plans columns =
      let has_plan = λ (q : TablePiece). q.plan ≡ t.0 in
      let has_columns = λ (q : TablePiece). q.columns ≡ t.1.columns in
      ap₂ (λ a b. a ++ b) (ap₂ (λ q c. f q c p.rows) (All-head has_plan p ps plans) (All-head has_columns p ps columns))
      (of_table t ps (All-tail has_plan p ps plans) (All-tail has_columns p ps columns))
      ∙ sym (more t.0 t.1.columns p.rows (flat_map (λ q. q.rows) ps))

  pub of_tables : (tables : List Planned) (pieces : List TablePiece) → AreCutInto tables pieces
      → flat_map of_piece pieces ≡ flat_map (λ t. of_piece (whole t)) tables
  of_tables [] pieces cut = ap (flat_map of_piece) cut
  of_tables (t ∷ tables) pieces cut =
      ap (flat_map of_piece) cut.parts ∙ flat_map-append of_piece cut.own cut.others
      ∙ ap₂ (λ a b. a ++ b) (of_table t cut.own cut.of_table.plans cut.of_table.columns ∙ ap (f t.0 t.1.columns) cut.of_table.rows)
      (of_tables tables cut.others cut.rest)

pub same : {X : Type 0} (xs ys : List X) → xs ≡ ys → IsPermutation xs ys
same xs ys e = subst (IsPermutation xs) e (IsPermutation-refl xs)

pub both : {X : Type 0} (ps qs rs ss : List X) → IsPermutation ps qs → IsPermutation rs ss → IsPermutation (ps ++ rs) (qs ++ ss)
both ps qs rs ss a b = IsPermutation-trans _ _ _ (IsPermutation-append_left rs ps qs a) (IsPermutation-append_right qs rs ss b)

-- the second and the third of four lists change places
middle : {X : Type 0} (ps qs rs ss : List X) → IsPermutation ((ps ++ qs) ++ (rs ++ ss)) ((ps ++ rs) ++ (qs ++ ss))
middle ps qs rs ss =
    let swapped = IsPermutation-append_left ss (qs ++ rs) (rs ++ qs) (IsPermutation-append_comm qs rs) in
    let there = append_assoc ps qs (rs ++ ss) ∙ ap (λ l. ps ++ l) (sym (append_assoc qs rs ss)) in
    let back = ap (λ l. ps ++ l) (append_assoc rs qs ss) ∙ sym (append_assoc ps rs (qs ++ ss)) in
    subst (λ l. IsPermutation l ((ps ++ rs) ++ (qs ++ ss))) (sym there)
    (subst (IsPermutation (ps ++ ((qs ++ rs) ++ ss))) back (IsPermutation-append_right ps _ _ swapped))

-- what each item has first, and what each item has then
pub apart : {X Y : Type 0} (f g : X → List Y) (xs : List X) → IsPermutation (flat_map (λ x. f x ++ g x) xs) (flat_map f xs ++ flat_map g xs)
apart f g [] = IsPermutation-refl []
apart f g (x ∷ xs) =
    IsPermutation-trans _ _ _ (both _ _ _ _ (IsPermutation-refl (f x ++ g x)) (apart f g xs)) (middle (f x) (g x) (flat_map f xs) (flat_map g xs))

pub parts_join : PartsJoin
parts_join plan tables parts cut =
    let planned = zip plan.tables tables in
    let cells = of_tables (λ p c rows. table_faults p.number (Some c) rows) (λ p c. refl) (λ p c rows others. faults_more p.number (Some c) rows others)
    planned (pieces_of parts) cut in
    let headers = flat_map (λ (t : Planned). t.1.header_faults) planned in
    let keys = key_faults (rules_of plan) (rows_of tables) in
    record {
      triples = λ m. by_parts (piece_triples m) parts
          ∙ of_tables (λ p c rows. table_triples m p.number (Some c) rows) (λ p c. refl) (λ p c rows others. triples_more m p.number (Some c) rows others)
          planned (pieces_of parts) cut;
      faults = both _ _ _ _
          (IsPermutation-trans _ _ _
          (IsPermutation-append_right plan.warnings _ _ (apart (λ (t : Planned). t.1.header_faults) (λ (t : Planned). piece_faults (whole t)) planned))
          (same _ _ (sym (append_assoc plan.warnings headers (flat_map (λ (t : Planned). piece_faults (whole t)) planned))
          ∙ ap (λ l. (plan.warnings ++ headers) ++ l) (sym cells ∙ sym (by_parts piece_faults parts)))))
          (IsPermutation-refl keys);
    }
