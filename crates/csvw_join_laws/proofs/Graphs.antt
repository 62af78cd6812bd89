-- The triples of a group, as a set, are its graph.
use Rattle.std.proofs.Common.{◌≡◌, ◌↔◌, ℕ, zero, suc, List, [], ◌∷◌, ◌++◌, Contains, Some, inl, inr, flat_map, refl, sym, subst, arith}
use Rattle.std.specs.Prelude.{slice_get}
use Rattle.std.specs.List.{zip}
use Rattle.std.proofs.lemmas.List.Elements.{Contains-append_cases, Contains-append_left, Contains-append_right}
use Rattle.csvw_annotate.specs.declared.row.Row.{Row}
use Rattle.csvw_columns.specs.declared.plan.Plan.{Plan}
use Rattle.csvw_columns.specs.declared.plan.TablePlan.{TablePlan}
use Rattle.csvw_columns_core.specs.declared.columns.Columns.{Columns}
use Rattle.csvw_group_laws.specs.Annotated.{Table}
use Rattle.csvw_group_laws.specs.Graph.{GraphOf, RowsOf}
use Rattle.csvw_triples.specs.Opening.{Opening}
use Rattle.csvw_triples.specs.OpeningTriples.{opening}
use Rattle.csvw_triples_core.specs.declared.mode.Mode.{Mode}
use Rattle.csvw_triples_core.specs.declared.term.Triple.{Triple}
use Rattle.csvw_triples_rows.specs.ModeGraph.{TableGraph}
use Rattle.csvw_triples_rows.specs.ModeTriples.{row_triples}
use Rattle.csvw_join_laws.specs.Joining.{piece_triples, whole}

abbrev pub OpeningIsGraph : Type 0
OpeningIsGraph = (m : Mode) (plan : Plan) (x : Triple) → Contains (opening m plan) x ↔ Opening m plan x

abbrev pub RowsAreGraph : Type 0
RowsAreGraph = (m : Mode) (t : ℕ) (columns : Columns) (rows : List Row) (x : Triple)
    → Contains (flat_map (row_triples m t columns) rows) x ↔ TableGraph m t (Some columns) rows x

module _ (openings : OpeningIsGraph) (rows_are : RowsAreGraph) (m : Mode) (x : Triple) where
  abbrev of_tables : List TablePlan → List Table → List Triple
  of_tables plans tables = flat_map (λ t. piece_triples m (whole t)) (zip plans tables)

  next_rows : (p : TablePlan) (ps : List TablePlan) (t : Table) (ts : List Table) → RowsOf m ps ts x → RowsOf m (p ∷ ps) (t ∷ ts) x
  next_rows p ps t ts (i, plan, table, at, also, graph) = (suc i, plan, table, at, also, graph)

  none_in : Contains (let none : List Triple = [] in none) x → ⊥
  none_in (k, less, is) = omega (arith, less)

  rows_within : (plans : List TablePlan) (tables : List Table) → Contains (of_tables plans tables) x → RowsOf m plans tables x
  rows_within [] tables has = absurd (none_in has)
  rows_within (p ∷ ps) [] has = absurd (none_in has)
  rows_within (p ∷ ps) (t ∷ ts) has =
      elim (Contains-append_cases (piece_triples m (whole (p, t))) (of_tables ps ts) x has) [
        | inl here ↦ (zero, p, t, refl, refl, (rows_are m p.number t.columns t.rows x).0 here)
        | inr there ↦ next_rows p ps t ts (rows_within ps ts there)
      ]

  rows_whole : (plans : List TablePlan) (tables : List Table) (i : ℕ) (plan : TablePlan) (table : Table) → slice_get plans i ≡ Some plan
      → slice_get tables i ≡ Some table → TableGraph m plan.number (Some table.columns) table.rows x → Contains (of_tables plans tables) x
  rows_whole [] tables i plan table at also graph = cc
  rows_whole (p ∷ ps) [] i plan table at also graph = cc
  rows_whole (p ∷ ps) (t ∷ ts) zero plan table at also graph =
      let one : p ≡ plan = cc in
      let other : t ≡ table = cc in
      let here = (rows_are m plan.number table.columns table.rows x).1 graph in
      Contains-append_left (piece_triples m (whole (p, t))) (of_tables ps ts) x
      (subst (λ q. Contains (piece_triples m (whole (q, t))) x) (sym one) (subst (λ u. Contains (piece_triples m (whole (plan, u))) x) (sym other) here))
  rows_whole (p ∷ ps) (t ∷ ts) (suc i) plan table at also graph =
      Contains-append_right (piece_triples m (whole (p, t))) (of_tables ps ts) x (rows_whole ps ts i plan table at also graph)

  pub group_graph : (plan : Plan) (tables : List Table) → Contains (opening m plan ++ of_tables plan.tables tables) x ↔ GraphOf m plan tables x
  group_graph plan tables = (within, all)
    where
      within : Contains (opening m plan ++ of_tables plan.tables tables) x → GraphOf m plan tables x
      within has = elim (Contains-append_cases (opening m plan) (of_tables plan.tables tables) x has) [
        | inl here ↦ inl ((openings m plan x).0 here)
        | inr there ↦ inr (rows_within plan.tables tables there)
      ]

      all : GraphOf m plan tables x → Contains (opening m plan ++ of_tables plan.tables tables) x
      all (inl here) = Contains-append_left (opening m plan) (of_tables plan.tables tables) x ((openings m plan x).1 here)
      all (inr (i, p, t, at, also, graph)) =
          Contains-append_right (opening m plan) (of_tables plan.tables tables) x (rows_whole plan.tables tables i p t at also graph)
