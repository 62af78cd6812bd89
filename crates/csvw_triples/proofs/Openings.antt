-- The triples of the opening are the graph of a group and its tables.
use Rattle.std.proofs.Common.{◌≡◌, ℕ, ◌+◌, Bool, true, false, cond, List, [], ◌∷◌, ◌++◌, refl, sym, ap, subst, inl, inr, ◌↔◌, Contains, arith}
use Rattle.std.proofs.lemmas.List.Elements.{Contains-append_left, Contains-append_right, Contains-append_cases}
use Rattle.csvw_columns.specs.declared.plan.Plan.{Plan}
use Rattle.csvw_columns.specs.declared.plan.TablePlan.{TablePlan}
use Rattle.csvw_triples_core.specs.declared.mode.Mode.{Mode}
use Rattle.csvw_triples_core.specs.declared.mode.Mode.TheVariants as mode
use Rattle.csvw_triples_core.specs.declared.term.Node.{Node}
use Rattle.csvw_triples_core.specs.declared.term.Triple.{Triple}
use Rattle.csvw_triples.specs.Annotations.{annotations}
use Rattle.csvw_triples.specs.NotesTriples.{notes_triples}
use Rattle.csvw_triples.specs.Opening.{IsOfTable, IsOfTables, IsOfGroup, StandardOpening, Opening}
use Rattle.csvw_triples.specs.OpeningTriples.{group_node, node_of, group_triple, member_triple, class_triple, url_triple, about_group, about_table, notes_of}
use Rattle.csvw_triples.specs.OpeningTriples.{table_triples, table_blanks, tables_blanks, tables_triples, group_blanks, standard_opening, opening}
use Rattle.csvw_triples.proofs.InLists.{none_in, first_in, later_in, in_cons}
use Rattle.csvw_triples.proofs.Noting.{from_notes, to_notes}

module _ (group : Node) (x : Triple) where
  -- one table

  from_table : (n : ℕ) (table : TablePlan) → Contains (about_table group table ++ notes_of n table) x → IsOfTable group n table x
  from_table n table h =
      let notes = notes_of n table in
      elim (in_cons (member_triple group table) (class_triple table ∷ url_triple table ∷ notes) x h) [
        | inl e ↦ inl e
        | inr k ↦ elim (in_cons (class_triple table) (url_triple table ∷ notes) x k) [
          | inl e ↦ inr (inl e)
          | inr l ↦ elim (in_cons (url_triple table) notes x l) [
            | inl e ↦ inr (inr (inl e))
            | inr m ↦ inr (inr (inr (from_notes x (node_of table) n (annotations table.notes) m)))
          ]
        ]
      ]

  to_table : (n : ℕ) (table : TablePlan) → IsOfTable group n table x → Contains (about_table group table ++ notes_of n table) x
  to_table n table h =
      let notes = notes_of n table in
      elim h [
        | inl e ↦ first_in (member_triple group table) (class_triple table ∷ url_triple table ∷ notes) x e
        | inr k ↦ later_in (member_triple group table) (class_triple table ∷ url_triple table ∷ notes) x (elim k [
          | inl e ↦ first_in (class_triple table) (url_triple table ∷ notes) x e
          | inr l ↦ later_in (class_triple table) (url_triple table ∷ notes) x (elim l [
            | inl e ↦ first_in (url_triple table) notes x e
            | inr m ↦ later_in (url_triple table) notes x (to_notes x m)
          ])
        ])
      ]

  unless : (b : Bool) (xs : List Triple) → Contains (cond b [] xs) x → (b ≡ false) × Contains xs x
  unless true xs h = absurd (none_in x h)
  unless false xs h = (refl, h)

  given : (b : Bool) (xs : List Triple) → b ≡ false → Contains xs x → Contains (cond b [] xs) x
  given b xs e h = subst (λ t. Contains (cond t [] xs) x) (sym e) h

  -- all tables

  after_one : (n : ℕ) (first : TablePlan) (tables : List TablePlan) → IsOfTables group (n + table_blanks first) tables x → IsOfTables group n (first ∷ tables) x
  after_one n first tables h =
      let goes_on : (n + table_blanks first) + tables_blanks h.0 ≡ n + (table_blanks first + tables_blanks h.0) = omega arith in
      (first ∷ h.0, h.1, h.2, ap (λ ts. first ∷ ts) h.3, h.4, subst (λ k. IsOfTable group k h.1 x) goes_on h.5)

  at_first : (n : ℕ) (first : TablePlan) (tables : List TablePlan) → first.suppressed ≡ false → IsOfTable group n first x
      → IsOfTables group n (first ∷ tables) x
  at_first n first tables e h =
      let none : n ≡ n + 0 = omega arith in
      ([], first, tables, refl, e, subst (λ k. IsOfTable group k first x) none h)

  from_tables : (n : ℕ) (tables : List TablePlan) → Contains (tables_triples group n tables) x → IsOfTables group n tables x
  from_tables n [] h = absurd (none_in x h)
  from_tables n (first ∷ tables) h =
      elim (Contains-append_cases (table_triples group n first) (tables_triples group (n + table_blanks first) tables) x h) [
        | inl k ↦ let l = unless first.suppressed (about_table group first ++ notes_of n first) k in at_first n first tables l.0 (from_table n first l.1)
        | inr k ↦ after_one n first tables (from_tables (n + table_blanks first) tables k)
      ]

  at_place : (n m : ℕ) (before : List TablePlan) (table : TablePlan) (after : List TablePlan) → m ≡ n + tables_blanks before
      → Contains (table_triples group m table) x → Contains (tables_triples group n (before ++ table ∷ after)) x
  at_place n m [] table after e h =
      let same : m ≡ n = omega (arith, e) in
      let here = subst (λ k. Contains (table_triples group k table) x) same h in
      Contains-append_left (table_triples group n table) (tables_triples group (n + table_blanks table) after) x here
  at_place n m (first ∷ before) table after e h =
      Contains-append_right (table_triples group n first) (tables_triples group (n + table_blanks first) (before ++ table ∷ after)) x
      (at_place (n + table_blanks first) m before table after (omega (arith, e)) h)

  to_tables : (n : ℕ) (tables : List TablePlan) → IsOfTables group n tables x → Contains (tables_triples group n tables) x
  to_tables n tables h =
      let m = n + tables_blanks h.0 in
      let here = given h.1.suppressed (about_table group h.1 ++ notes_of m h.1) h.4 (to_table m h.1 h.5) in
      subst (λ ts. Contains (tables_triples group n ts) x) (sym h.3) (at_place n m h.0 h.1 h.2 refl here)

  -- the group

  from_group : (plan : Plan) → Contains (group_triple group ∷ notes_triples group 0 (annotations plan.notes)) x → IsOfGroup group plan x
  from_group plan h =
      elim (in_cons (group_triple group) (notes_triples group 0 (annotations plan.notes)) x h) [
        | inl e ↦ inl e
        | inr k ↦ inr (from_notes x group 0 (annotations plan.notes) k)
      ]

  to_group : (plan : Plan) → IsOfGroup group plan x → Contains (group_triple group ∷ notes_triples group 0 (annotations plan.notes)) x
  to_group plan h =
      let notes = notes_triples group 0 (annotations plan.notes) in
      elim h [ inl e ↦ first_in (group_triple group) notes x e | inr k ↦ later_in (group_triple group) notes x (to_notes x k) ]

is_standard : (plan : Plan) (x : Triple) → Contains (standard_opening plan) x ↔ StandardOpening plan x
is_standard plan x =
    let group = group_node plan.id in
    let front = about_group group 0 plan in
    let tables = tables_triples group (group_blanks plan) plan.tables in (
      λ h. elim (Contains-append_cases front tables x h) [
        | inl k ↦ inl (from_group group x plan k)
        | inr k ↦ inr (from_tables group x (group_blanks plan) plan.tables k)
      ],
      λ h. elim h [
        | inl k ↦ Contains-append_left front tables x (to_group group x plan k)
        | inr k ↦ Contains-append_right front tables x (to_tables group x (group_blanks plan) plan.tables k)
      ],
    )

-- the law
pub is_opening : (m : Mode) (plan : Plan) (x : Triple) → Contains (opening m plan) x ↔ Opening m plan x
is_opening mode.Validate plan x = (λ h. absurd (none_in x h), λ h. absurd h)
is_opening mode.Minimal plan x = (λ h. absurd (none_in x h), λ h. absurd h)
is_opening mode.Standard plan x = is_standard plan x
