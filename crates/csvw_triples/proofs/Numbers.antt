-- Objects of annotations are numbered in the order of the triples that lead to them.
use Rattle.std.proofs.Common.{◌≡◌, ℕ, ◌+◌, zero, suc, Bool, true, false, cond, List, [], ◌∷◌, ◌++◌, map, length, Option, Some, None, refl, sym, ap}
use Rattle.std.proofs.Common.{◌∙◌, append_assoc, arith}
use Rattle.std.proofs.lemmas.List.Concat.{flat_map-append}
use Rattle.csvw_columns.specs.declared.plan.Plan.{Plan}
use Rattle.csvw_columns.specs.declared.plan.TablePlan.{TablePlan}
use Rattle.csvw_triples_core.specs.declared.mode.Mode.{Mode}
use Rattle.csvw_triples_core.specs.declared.mode.Mode.TheVariants as mode
use Rattle.csvw_triples_core.specs.declared.term.Node.{Node}
use Rattle.csvw_triples_core.specs.declared.term.Triple.{Triple}
use Rattle.csvw_triples_rows.specs.StandardTriples.{table_node, object_of}
use Rattle.csvw_triples.specs.Annotations.{Said, literal, object, Annotations, nothing, says, annotations}
use Rattle.csvw_triples.specs.Blanks.{blanks_of, blanks, object_node}
use Rattle.csvw_triples.specs.NotesTriples.{term_of, kind_triple, object_triples, notes_triples}
use Rattle.csvw_triples.specs.Numbering.{number_in, note_numbers, counted}
use Rattle.csvw_triples.specs.OpeningTriples.{group_node, node_of, about_group, about_table, notes_of, table_triples, table_blanks, tables_blanks}
use Rattle.csvw_triples.specs.OpeningTriples.{tables_triples, group_blanks, opening}

-- counting

counted_append : (n a b : ℕ) → counted n (a + b) ≡ counted n a ++ counted (n + a) b
counted_append n zero b =
    let same : 0 + b ≡ b = omega arith in
    let start : n ≡ n + 0 = omega arith in
    ap (counted n) same ∙ ap (λ k. counted k b) start
counted_append n (suc a) b =
    let one : suc a + b ≡ suc (a + b) = omega arith in
    let next : (n + 1) + a ≡ n + suc a = omega arith in
    ap (counted n) one ∙ ap (λ ks. (n + 1) ∷ ks) (counted_append (n + 1) a b ∙ ap (λ k. counted (n + 1) a ++ counted k b) next)

length_counted : (n count : ℕ) → length (counted n count) ≡ count
length_counted n zero = refl
length_counted n (suc count) = ap suc (length_counted (n + 1) count)

numbers_append : (xs ys : List Triple) → note_numbers (xs ++ ys) ≡ note_numbers xs ++ note_numbers ys
numbers_append xs ys = flat_map-append (λ (x : Triple). number_in x.o) xs ys

-- annotations

no_kinds : (s : Node) (kinds : List (List ℕ)) → note_numbers (map (kind_triple s) kinds) ≡ []
no_kinds s [] = refl
no_kinds s (kind ∷ kinds) = no_kinds s kinds

after_kinds : (s : Node) (kinds : List (List ℕ)) (xs : List Triple) → note_numbers (map (kind_triple s) kinds ++ xs) ≡ note_numbers xs
after_kinds s kinds xs = numbers_append (map (kind_triple s) kinds) xs ∙ ap (λ ks. ks ++ note_numbers xs) (no_kinds s kinds)

mutual
  object_numbers : (n : ℕ) (said : Said) → number_in (term_of n said) ++ note_numbers (object_triples n said) ≡ counted n (blanks_of said)
  object_numbers n (literal lit) = refl
  object_numbers n (object None types inner) =
      let one : suc (blanks inner) ≡ 1 + blanks inner = omega arith in
      ap (λ ks. (n + 1) ∷ ks) (after_kinds (object_node n None) types _ ∙ notes_numbers (object_node n None) (n + 1) inner) ∙ ap (counted n) one
  object_numbers n (object (Some id) types inner) =
      let none : blanks inner ≡ 0 + blanks inner = omega arith in
      let same : n + 0 ≡ n = omega arith in
      after_kinds (object_node n (Some id)) types _ ∙ notes_numbers (object_node n (Some id)) (n + 0) inner
      ∙ ap (λ k. counted k (blanks inner)) same ∙ ap (counted n) none

  notes_numbers : (s : Node) (n : ℕ) (notes : Annotations) → note_numbers (notes_triples s n notes) ≡ counted n (blanks notes)
  notes_numbers s n nothing = refl
  notes_numbers s n (says key said rest) =
      let others = notes_triples s (n + blanks_of said) rest in
      ap (λ ks. number_in (term_of n said) ++ ks) (numbers_append (object_triples n said) others)
      ∙ sym (append_assoc (number_in (term_of n said)) (note_numbers (object_triples n said)) (note_numbers others))
      ∙ ap (λ ks. ks ++ note_numbers others) (object_numbers n said)
      ∙ ap (λ ks. counted n (blanks_of said) ++ ks) (notes_numbers s (n + blanks_of said) rest)
      ∙ sym (counted_append n (blanks_of said) (blanks rest))

-- tables

no_table : (t : ℕ) (id : Option (List ℕ)) → number_in (object_of (table_node t id)) ≡ []
no_table t None = refl
no_table t (Some id) = refl

module _ (group : Node) where
  about_numbers : (n : ℕ) (table : TablePlan) → note_numbers (about_table group table ++ notes_of n table) ≡ counted n (blanks (annotations table.notes))
  about_numbers n table =
      ap (λ ks. ks ++ note_numbers (notes_of n table)) (no_table table.number table.id) ∙ notes_numbers (node_of table) n (annotations table.notes)

  unless : (b : Bool) (n count : ℕ) (xs : List Triple) → note_numbers xs ≡ counted n count → note_numbers (cond b [] xs) ≡ counted n (cond b 0 count)
  unless true n count xs e = refl
  unless false n count xs e = e

  tables_numbers : (n : ℕ) (tables : List TablePlan) → note_numbers (tables_triples group n tables) ≡ counted n (tables_blanks tables)
  tables_numbers n [] = refl
  tables_numbers n (table ∷ tables) =
      let others = tables_triples group (n + table_blanks table) tables in
      let first = unless table.suppressed n (blanks (annotations table.notes)) (about_table group table ++ notes_of n table) (about_numbers n table) in
      numbers_append (table_triples group n table) others
      ∙ ap (λ ks. ks ++ note_numbers others) first
      ∙ ap (λ ks. counted n (table_blanks table) ++ ks) (tables_numbers (n + table_blanks table) tables)
      ∙ sym (counted_append n (table_blanks table) (tables_blanks tables))

-- the law

in_order : (count : ℕ) (ks : List ℕ) → ks ≡ counted 0 count → ks ≡ counted 0 (length ks)
in_order count ks e = e ∙ ap (counted 0) (sym (ap length e ∙ length_counted 0 count))

standard_numbers : (plan : Plan) → note_numbers (opening mode.Standard plan) ≡ counted 0 (group_blanks plan + tables_blanks plan.tables)
standard_numbers plan =
    let group = group_node plan.id in
    let tables = tables_triples group (group_blanks plan) plan.tables in
    let same : 0 + group_blanks plan ≡ group_blanks plan = omega arith in
    numbers_append (about_group group 0 plan) tables
    ∙ ap (λ ks. ks ++ note_numbers tables) (notes_numbers group 0 (annotations plan.notes))
    ∙ ap (λ ks. counted 0 (group_blanks plan) ++ ks) (tables_numbers group (group_blanks plan) plan.tables)
    ∙ ap (λ k. counted 0 (group_blanks plan) ++ counted k (tables_blanks plan.tables)) (sym same)
    ∙ sym (counted_append 0 (group_blanks plan) (tables_blanks plan.tables))

pub are_in_order : (m : Mode) (plan : Plan) → note_numbers (opening m plan) ≡ counted 0 (length (note_numbers (opening m plan)))
are_in_order mode.Validate plan = refl
are_in_order mode.Minimal plan = refl
are_in_order mode.Standard plan = in_order _ _ (standard_numbers plan)
