-- The annotated tables of a list of ended tables, one for each.
use Rattle.std.proofs.Common.{◌≡◌, ℕ, zero, suc, Bool, true, List, [], ◌∷◌, ◌++◌, refl, ap, ◌∙◌, subst, arith, length, Some, None}
use Rattle.std.specs.Prelude.{slice_get}
use Rattle.std.specs.List.{list_all}
use Rattle.std.proofs.lemmas.Bool.{and_parts}
use Rattle.csvw_columns.specs.declared.plan.TablePlan.{TablePlan}
use Rattle.csvw_annotate.specs.declared.row.Row.{Row}
use Rattle.csvw_engine_core.specs.Tables.{header_faults_of, faults_of}
use Rattle.csvw_engine_core.specs.declared.table.Table.{Table as State}
use Rattle.csvw_session.specs.Faults.{all_faults}
use Rattle.csvw_group_laws.specs.Annotated.{Table}
use Rattle.csvw_group_laws.specs.Violations.{table_violations, tables_violations}
use Rattle.csvw_group_laws.proofs.Ending.{EndsAs}

same_item : {X : Type 0} (x y : X) → Some x ≡ Some y → x ≡ y
same_item x y e = cc

no_item : {X : Type 0} (x : X) → None ≡ Some x → ⊥
no_item x e = cc

-- a test that all items pass
pub passes_at : {X : Type 0} (test : X → Bool) (xs : List X) (i : ℕ) (x : X) → list_all test xs ≡ true → slice_get xs i ≡ Some x → test x ≡ true
passes_at test [] i x all e = absurd (no_item x e)
passes_at test (y ∷ ys) zero x all e = subst (λ z. test z ≡ true) (same_item y x e) (and_parts _ _ all).0
passes_at test (y ∷ ys) (suc i) x all e = passes_at test ys i x (and_parts _ _ all).1 e

-- the tables of these plans and states, whose texts and rows are those of their places from 0
abbrev pub AreEnded : List TablePlan → List State → (ℕ → List ℕ) → (ℕ → List Row) → List Table → Type 0
AreEnded [] [] texts rows [] = Unit {0}
AreEnded [] [] texts rows (table ∷ tables) = ⊥
AreEnded [] (t ∷ ts) texts rows tables = ⊥
AreEnded (plan ∷ plans) [] texts rows tables = ⊥
AreEnded (plan ∷ plans) (t ∷ ts) texts rows [] = ⊥
AreEnded (plan ∷ plans) (t ∷ ts) texts rows (table ∷ tables) =
    EndsAs plan t (texts 0) (rows 0) table × AreEnded plans ts (λ i. texts (suc i)) (λ i. rows (suc i)) tables

-- each place of both lists has an annotated table
abbrev pub EachEnds : List TablePlan → List State → (ℕ → List ℕ) → (ℕ → List Row) → Type 0
EachEnds plans ts texts rows = (i : ℕ) (plan : TablePlan) (t : State) → slice_get plans i ≡ Some plan → slice_get ts i ≡ Some t
    → (table : Table) × EndsAs plan t (texts i) (rows i) table

pub listed : (plans : List TablePlan) (ts : List State) (texts : ℕ → List ℕ) (rows : ℕ → List Row) → length ts ≡ length plans
    → EachEnds plans ts texts rows → (tables : List Table) × AreEnded plans ts texts rows tables
listed [] [] texts rows many each = ([], tt)
listed [] (t ∷ ts) texts rows many each = absurd (omega arith)
listed (plan ∷ plans) [] texts rows many each = absurd (omega arith)
listed (plan ∷ plans) (t ∷ ts) texts rows many each =
    let first = each 0 plan t refl refl in
    let fewer : length ts ≡ length plans = omega arith in
    let rest = listed plans ts (λ i. texts (suc i)) (λ i. rows (suc i)) fewer (λ i p u e f. each (suc i) p u e f) in
    (first.0 ∷ rest.0, (first.1, rest.1))

pub as_many : (plans : List TablePlan) (ts : List State) (texts : ℕ → List ℕ) (rows : ℕ → List Row) (tables : List Table)
    → AreEnded plans ts texts rows tables → length tables ≡ length plans
as_many [] [] texts rows [] h = refl
as_many [] [] texts rows (table ∷ tables) h = absurd h
as_many [] (t ∷ ts) texts rows tables h = absurd h
as_many (plan ∷ plans) [] texts rows tables h = absurd h
as_many (plan ∷ plans) (t ∷ ts) texts rows [] h = absurd h
as_many (plan ∷ plans) (t ∷ ts) texts rows (table ∷ tables) h = ap (λ n. suc n) (as_many plans ts (λ i. texts (suc i)) (λ i. rows (suc i)) tables h.1)

-- the state of a table, by its place
pub record FromState (ts : List State) (i : ℕ) (plan : TablePlan) (text : List ℕ) (rows : List Row) (table : Table) : Type 0 where
  pub t : State
  pub is_at : slice_get ts i ≡ Some t
  pub ends_as : EndsAs plan t text rows table

pub state_at : (plans : List TablePlan) (ts : List State) (texts : ℕ → List ℕ) (rows : ℕ → List Row) (tables : List Table)
    → AreEnded plans ts texts rows tables → (i : ℕ) (plan : TablePlan) (table : Table) → slice_get plans i ≡ Some plan → slice_get tables i ≡ Some table
    → FromState ts i plan (texts i) (rows i) table
state_at [] ts texts rows tables h i plan table e f = absurd (no_item plan e)
state_at (p ∷ plans) [] texts rows tables h i plan table e f = absurd h
state_at (p ∷ plans) (t ∷ ts) texts rows [] h i plan table e f = absurd h
state_at (p ∷ plans) (t ∷ ts) texts rows (x ∷ tables) h zero plan table e f = record {
  t = t;
  is_at = refl;
  ends_as = subst (λ z. EndsAs z t (texts 0) (rows 0) table) (same_item p plan e)
      (subst (λ z. EndsAs p t (texts 0) (rows 0) z) (same_item x table f) h.0);
}
state_at (p ∷ plans) (t ∷ ts) texts rows (x ∷ tables) h (suc i) plan table e f =
    let k = state_at plans ts (λ j. texts (suc j)) (λ j. rows (suc j)) tables h.1 i plan table e f in
    record { t = k.t; is_at = k.is_at; ends_as = k.ends_as }

-- the table of a state, by its place
pub record ToTable (tables : List Table) (i : ℕ) (plan : TablePlan) (t : State) (text : List ℕ) (rows : List Row) : Type 0 where
  pub table : Table
  pub is_at : slice_get tables i ≡ Some table
  pub ends_as : EndsAs plan t text rows table

pub table_at : (plans : List TablePlan) (ts : List State) (texts : ℕ → List ℕ) (rows : ℕ → List Row) (tables : List Table)
    → AreEnded plans ts texts rows tables → (i : ℕ) (plan : TablePlan) (t : State) → slice_get plans i ≡ Some plan → slice_get ts i ≡ Some t
    → ToTable tables i plan t (texts i) (rows i)
table_at [] ts texts rows tables h i plan t e f = absurd (no_item plan e)
table_at (p ∷ plans) [] texts rows tables h i plan t e f = absurd h
table_at (p ∷ plans) (u ∷ ts) texts rows [] h i plan t e f = absurd h
table_at (p ∷ plans) (u ∷ ts) texts rows (x ∷ tables) h zero plan t e f = record {
  table = x;
  is_at = refl;
  ends_as = subst (λ z. EndsAs z t (texts 0) (rows 0) x) (same_item p plan e) (subst (λ z. EndsAs p z (texts 0) (rows 0) x) (same_item u t f) h.0);
}
table_at (p ∷ plans) (u ∷ ts) texts rows (x ∷ tables) h (suc i) plan t e f =
    let k = table_at plans ts (λ j. texts (suc j)) (λ j. rows (suc j)) tables h.1 i plan t e f in
    record { table = k.table; is_at = k.is_at; ends_as = k.ends_as }

-- the faults that were listed for a table are its violations
faults_of_table : (plan : TablePlan) (t : State) (text : List ℕ) (rows : List Row) (table : Table) → EndsAs plan t text rows table
    → header_faults_of t ++ faults_of t ≡ table_violations plan table
faults_of_table plan t text rows table g = ap (λ z. z ++ faults_of t) g.header_faults ∙ ap (λ z. table.header_faults ++ z) g.faults

pub faults_are : (plans : List TablePlan) (ts : List State) (texts : ℕ → List ℕ) (rows : ℕ → List Row) (tables : List Table)
    → AreEnded plans ts texts rows tables → all_faults ts ≡ tables_violations plans tables
faults_are [] [] texts rows [] h = refl
faults_are [] [] texts rows (table ∷ tables) h = absurd h
faults_are [] (t ∷ ts) texts rows tables h = absurd h
faults_are (plan ∷ plans) [] texts rows tables h = absurd h
faults_are (plan ∷ plans) (t ∷ ts) texts rows [] h = absurd h
faults_are (plan ∷ plans) (t ∷ ts) texts rows (table ∷ tables) h =
    ap (λ z. z ++ all_faults ts) (faults_of_table plan t (texts 0) (rows 0) table h.0)
    ∙ ap (λ z. table_violations plan table ++ z) (faults_are plans ts (λ i. texts (suc i)) (λ i. rows (suc i)) tables h.1)
