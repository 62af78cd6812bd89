-- A front of the triples of rows ends within a row.
use Rattle.std.proofs.Common.{◌≡◌, ◌↔◌, ◌⊎◌, ℕ, List, [], ◌∷◌, ◌++◌, refl, sym, ap, ◌∙◌, subst, arith, inl, inr, append_assoc, Contains, Option, Some}
use Rattle.std.proofs.Common.{None, flat_map}
use Rattle.std.proofs.lemmas.List.Elements.{Contains-append_left, Contains-append_right}
use Rattle.csvw_columns_core.specs.declared.columns.Columns.{Columns}
use Rattle.csvw_annotate.specs.declared.row.Row.{Row}
use Rattle.csvw_triples_core.specs.declared.mode.Mode.{Mode}
use Rattle.csvw_triples_core.specs.declared.term.Triple.{Triple}
use Rattle.csvw_triples_rows.specs.ModeGraph.{RowGraph}
use Rattle.csvw_triples_rows.specs.ModeTriples.{row_triples}
use Rattle.csvw_engine_core.specs.Tables.{table_triples}
use Rattle.csvw_group_laws.specs.Part.{FirstRowGraph}

pub none_in : {X : Type 0} (x : X) → Contains [] x → ⊥
none_in x h = let lt = h.1 in absurd (omega arith)

pub first_in : {X : Type 0} (x : X) (xs : List X) → Contains (x ∷ xs) x
first_in x xs = (0, omega arith, refl)

-- what the triples of one row are
abbrev pub RowIsGraph : Type 0
RowIsGraph = (m : Mode) (t : ℕ) (columns : Columns) (row : Row) (x : Triple) → Contains (row_triples m t columns row) x ↔ RowGraph m t columns row x

-- a front of two lists ends within the first, or after it
record EndsWithin {X : Type 0} (a b front rest : List X) : Type 0 where
  pub next : X
  pub more : List X
  pub first : a ≡ front ++ next ∷ more
  pub behind : rest ≡ next ∷ (more ++ b)

record EndsBehind {X : Type 0} (a b front rest : List X) : Type 0 where
  pub more : List X
  pub first : front ≡ a ++ more
  pub behind : b ≡ more ++ rest

heads_same : {X : Type 0} (x y : X) (xs ys : List X) → x ∷ xs ≡ y ∷ ys → x ≡ y
heads_same x y xs ys e = cc

tails_same : {X : Type 0} (x y : X) (xs ys : List X) → x ∷ xs ≡ y ∷ ys → xs ≡ ys
tails_same x y xs ys e = cc

ends : {X : Type 0} (a b front rest : List X) → a ++ b ≡ front ++ rest → EndsWithin a b front rest ⊎ EndsBehind a b front rest
ends [] b front rest e = inr (record { more = front; first = refl; behind = e })
ends (x ∷ a) b [] rest e = inl (record { next = x; more = a; first = refl; behind = sym e })
ends (x ∷ a) b (y ∷ front) rest e =
    let same : x ≡ y = heads_same x y (a ++ b) (front ++ rest) e in
    elim (ends a b front rest (tails_same x y (a ++ b) (front ++ rest) e)) [
      | inl k ↦ inl (record { next = k.next; more = k.more; first = ap (λ z. z ∷ a) same ∙ ap (λ zs. y ∷ zs) k.first; behind = k.behind })
      | inr k ↦ inr (record { more = k.more; first = ap (λ z. z ∷ front) (sym same) ∙ ap (λ zs. x ∷ zs) k.first; behind = k.behind })
    ]

-- a front of the triples of rows: those of the first rows, and some of the next
pub record Splits (m : Mode) (t : ℕ) (columns : Option Columns) (rows : List Row) (front rest : List Triple) : Type 0 where
  pub first : List Row
  pub behind : List Row
  pub parts : rows ≡ first ++ behind
  pub some : List Triple
  pub front_is : front ≡ table_triples m t columns first ++ some
  pub within : (x : Triple) → Contains some x → FirstRowGraph m t columns behind x
  pub next : (x : Triple) (xs : List Triple) → rest ≡ x ∷ xs → FirstRowGraph m t columns behind x

none_left : {X : Type 0} (a b : List X) → [] ≡ a ++ b → (a ≡ []) × (b ≡ [])
none_left [] b e = (refl, sym e)
none_left (x ∷ a) b e = cc

not_none : {X : Type 0} (x : X) (xs : List X) → [] ≡ x ∷ xs → ⊥
not_none x xs e = cc

-- no triples
splits_none : (m : Mode) (t : ℕ) (columns : Option Columns) (rows : List Row) (front rest : List Triple) → [] ≡ front ++ rest
    → table_triples m t columns [] ≡ [] → Splits m t columns rows front rest
splits_none m t columns rows front rest e none =
    let k = none_left front rest e in record {
      first = [];
      behind = rows;
      parts = refl;
      some = [];
      front_is = k.0 ∙ ap (λ z. z ++ []) (sym none);
      within = λ x c. absurd (none_in x c);
      next = λ x xs f. absurd (not_none x xs (sym k.1 ∙ f));
    }

module _ (law : RowIsGraph) (m : Mode) (t : ℕ) (columns : Columns) where
  within_row : (row : Row) (rows : List Row) (front rest : List Triple)
      → EndsWithin (row_triples m t columns row) (flat_map (row_triples m t columns) rows) front rest
      → Splits m t (Some columns) (row ∷ rows) front rest
  within_row row rows front rest k = record {
    first = [];
    behind = row ∷ rows;
    parts = refl;
    some = front;
    front_is = refl;
    within = λ x c. (law m t columns row x).0
        (subst (λ ts. Contains ts x) (sym k.first) (Contains-append_left front (k.next ∷ k.more) x c));
    next = λ x xs e.
        let same : k.next ≡ x = heads_same k.next x (k.more ++ flat_map (row_triples m t columns) rows) xs (sym k.behind ∙ e) in
        (law m t columns row x).0
        (subst (λ ts. Contains ts x) (sym k.first) (Contains-append_right front (k.next ∷ k.more) x
        (subst (λ z. Contains (k.next ∷ k.more) z) same (first_in k.next k.more))));
  }

  behind_row : (row : Row) (rows : List Row) (front rest : List Triple)
      → (k : EndsBehind (row_triples m t columns row) (flat_map (row_triples m t columns) rows) front rest)
      → Splits m t (Some columns) rows k.more rest → Splits m t (Some columns) (row ∷ rows) front rest
  behind_row row rows front rest k s = record {
    first = row ∷ s.first;
    behind = s.behind;
    parts = ap (λ zs. row ∷ zs) s.parts;
    some = s.some;
    front_is = k.first ∙ ap (λ zs. row_triples m t columns row ++ zs) s.front_is
        ∙ sym (append_assoc (row_triples m t columns row) (flat_map (row_triples m t columns) s.first) s.some);
    within = s.within;
    next = s.next;
  }

  splits_some : (rows : List Row) (front rest : List Triple) → flat_map (row_triples m t columns) rows ≡ front ++ rest
      → Splits m t (Some columns) rows front rest
  splits_some [] front rest e = splits_none m t (Some columns) [] front rest e refl
  splits_some (row ∷ rows) front rest e =
      elim (ends (row_triples m t columns row) (flat_map (row_triples m t columns) rows) front rest e) [
        | inl k ↦ within_row row rows front rest k
        | inr k ↦ behind_row row rows front rest k (splits_some rows k.more rest k.behind)
      ]

pub splits : RowIsGraph → (m : Mode) (t : ℕ) (columns : Option Columns) (rows : List Row) (front rest : List Triple)
    → table_triples m t columns rows ≡ front ++ rest → Splits m t columns rows front rest
splits law m t None rows front rest e = splits_none m t None rows front rest e refl
splits law m t (Some columns) rows front rest e = splits_some law m t columns rows front rest e
