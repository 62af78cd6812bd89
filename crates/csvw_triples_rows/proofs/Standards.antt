-- The triples of the cells of a row in standard mode: their own, and one for each subject at its first cell.
use Rattle.std.proofs.Common.{◌≡◌, ℕ, Bool, true, false, cond, List, [], ◌∷◌, ◌++◌, refl, sym, ap, subst, inl, inr, ◌⊎◌, Option, Some, None, Contains}
use Rattle.std.proofs.lemmas.List.Elements.{Contains-append_left, Contains-append_right, Contains-append_cases}
use Rattle.std.proofs.lemmas.Slice.Eq.{bytes_eq-Decides}
use Rattle.std.specs.Prelude.{flat_map}
use Rattle.csvw_columns_core.specs.declared.column.Column.{Column}
use Rattle.csvw_annotate.specs.declared.row.AnnCell.{AnnCell}
use Rattle.csvw_triples_core.specs.declared.term.Node.{Node}
use Rattle.csvw_triples_core.specs.declared.term.Triple.{Triple}
use Rattle.csvw_triples_rows.specs.RowTriples.{subject_by, subject_of, cell_triples}
use Rattle.csvw_triples_rows.specs.StandardTriples.{same_about, is_described, describes_triple, describes_triples, described_triples, described_cells}
use Rattle.csvw_triples_rows.specs.StandardTriples.{last_after}
use Rattle.csvw_triples_rows.proofs.Graphs.{none_in, first_in, later_in, one_in, in_cons, unless, given}

-- two abouts that are the same make one subject
one_subject : (t number : ℕ) (a b : Option (List ℕ)) → same_about a b ≡ true → subject_by t number a ≡ subject_by t number b
one_subject t number None None e = refl
one_subject t number None (Some b) e = cc
one_subject t number (Some a) None e = cc
one_subject t number (Some a) (Some b) e = let same = bytes_eq-Decides a b in ap (λ i. subject_by t number (Some i)) (same.0 e)

module _ (t number : ℕ) where
  abbrev of_pair : Column × AnnCell → List Triple
  of_pair p = cell_triples t number p.0 p.1

  -- the subject of some cell of a column that isn't suppressed
  abbrev pub Described : List (Column × AnnCell) → Triple → Type 0
  Described pairs x =
      (column : Column) × (cell : AnnCell) × Contains pairs (column, cell) × (column.suppressed ≡ false)
      × (x ≡ describes_triple t number (subject_of t number cell))

  later_described : (p : Column × AnnCell) (pairs : List (Column × AnnCell)) (x : Triple) → Described pairs x → Described (p ∷ pairs) x
  later_described p pairs x d = (d.0, d.1, later_in p pairs (d.0, d.1) d.2, d.3, d.4)

  -- each triple there is one of a cell, or describes its subject

  from_describes : (column : Column) (last : Option AnnCell) (cell : AnnCell) (x : Triple) → Contains (describes_triples t number last cell) x
      → x ≡ describes_triple t number (subject_of t number cell)
  from_describes column last cell x h = let k = unless (is_described last cell) _ x h in one_in _ x k.1

  from_first : (column : Column) (last : Option AnnCell) (cell : AnnCell) (pairs : List (Column × AnnCell)) (x : Triple)
      → Contains (described_triples t number column last cell) x
      → Contains (flat_map of_pair ((column, cell) ∷ pairs)) x ⊎ Described ((column, cell) ∷ pairs) x
  from_first column last cell pairs x h =
      let k = unless column.suppressed (describes_triples t number last cell ++ cell_triples t number column cell) x h in
      elim (Contains-append_cases (describes_triples t number last cell) (cell_triples t number column cell) x k.1) [
        | inl d ↦ inr (column, cell, first_in (column, cell) pairs, k.0, from_describes column last cell x d)
        | inr c ↦ inl (Contains-append_left (cell_triples t number column cell) (flat_map of_pair pairs) x c)
      ]

  pub from_cells : (last : Option AnnCell) (pairs : List (Column × AnnCell)) (x : Triple) → Contains (described_cells t number last pairs) x
      → Contains (flat_map of_pair pairs) x ⊎ Described pairs x
  from_cells last [] x h = absurd (none_in x h)
  from_cells last (p ∷ pairs) x h =
      elim (Contains-append_cases (described_triples t number p.0 last p.1) (described_cells t number (last_after p.0 last p.1) pairs) x h) [
        | inl k ↦ from_first p.0 last p.1 pairs x k
        | inr k ↦ elim (from_cells (last_after p.0 last p.1) pairs x k) [
          | inl c ↦ inl (Contains-append_right (of_pair p) (flat_map of_pair pairs) x c)
          | inr d ↦ inr (later_described p pairs x d)
        ]
      ]

  -- each triple of a cell is there

  to_first : (column : Column) (last : Option AnnCell) (cell : AnnCell) (x : Triple) → Contains (cell_triples t number column cell) x
      → Contains (described_triples t number column last cell) x
  to_first column last cell x h =
      let k = unless column.suppressed _ x h in
      given column.suppressed _ x k.0 (Contains-append_right (describes_triples t number last cell) (cell_triples t number column cell) x h)

  pub to_cells : (last : Option AnnCell) (pairs : List (Column × AnnCell)) (x : Triple) → Contains (flat_map of_pair pairs) x
      → Contains (described_cells t number last pairs) x
  to_cells last [] x h = absurd (none_in x h)
  to_cells last (p ∷ pairs) x h =
      let first = described_triples t number p.0 last p.1 in
      let others = described_cells t number (last_after p.0 last p.1) pairs in
      elim (Contains-append_cases (of_pair p) (flat_map of_pair pairs) x h) [
        | inl k ↦ Contains-append_left first others x (to_first p.0 last p.1 x k)
        | inr k ↦ Contains-append_right first others x (to_cells (last_after p.0 last p.1) pairs x k)
      ]

  -- each subject was described at the last cell, or is described at its first cell

  abbrev Told : Option AnnCell → Node → Type 0
  Told None s = ⊥
  Told (Some last) s = subject_of t number last ≡ s

  abbrev Tells : Option AnnCell → List (Column × AnnCell) → Node → Type 0
  Tells last pairs s = Told last s ⊎ Contains (described_cells t number last pairs) (describes_triple t number s)

  told_by : (last : Option AnnCell) (cell : AnnCell) → is_described last cell ≡ true → Told last (subject_of t number cell)
  told_by None cell e = cc
  told_by (Some last) cell e = one_subject t number last.about cell.about e

  -- a cell's own subject
  by_test : (b : Bool) (last : Option AnnCell) (cell : AnnCell) → is_described last cell ≡ b
      → Told last (subject_of t number cell) ⊎ Contains (describes_triples t number last cell) (describes_triple t number (subject_of t number cell))
  by_test true last cell e = inl (told_by last cell e)
  by_test false last cell e = inr (given (is_described last cell) _ _ e (first_in _ []))

  own : (column : Column) (last : Option AnnCell) (cell : AnnCell) (pairs : List (Column × AnnCell)) → column.suppressed ≡ false
      → Tells last ((column, cell) ∷ pairs) (subject_of t number cell)
  own column last cell pairs e =
      let x = describes_triple t number (subject_of t number cell) in
      elim (by_test (is_described last cell) last cell refl) [
        | inl k ↦ inl k
        | inr k ↦ inr (Contains-append_left (described_triples t number column last cell) (described_cells t number (last_after column last cell) pairs) x
            (given column.suppressed _ x e (Contains-append_left (describes_triples t number last cell) (cell_triples t number column cell) x k)))
      ]

  -- one that was described at the cell before it
  passed : (b : Bool) (column : Column) (last : Option AnnCell) (cell : AnnCell) (pairs : List (Column × AnnCell)) (s : Node) → column.suppressed ≡ b
      → Told (cond b last (Some cell)) s → Tells last ((column, cell) ∷ pairs) s
  passed true column last cell pairs s e k = inl k
  passed false column last cell pairs s e k = subst (λ n. Tells last ((column, cell) ∷ pairs) n) k (own column last cell pairs e)

  pub tells : (last : Option AnnCell) (pairs : List (Column × AnnCell)) (column : Column) (cell : AnnCell) → Contains pairs (column, cell)
      → column.suppressed ≡ false → Tells last pairs (subject_of t number cell)
  tells last [] column cell h e = absurd (none_in (column, cell) h)
  tells last (p ∷ pairs) column cell h e =
      elim (in_cons p pairs (column, cell) h) [
        | inl k ↦ subst (λ (q : Column × AnnCell). Tells last (q ∷ pairs) (subject_of t number cell)) k (own column last cell pairs e)
        | inr k ↦ elim (tells (last_after p.0 last p.1) pairs column cell k e) [
          | inl told ↦ passed p.0.suppressed p.0 last p.1 pairs (subject_of t number cell) refl told
          | inr there ↦ inr (Contains-append_right (described_triples t number p.0 last p.1) (described_cells t number (last_after p.0 last p.1) pairs) _ there)
        ]
      ]

  pub to_described : (pairs : List (Column × AnnCell)) (x : Triple) → Described pairs x → Contains (described_cells t number None pairs) x
  to_described pairs x d =
      elim (tells None pairs d.0 d.1 d.2 d.3) [
        | inl k ↦ absurd k
        | inr k ↦ subst (λ y. Contains (described_cells t number None pairs) y) (sym d.4) k
      ]
