-- The titles of the items and of the cells from one on.
use Rattle.std.proofs.Common.{◌≡◌, ℕ, ◌+◌, ◌<◌, ◌≤◌, suc, List, [], ◌∷◌, ◌++◌, sym, ap, ◌∙◌, map, drop, length, add-one, get_or, flat_map}
use Rattle.std.proofs.Math.Seq.{drop-cons}
use Rattle.std.proofs.lemmas.List.{drop_all}
use Rattle.std.specs.List.{zip}
use Rattle.csvw_columns_core.specs.declared.column.Column.{Column}
use Rattle.csvw_annotate.specs.declared.row.AnnCell.{AnnCell}
use Rattle.csvw_cell.specs.declared.cell.Item.{Item}
use Rattle.csvw_triples_core.specs.declared.term.Triple.{Triple}
use Rattle.csvw_triples_rows.specs.RowTitles.{title_triples}
use Rattle.csvw_triples_rows.proofs.Walking.{next_pair, no_pairs}

-- items

module _ (f : Item → Triple) (items : List Item) where
  pub next_title : (i : ℕ) (item : Item) → i < length items → item ≡ get_or items i item
      → map f (drop i items) ≡ (f item ∷ []) ++ map f (drop (i + 1) items)
  next_title i item h e =
      ap (map f) (drop-cons items i item h) ∙ ap (λ (y : Item). f y ∷ map f (drop (suc i) items)) (sym e)
      ∙ ap (λ n. f item ∷ map f (drop n items)) (sym (add-one i))

  pub no_titles : (i : ℕ) → length items ≤ i → map f (drop i items) ≡ []
  no_titles i h = ap (map f) (drop_all i items h)

-- cells

abbrev pub pair_titles : ℕ → ℕ → Column × AnnCell → List Triple
pair_titles t number p = title_triples t number p.0 p.1

module _ (t number : ℕ) (columns : List Column) (cells : List AnnCell) where
  abbrev pub titles_from : ℕ → List Triple
  titles_from i = flat_map (pair_titles t number) (drop i (zip columns cells))

  pub next_titles : (i : ℕ) (c : Column) (v : AnnCell) → i < length columns → i < length cells → c ≡ get_or columns i c → v ≡ get_or cells i v
      → titles_from i ≡ title_triples t number c v ++ titles_from (i + 1)
  next_titles i c v h k p q =
      ap (flat_map (pair_titles t number)) (next_pair columns cells i c v h k)
      ∙ ap (λ (x : Column). title_triples t number x (get_or cells i v) ++ titles_from (suc i)) (sym p)
      ∙ ap (λ (y : AnnCell). title_triples t number c y ++ titles_from (suc i)) (sym q)
      ∙ ap (λ n. title_triples t number c v ++ titles_from n) (sym (add-one i))

  pub no_titles_left : (i : ℕ) → length cells ≤ i → titles_from i ≡ []
  no_titles_left i h = ap (flat_map (pair_titles t number)) (no_pairs columns cells i h)
