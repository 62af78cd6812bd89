-- The cells of a row, one after the other.
use Rattle.std.proofs.Common.{◌≡◌, ◌∙◌, ℕ, zero, suc, ◌+◌, ◌<◌, List, [], ◌∷◌, ◌++◌, length, take, get_or, refl, sym, ap, subst, arith, add-one}
use Rattle.std.proofs.lemmas.Grind.{common_steps}
use Rattle.std.proofs.Math.Seq.{take-suc}
use Rattle.csvw_datatype.specs.Sound.{IsSound}
use Rattle.csvw_columns_core.specs.declared.column.Column.{Column}
use Rattle.csvw_annotate.specs.declared.row.AnnCell.{AnnCell}
use Rattle.csvw_annotate.specs.Annotated.{IsCell, AreCells}
use Rattle.csvw_columns_core.specs.Sound.{AreSound}
use Rattle.csvw_annotate.specs.FieldAt.{field_at}

-- the datatype of one column
pub sound_at : (columns : List Column) (i : ℕ) (column : Column) → i < length columns → column ≡ get_or columns i column → AreSound columns
    → IsSound column.properties.datatype
sound_at [] i column lt e s = absurd (omega (arith, lt))
sound_at (c ∷ columns) zero column lt e s = subst (λ (x : Column). IsSound x.properties.datatype) (sym e) s.0
sound_at (c ∷ columns) (suc i) column lt e s = sound_at columns i column (omega (arith, lt)) e s.1

-- one cell more
cells_snoc : (columns : List Column) (fields : List (List ℕ)) (cells : List AnnCell) (column : Column) (cell : AnnCell)
    → AreCells columns fields cells → IsCell column (field_at fields (length columns)) cell → AreCells (columns ++ column ∷ []) fields (cells ++ cell ∷ [])
cells_snoc [] [] cells column cell h k = subst (λ (xs : List AnnCell). AreCells (column ∷ []) [] (xs ++ cell ∷ [])) (sym h) (k, refl)
cells_snoc [] (f ∷ fs) cells column cell h k = subst (λ (xs : List AnnCell). AreCells (column ∷ []) (f ∷ fs) (xs ++ cell ∷ [])) (sym h) (k, refl)
cells_snoc (c ∷ cs) [] [] column cell h k = absurd h
cells_snoc (c ∷ cs) (f ∷ fs) [] column cell h k = absurd h
cells_snoc (c ∷ cs) [] (x ∷ xs) column cell h k = (h.0, cells_snoc cs [] xs column cell h.1 k)
cells_snoc (c ∷ cs) (f ∷ fs) (x ∷ xs) column cell h k = (h.0, cells_snoc cs fs xs column cell h.1 k)

len_take : {A : Type 0} (l : List A) (i : ℕ) → i < length l → length (take i l) ≡ i
len_take l i lt = grind (arith, common_steps)

pub one_cell : (columns : List Column) (fields : List (List ℕ)) (i : ℕ) (column : Column) (text : List ℕ) (cell : AnnCell) (cells more : List AnnCell)
    → i < length columns → column ≡ get_or columns i column → text ≡ field_at fields i → IsCell column text cell
    → AreCells (take i columns) fields cells → more ≡ cells ++ cell ∷ [] → AreCells (take (i + 1) columns) fields more
one_cell columns fields i column text cell cells more lt e t k h m =
    let taken : take (i + 1) columns ≡ take i columns ++ column ∷ [] =
    ap (λ n. take n columns) (add-one i) ∙ take-suc columns i column lt ∙ ap (λ (x : Column). take i columns ++ x ∷ []) (sym e) in
    let here = subst (λ (x : List ℕ). IsCell column x cell) (t ∙ ap (field_at fields) (sym (len_take columns i lt))) k in
    subst (λ (x : List AnnCell). AreCells (take (i + 1) columns) fields x) (sym m)
    (subst (λ (x : List Column). AreCells x fields (cells ++ cell ∷ [])) (sym taken) (cells_snoc (take i columns) fields cells column cell h here))
