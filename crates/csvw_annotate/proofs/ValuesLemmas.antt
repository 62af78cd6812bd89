-- The values of a row by their places.
use Rattle.std.proofs.Common.{◌≡◌, ℕ, zero, suc, ◌<◌, ◌≤◌, List, [], ◌∷◌, refl, sym, ap, subst, length, map, get_or, arith}
use Rattle.csvw_template.specs.declared.vars.Var.TheVariants.{Undefined}
use Rattle.csvw_template.specs.Bound.{var_at}
use Rattle.csvw_annotate.specs.CellVariables.{variable}
use Rattle.csvw_cell.specs.HasForm.{HasForm}
use Rattle.csvw_annotate.specs.declared.row.AnnCell.{AnnCell}
use Rattle.csvw_annotate.specs.HasForms.{CellsHaveForms}
use Rattle.csvw_annotate.specs.Linked.{values_of}

-- what the cell at a place stands for
pub value_at : (cells : List AnnCell) (i : ℕ) (cell : AnnCell) → i < length cells → cell ≡ get_or cells i cell
    → var_at (map variable (values_of cells)) i ≡ variable cell.value
value_at [] i cell lt e = absurd (omega (arith, lt))
value_at (c ∷ cells) zero cell lt e = ap (λ (x : AnnCell). variable x.value) (sym e)
value_at (c ∷ cells) (suc i) cell lt e = value_at cells i cell (omega (arith, lt)) e

pub no_value_at : (cells : List AnnCell) (i : ℕ) → length cells ≤ i → var_at (map variable (values_of cells)) i ≡ Undefined
no_value_at [] i le = refl
no_value_at (c ∷ cells) zero le = absurd (omega (arith, le))
no_value_at (c ∷ cells) (suc i) le = no_value_at cells i (omega (arith, le))

pub form_at : (cells : List AnnCell) (i : ℕ) (cell : AnnCell) → i < length cells → cell ≡ get_or cells i cell → CellsHaveForms cells → HasForm cell.value
form_at [] i cell lt e h = absurd (omega (arith, lt))
form_at (c ∷ cells) zero cell lt e h = subst (λ (x : AnnCell). HasForm x.value) (sym e) h.0
form_at (c ∷ cells) (suc i) cell lt e h = form_at cells i cell (omega (arith, lt)) e h.1
