-- Lists of faults without an error.
use Rattle.std.proofs.Common.{◌≡◌, ◌≤◌, ℕ, true, List, [], ◌∷◌, ◌++◌, refl, sym, subst, arith, All, flat_map, length}
use Rattle.std.specs.List.{list_all, zip}
use Rattle.std.proofs.lemmas.Bool.{and_parts, and_from, false≢true}
use Rattle.std.proofs.lemmas.List.Elements.{All-cons, All-head, All-nil, All-tail}
use Rattle.csvw_fault.specs.declared.fault.Code.{Code}
use Rattle.csvw_fault.specs.declared.fault.Fault.{Fault}
use Rattle.csvw_fault.specs.declared.fault.Place.{Place}
use Rattle.csvw_columns_core.specs.declared.column.Column.{Column}
use Rattle.csvw_annotate.specs.declared.row.AnnCell.{AnnCell}
use Rattle.csvw_annotate.specs.declared.row.Row.{Row}
use Rattle.csvw_engine_core.specs.Faults.{cell_faults, place_of}
use Rattle.csvw_report.specs.Order.{is_no_error}

abbrev pub Quiet : List Fault → Type 0
Quiet faults = list_all is_no_error faults ≡ true

pub quiet_parts : (xs ys : List Fault) → Quiet (xs ++ ys) → Quiet xs × Quiet ys
quiet_parts [] ys q = (refl, q)
quiet_parts (x ∷ xs) ys q =
    let both = and_parts _ _ q in
    let rest = quiet_parts xs ys both.1 in
    (and_from _ _ both.0 rest.0, rest.1)

pub quiet_join : (xs ys : List Fault) → Quiet xs → Quiet ys → Quiet (xs ++ ys)
quiet_join [] ys a b = b
quiet_join (x ∷ xs) ys a b =
    let both = and_parts _ _ a in
    and_from _ _ both.0 (quiet_join xs ys both.1 b)

module _ {X : Type 0} (f : X → List Fault) where
  abbrev QuietAt : X → Type 0
  QuietAt x = Quiet (f x)

  pub quiet_each : (xs : List X) → Quiet (flat_map f xs) → All QuietAt xs
  quiet_each [] q = All-nil QuietAt
  quiet_each (x ∷ xs) q =
      let both = quiet_parts (f x) (flat_map f xs) q in
      All-cons QuietAt x xs both.0 (quiet_each xs both.1)

  pub quiet_flat : (xs : List X) → All QuietAt xs → Quiet (flat_map f xs)
  quiet_flat [] all = refl
  quiet_flat (x ∷ xs) all = quiet_join (f x) (flat_map f xs) (All-head QuietAt x xs all) (quiet_flat xs (All-tail QuietAt x xs all))

no_codes : (place : Place) (codes : List Code) → Quiet (cell_faults place codes) → codes ≡ []
no_codes place [] q = refl
no_codes place (c ∷ cs) q = absurd (false≢true q)

of_no_codes : (place : Place) (codes : List Code) → codes ≡ [] → Quiet (cell_faults place codes)
of_no_codes place codes e = subst (λ cs. Quiet (cell_faults place cs)) (sym e) refl

module _ (table : ℕ) (row : Row) where
  abbrev at : Column × AnnCell → List Fault
  at p = cell_faults (place_of table row p.0) p.1.faults

  abbrev IsClear : AnnCell → Type 0
  IsClear cell = cell.faults ≡ []

  pub cells_clear : (columns : List Column) (cells : List AnnCell) → length cells ≤ length columns
      → Quiet (flat_map at (zip columns cells)) → All IsClear cells
  cells_clear columns [] few q = All-nil IsClear
  cells_clear [] (cell ∷ cells) few q = absurd (omega (arith, few))
  cells_clear (column ∷ columns) (cell ∷ cells) few q =
      let both = quiet_parts (at (column, cell)) (flat_map at (zip columns cells)) q in
      let fewer : length cells ≤ length columns = omega (arith, few) in
      All-cons IsClear cell cells (no_codes (place_of table row column) cell.faults both.0) (cells_clear columns cells fewer both.1)

  pub cells_quiet : (columns : List Column) (cells : List AnnCell) → All IsClear cells → Quiet (flat_map at (zip columns cells))
  cells_quiet [] cells all = refl
  cells_quiet (column ∷ columns) [] all = refl
  cells_quiet (column ∷ columns) (cell ∷ cells) all =
      quiet_join (at (column, cell)) (flat_map at (zip columns cells))
      (of_no_codes (place_of table row column) cell.faults (All-head IsClear cell cells all))
      (cells_quiet columns cells (All-tail IsClear cell cells all))
