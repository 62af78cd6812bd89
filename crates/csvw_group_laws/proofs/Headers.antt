-- More rows of the source don't change the columns of a table.
use Rattle.std.proofs.Common.{◌≡◌, ◌⊎◌, ◌≤◌, ℕ, zero, suc, List, [], ◌∷◌, ◌++◌, refl, sym, ap, ◌∙◌, subst, arith, inl, inr, length, map, Option, Some, None}
use Rattle.std.proofs.lemmas.List.{take-append-le}
use Rattle.csvw_fault.specs.declared.fault.Fault.{Fault}
use Rattle.csvw_records.specs.RowValue.{Given}
use Rattle.csvw_columns_core.specs.declared.columns.Columns.{Columns}
use Rattle.csvw_columns_core.specs.declared.header.HeaderRow.{HeaderRow}
use Rattle.csvw_columns.specs.HeaderMatch.{IsMatch}
use Rattle.csvw_columns.specs.declared.plan.TablePlan.{TablePlan}
use Rattle.csvw_annotate.specs.declared.row.Row.{Row}
use Rattle.csvw_triples_core.specs.declared.mode.Mode.{Mode}
use Rattle.csvw_engine_core.specs.Annotated.{IsTable, Heads, needed, first_width, header_count, header_row, header_rows}
use Rattle.csvw_engine_core.specs.Tables.{table_triples}

-- so many rows have all header rows
pub enough : (n k : ℕ) → needed n ≤ k → n ≤ k
enough zero k h = omega arith
enough (suc n) k h = h

width_same : (n : ℕ) (given raws : List Given) → needed n ≤ length given → first_width n (given ++ raws) ≡ first_width n given
width_same zero [] raws h = let bound = h in absurd (omega (arith, bound))
width_same zero (raw ∷ given) raws h = refl
width_same (suc n) given raws h = refl

none_in_front : {X : Type 0} (xs ys : List X) → xs ++ ys ≡ [] → xs ≡ []
none_in_front [] ys e = refl
none_in_front (x ∷ xs) ys e = cc

module _ (plan : TablePlan) (given raws : List Given) where
  -- the header of rows is that of the first of them if these are enough
  pub heads_of_first : (c : Columns) (f : List Fault) → needed (header_count plan) ≤ length given → Heads plan (given ++ raws) c f → Heads plan given c f
  heads_of_first c f some h =
      let rows : header_rows plan (given ++ raws) ≡ header_rows plan given =
      ap (λ gs. map header_row gs) (take-append-le (header_count plan) given raws (enough (header_count plan) (length given) some)) in
      subst (λ w. IsMatch plan (header_rows plan given) w c f) (width_same (header_count plan) given raws some)
      (subst (λ (rs : List HeaderRow). IsMatch plan rs (first_width (header_count plan) (given ++ raws)) c f) rows h)

  pub columns_same : (c d : Columns) (f g : List Fault) → needed (header_count plan) ≤ length given → Heads plan given c f
      → Heads plan (given ++ raws) d g → c ≡ d
  columns_same c d f g some h k =
      let own : Heads plan given d g = heads_of_first d g some k in
      h.columns ∙ sym own.columns

  pub same_columns : (a b : Option Columns) (f g : List Fault) (rows more : List Row) → IsTable plan given a f rows
      → IsTable plan (given ++ raws) b g (rows ++ more) → (rows ≡ []) ⊎ (a ≡ b)
  same_columns None b f g rows more h k = inl h.has
  same_columns (Some c) None f g rows more h k = inl (none_in_front rows more k.has)
  same_columns (Some c) (Some d) f g rows more h k = inr (ap Some (columns_same c d f g h.head.0 h.head.1 k.head.1))

no_triples : (m : Mode) (t : ℕ) (columns : Option Columns) → table_triples m t columns [] ≡ []
no_triples m t None = refl
no_triples m t (Some columns) = refl

-- rows have the same triples by the same columns, and no rows have none
pub same_triples : (m : Mode) (t : ℕ) (a b : Option Columns) (rows : List Row) → (rows ≡ []) ⊎ (a ≡ b) → table_triples m t a rows ≡ table_triples m t b rows
same_triples m t a b rows (inl e) = rw e (no_triples m t a ∙ sym (no_triples m t b))
same_triples m t a b rows (inr e) = ap (λ c. table_triples m t c rows) e
