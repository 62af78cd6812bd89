-- The faults of a header, one row or column after the other.
use Rattle.std.proofs.Common.{◌≡◌, ◌∙◌, ℕ, ◌+◌, ◌<◌, zero, suc, List, [], ◌∷◌, ◌++◌, length, take, get_or, refl, sym, ap, arith, add-one, add-zero}
use Rattle.std.proofs.Common.{append_assoc}
use Rattle.std.specs.Prelude.{if◌then◌else◌}
use Rattle.std.proofs.Math.Seq.{take-suc}
use Rattle.csvw_fault.specs.declared.fault.Fault.{Fault}
use Rattle.csvw_fault.specs.declared.fault.Code.TheVariants.{HeaderMismatch}
use Rattle.csvw_columns_core.specs.declared.column.Column.{Column}
use Rattle.csvw_columns_core.specs.declared.header.HeaderRow.{HeaderRow}
use Rattle.csvw_columns_core.specs.HeaderFits.{last_source, mismatches_from, fits, error_at}

last_of : (rows : List HeaderRow) (row : HeaderRow) → last_source (rows ++ row ∷ []) ≡ row.source
last_of [] row = refl
last_of (r ∷ []) row = refl
last_of (r ∷ s ∷ rows) row = last_of (s ∷ rows) row

pub last_more : (rows : List HeaderRow) (i : ℕ) (row : HeaderRow) → i < length rows → row ≡ get_or rows i row → row.source ≡ last_source (take (i + 1) rows)
last_more rows i row lt e =
    sym (last_of (take i rows) row) ∙ ap (λ (r : HeaderRow). last_source (take i rows ++ r ∷ [])) e ∙ ap last_source (sym (take-suc rows i row lt))
    ∙ ap (λ n. last_source (take n rows)) (sym (add-one i))

module _ (table source : ℕ) (rows : List HeaderRow) where
  abbrev pub told_at : Column → ℕ → List Fault
  told_at c i = if fits c rows i then [] else error_at table source c.number HeaderMismatch ∷ []

  from_more : (n : ℕ) (cs : List Column) (i : ℕ) (d : Column) → i < length cs
      → mismatches_from table source rows n (take (suc i) cs) ≡ mismatches_from table source rows n (take i cs) ++ told_at (get_or cs i d) (n + i)
  from_more n [] i d h = absurd (omega (arith, h))
  from_more n (c ∷ cs) zero d h = rw add-zero (nothing (told_at c n))
    where
      nothing : (l : List Fault) → l ++ [] ≡ l
      nothing [] = refl
      nothing (x ∷ xs) = ap (λ l. x ∷ l) (nothing xs)
  from_more n (c ∷ cs) (suc i) d h =
      let number : (n + 1) + i ≡ n + suc i = omega arith in
      ap (λ xs. told_at c n ++ xs) (from_more (n + 1) cs i d (omega (arith, h)))
      ∙ sym (append_assoc (told_at c n) (mismatches_from table source rows (n + 1) (take i cs)) (told_at (get_or cs i d) ((n + 1) + i)))
      ∙ ap (λ k. (told_at c n ++ mismatches_from table source rows (n + 1) (take i cs)) ++ told_at (get_or cs i d) k) number

  pub one_more : (cs : List Column) (i : ℕ) (c : Column) (faults more : List Fault) → i < length cs → c ≡ get_or cs i c
      → faults ≡ mismatches_from table source rows 0 (take i cs) → more ≡ faults ++ told_at c i → more ≡ mismatches_from table source rows 0 (take (i + 1) cs)
  one_more cs i c faults more h is so_far e =
      let number : i ≡ 0 + i = omega arith in
      e ∙ ap (λ l. l ++ told_at c i) so_far ∙ ap (λ (x : Column). mismatches_from table source rows 0 (take i cs) ++ told_at x i) is
      ∙ ap (λ k. mismatches_from table source rows 0 (take i cs) ++ told_at (get_or cs i c) k) number ∙ sym (from_more 0 cs i c h)
      ∙ ap (λ n. mismatches_from table source rows 0 (take n cs)) (sym (add-one i))
