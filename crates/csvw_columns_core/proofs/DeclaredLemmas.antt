-- The columns of a schema, one after the other.
use Rattle.std.proofs.Common.{◌≡◌, ◌∙◌, ℕ, ◌+◌, ◌<◌, zero, suc, List, [], ◌∷◌, ◌++◌, length, take, get_or, refl, sym, ap, arith, add-one, add-zero}
use Rattle.csvw_description.specs.declared.column.ColumnDescription.{ColumnDescription}
use Rattle.csvw_description.specs.declared.inherited.Inherited.{Inherited}
use Rattle.csvw_columns_core.specs.declared.column.Column.{Column}
use Rattle.csvw_columns_core.specs.SchemaColumns.{declared, declared_from, declared_columns}

same_number : (n i : ℕ) → (n + 1) + i ≡ n + suc i
same_number n i = omega arith

module _ (url : List ℕ) (skipped : ℕ) (schema table group : Inherited) where
  from_more : (n : ℕ) (cs : List ColumnDescription) (i : ℕ) (d : ColumnDescription) → i < length cs
      → declared_from url skipped schema table group n (take (suc i) cs)
      ≡ declared_from url skipped schema table group n (take i cs) ++ declared url skipped schema table group (n + i) (get_or cs i d) ∷ []
  from_more n [] i d h = absurd (omega (arith, h))
  from_more n (c ∷ cs) zero d h = rw add-zero refl
  from_more n (c ∷ cs) (suc i) d h =
      ap (λ xs. declared url skipped schema table group n c ∷ xs)
      (from_more (n + 1) cs i d (omega (arith, h))
      ∙ ap (λ k. declared_from url skipped schema table group (n + 1) (take i cs) ++ declared url skipped schema table group k (get_or cs i d) ∷ [])
      (same_number n i))

  pub one_more : (cs : List ColumnDescription) (i : ℕ) (c : ColumnDescription) (columns more : List Column) (column : Column) → i < length cs
      → c ≡ get_or cs i c
      → columns ≡ declared_columns url skipped schema table group (take i cs) → more ≡ columns ++ column ∷ []
      → column ≡ declared url skipped schema table group (i + 1) c
      → more ≡ declared_columns url skipped schema table group (take (i + 1) cs)
  one_more cs i c columns more column h is so_far e one =
      let number : 1 + i ≡ i + 1 = omega arith in
      let this : column ≡ declared url skipped schema table group (1 + i) (get_or cs i c) =
      one ∙ ap (λ k. declared url skipped schema table group k c) (sym number) ∙ ap (declared url skipped schema table group (1 + i)) is in
      e ∙ ap (λ xs. xs ++ column ∷ []) so_far ∙ ap (λ x. declared_columns url skipped schema table group (take i cs) ++ x ∷ []) this
      ∙ sym (from_more 1 cs i c h) ∙ ap (λ n. declared_columns url skipped schema table group (take n cs)) (sym (add-one i))
