-- The number of columns of a table, and the columns themselves.
use Rattle.std.proofs.Common.{◌≡◌, ◌∙◌, ℕ, ◌+◌, zero, suc, List, [], ◌∷◌, length, refl, sym, ap, arith, add-one, length-append, true, false}
use Rattle.std.specs.Prelude.{Option, ◌==◌}
use Rattle.csvw_iri.specs.Link.{iri_of}
use Rattle.csvw_description.specs.declared.column.ColumnDescription.{ColumnDescription}
use Rattle.csvw_description.specs.declared.inherited.Inherited.{Inherited}
use Rattle.csvw_columns_core.specs.declared.column.Column.{Column}
use Rattle.csvw_columns_core.specs.declared.header.HeaderRow.{HeaderRow}
use Rattle.csvw_columns_core.specs.SchemaColumns.{declared_from}
use Rattle.csvw_columns_core.specs.HeaderColumns.{titled_columns, titled_column, titles_at, column_count, from_header}
use Rattle.csvw_columns.specs.declared.plan.TablePlan.{TablePlan}
use Rattle.csvw_columns.specs.HeaderMatch.{header_columns, declared_or, columns_of}

length-titled : (rows : List HeaderRow) (n : ℕ) → length (titled_columns rows n) ≡ n
length-titled rows zero = refl
length-titled rows (suc n) =
    length-append (titled_columns rows n) (titled_column (titles_at rows n) ∷ []) ∙ ap (λ k. k + 1) (length-titled rows n) ∙ add-one n

-- as many as the first header row has cells, or the first data row fields
pub length_from_header : (rows : List HeaderRow) (width : Option ℕ) → length (from_header rows width) ≡ column_count rows width
length_from_header rows width = length-titled rows (column_count rows width)

-- one for each description
pub length-declared : (url : List ℕ) (skipped : ℕ) (schema table group : Inherited) (n : ℕ) (cs : List ColumnDescription)
    → length (declared_from url skipped schema table group n cs) ≡ length cs
length-declared url skipped schema table group n [] = refl
length-declared url skipped schema table group n (c ∷ cs) = ap (λ k. suc k) (length-declared url skipped schema table group (n + 1) cs)

pub length-header_columns : (plan : TablePlan) (rows : List HeaderRow) (width : Option ℕ) → length (header_columns plan rows width) ≡ column_count rows width
length-header_columns plan rows width =
    length-declared (iri_of plan.url) plan.dialect.skip_columns plan.schema plan.table plan.group 1 (from_header rows width) ∙ length_from_header rows width

pub or_empty : (cs others : List Column) → (length cs == 0) ≡ true → declared_or cs others ≡ others
or_empty [] others h = refl
or_empty (c ∷ cs) others h = absurd (grind (arith, h))

pub or_declared : (cs others : List Column) → (length cs == 0) ≡ false → declared_or cs others ≡ cs
or_declared [] others h = absurd (grind (arith, h))
or_declared (c ∷ cs) others h = refl

-- if nothing is declared, those of the header count
pub count_of : (plan : TablePlan) (rows : List HeaderRow) (width : Option ℕ) → (length plan.declared == 0) ≡ true
    → column_count rows width ≡ length (columns_of plan rows width)
count_of plan rows width h =
    sym (length-header_columns plan rows width) ∙ ap length (sym (or_empty plan.declared (header_columns plan rows width) h))
