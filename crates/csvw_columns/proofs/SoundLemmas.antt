-- The columns of a table that is ready are sound, including those from its header.
use Rattle.std.proofs.Common.{◌≡◌, ℕ, ◌+◌, zero, suc, List, [], ◌∷◌, ◌++◌, refl, sym, subst}
use Rattle.std.specs.Prelude.{Option, None}
use Rattle.csvw_datatype.specs.Sound.{IsSound}
use Rattle.csvw_iri.specs.Link.{iri_of}
use Rattle.csvw_description.specs.declared.column.ColumnDescription.{ColumnDescription}
use Rattle.csvw_description.specs.declared.inherited.Inherited.{Inherited}
use Rattle.csvw_columns_core.specs.HeaderColumns.{titled_columns, titled_column, titles_at, column_count, from_header}
use Rattle.csvw_columns_core.specs.Inherited.{inherited, string_type}
use Rattle.csvw_columns_core.specs.SchemaColumns.{declared_from}
use Rattle.csvw_columns_core.specs.declared.column.Column.{Column}
use Rattle.csvw_columns_core.specs.declared.header.HeaderRow.{HeaderRow}
use Rattle.csvw_columns.specs.HeaderMatch.{header_columns, declared_or, columns_of}
use Rattle.csvw_columns.specs.Ready.{IsReady}
use Rattle.csvw_columns_core.specs.Sound.{AreSound}
use Rattle.csvw_columns.specs.declared.plan.TablePlan.{TablePlan}

-- no column has a datatype of its own
abbrev AreUntyped : List ColumnDescription → Type 0
AreUntyped [] = Unit {0}
AreUntyped (c ∷ cs) = (c.inherited.datatype ≡ None) × AreUntyped cs

untyped-push : (cs : List ColumnDescription) (c : ColumnDescription) → AreUntyped cs → c.inherited.datatype ≡ None → AreUntyped (cs ++ c ∷ [])
untyped-push [] c all one = (one, tt)
untyped-push (x ∷ xs) c all one = (all.0, untyped-push xs c all.1 one)

untyped-titled : (rows : List HeaderRow) (n : ℕ) → AreUntyped (titled_columns rows n)
untyped-titled rows zero = tt
untyped-titled rows (suc n) = untyped-push (titled_columns rows n) (titled_column (titles_at rows n)) (untyped-titled rows n) refl

module _ (url : List ℕ) (skipped : ℕ) (schema table group : Inherited) where
  sound_untyped : IsSound (inherited string_type None schema.datatype table.datatype group.datatype) → (n : ℕ) (cs : List ColumnDescription) → AreUntyped cs
      → AreSound (declared_from url skipped schema table group n cs)
  sound_untyped sound n [] all = tt
  sound_untyped sound n (c ∷ cs) all =
      (subst (λ own. IsSound (inherited string_type own schema.datatype table.datatype group.datatype)) (sym all.0) sound, sound_untyped sound (n + 1) cs all.1)

sound_header : (plan : TablePlan) (rows : List HeaderRow) (width : Option ℕ) → IsReady plan → AreSound (header_columns plan rows width)
sound_header plan rows width ready =
    sound_untyped (iri_of plan.url) plan.dialect.skip_columns plan.schema plan.table plan.group ready.header 1 (from_header rows width)
    (untyped-titled rows (column_count rows width))

sound_or : (cs others : List Column) → AreSound cs → AreSound others → AreSound (declared_or cs others)
sound_or [] others a b = b
sound_or (c ∷ cs) others a b = a

pub sound_columns_of : (plan : TablePlan) (rows : List HeaderRow) (width : Option ℕ) → IsReady plan → AreSound (columns_of plan rows width)
sound_columns_of plan rows width ready =
    sound_or plan.declared (header_columns plan rows width) ready.declared (sound_header plan rows width ready)

pub sound_at : (plan : TablePlan) (rows : List HeaderRow) (width : Option ℕ) (columns : List Column) → columns ≡ columns_of plan rows width → IsReady plan
    → AreSound columns
sound_at plan rows width columns e ready = subst AreSound (sym e) (sound_columns_of plan rows width ready)
