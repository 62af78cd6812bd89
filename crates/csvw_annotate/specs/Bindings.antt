-- What the names in the templates of a table's columns are bound to: a text, or a place among the values of a row (Metadata Vocabulary for Tabular Data,
-- section 5.1.3).
use Rattle.std.specs.Prelude.{ℕ, suc, List, [], ◌∷◌, Option, Some, None, bytes_eq, codes, decimal, map, unwrap_or, if◌then◌else◌}
use Rattle.csvw_template.specs.declared.bound.Binding.{Binding}
use Rattle.csvw_template.specs.declared.bound.Binding.TheVariants.{Nothing, Constant, At}
use Rattle.csvw_template.specs.declared.vars.Var.{Var}
use Rattle.csvw_template.specs.declared.vars.Var.TheVariants.{One}
use Rattle.csvw_columns_core.specs.declared.column.Column.{Column}
use Rattle.csvw_cell.specs.declared.cell.CellValue.{CellValue}
use Rattle.csvw_annotate.specs.declared.numbers.RowNumbers.{RowNumbers}
use Rattle.csvw_annotate.specs.CellVariables.{variable}
use Rattle.csvw_annotate.specs.Reserved.{decoded}

-- the values of a row: its number, its number in the source, and what its cells stand for
abbrev pub row_values : RowNumbers → List CellValue → List Var
row_values row values = One (decimal row.number) ∷ One (decimal row.source) ∷ map variable values

abbrev pub source_binding : Option ℕ → Binding
source_binding None = Nothing
source_binding (Some number) = Constant (decimal number)

-- a name that each cell has, in a cell of this column
abbrev pub own_binding : Column → List ℕ → Option Binding
own_binding column name =
    if bytes_eq (codes "_row") name then Some (At 0)
    else (if bytes_eq (codes "_sourceRow") name then Some (At 1)
    else (if bytes_eq (codes "_column") name then Some (Constant (decimal column.number))
    else (if bytes_eq (codes "_sourceColumn") name then Some (source_binding column.source_number)
    else (if bytes_eq (codes "_name") name then Some (Constant (decoded column.name)) else None))))

-- the binding of the name of one of these columns, whose values are at the places from this one on
abbrev pub column_binding : ℕ → List Column → List ℕ → Binding
column_binding place [] name = Nothing
column_binding place (column ∷ columns) name = if bytes_eq column.name name then At place else column_binding (suc place) columns name

-- the names that each cell has come before the names of columns
abbrev pub name_binding : Column → List Column → List ℕ → Binding
name_binding column columns name = unwrap_or (own_binding column name) (column_binding 2 columns name)
