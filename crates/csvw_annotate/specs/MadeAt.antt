-- The links of the columns of a table, by the places of the columns.
use Rattle.std.specs.Prelude.{◌≡◌, ℕ, zero, suc, ◌||◌, List, if◌then◌else◌}
use Rattle.std.specs.List.{slice_index_or}
use Rattle.csvw_template.specs.declared.vars.Var.{Var}
use Rattle.csvw_columns_core.specs.declared.column.Column.{Column}
use Rattle.csvw_columns_core.specs.declared.columns.Columns.{Columns}
use Rattle.csvw_cell.specs.declared.cell.CellValue.{CellValue}
use Rattle.csvw_annotate.specs.declared.bound_link.AboutLink.{AboutLink}
use Rattle.csvw_annotate.specs.declared.bound_link.AboutLink.TheVariants.{AsBefore, Own}
use Rattle.csvw_annotate.specs.declared.bound_link.Which.{Which}
use Rattle.csvw_annotate.specs.declared.bound_link.Which.TheVariants.{About, Value}
use Rattle.csvw_annotate.specs.declared.links.Made.{Made}
use Rattle.csvw_annotate.specs.BoundLinks.{link_in, link_of_column}
use Rattle.csvw_annotate.specs.Links.{has_value, no_link}

-- the column at this place
abbrev pub IsColumnAt : Columns → ℕ → Column → Type 0
IsColumnAt columns place column = column ≡ slice_index_or columns.columns place column

-- the about link of the column at this place: its own, or that of the column before it
abbrev pub IsAboutLink : Columns → AboutLink → ℕ → Type 0
IsAboutLink columns (Own link) place = (column : Column) → IsColumnAt columns place column → link ≡ link_of_column About columns column
IsAboutLink columns AsBefore zero = ⊥
IsAboutLink columns AsBefore (suc i) =
    (one other : Column) → IsColumnAt columns i one → IsColumnAt columns (suc i) other → link_of_column About columns one ≡ link_of_column About columns other

-- a link of the column at this place, in a row of these values
abbrev pub IsMadeAt : Which → Columns → List Var → ℕ → Made → Type 0
IsMadeAt which columns values place made =
    (column : Column) → IsColumnAt columns place column → made ≡ link_in columns.url values (link_of_column which columns column)

-- the about link of the column before this place; no link if there is no such column
abbrev pub IsMadeBefore : Columns → List Var → ℕ → Made → Type 0
IsMadeBefore columns values zero made = made ≡ no_link
IsMadeBefore columns values (suc i) made = IsMadeAt About columns values i made

-- the value link of a cell of this value in the column at this place; a cell without a value has none, unless its column is virtual
abbrev pub IsValueAt : Columns → List Var → ℕ → CellValue → Made → Type 0
IsValueAt columns values place value made =
    (column : Column) → IsColumnAt columns place column
    → made ≡ (if column.is_virtual || has_value value then link_in columns.url values (link_of_column Value columns column) else no_link)
