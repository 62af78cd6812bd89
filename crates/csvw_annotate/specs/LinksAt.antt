-- The links of the cells of a row by their places.
use Rattle.std.specs.Prelude.{◌≡◌, ℕ, zero, suc, List}
use Rattle.std.specs.List.{slice_index_or}
use Rattle.csvw_template.specs.Variables.{Variables}
use Rattle.csvw_columns_core.specs.declared.column.Column.{Column}
use Rattle.csvw_columns_core.specs.declared.columns.Columns.{Columns}
use Rattle.csvw_annotate.specs.CellVariables.{variables}
use Rattle.csvw_annotate.specs.declared.links.Links.{Links}
use Rattle.csvw_annotate.specs.declared.links.Made.{Made}
use Rattle.csvw_annotate.specs.declared.numbers.RowNumbers.{RowNumbers}
use Rattle.csvw_annotate.specs.Links.{link_by, links_of, no_link}
use Rattle.csvw_annotate.specs.declared.row.AnnCell.{AnnCell}
use Rattle.csvw_annotate.specs.Linked.{values_of}

-- the variables of the cell of a column in a row of these cells
abbrev pub variables_of : Columns → RowNumbers → List AnnCell → Column → Variables
variables_of columns row cells column = variables row column columns.columns (values_of cells)

-- the about link of the column at this place
abbrev pub IsAboutAt : Columns → RowNumbers → List AnnCell → ℕ → Made → Type 0
IsAboutAt columns row cells place made =
    (column : Column) → column ≡ slice_index_or columns.columns place column
    → made ≡ link_by columns.url (variables_of columns row cells column) column.properties.about_url

-- the about link of the column before this place; no link if there is no such column
abbrev pub IsAboutBefore : Columns → RowNumbers → List AnnCell → ℕ → Made → Type 0
IsAboutBefore columns row cells zero made = made ≡ no_link
IsAboutBefore columns row cells (suc i) made = IsAboutAt columns row cells i made

-- the links of the cell at this place
abbrev pub AreLinksAt : Columns → RowNumbers → List AnnCell → ℕ → Links → Type 0
AreLinksAt columns row cells place links =
    (column : Column) (cell : AnnCell) → column ≡ slice_index_or columns.columns place column → cell ≡ slice_index_or cells place cell
    → links ≡ links_of columns.url (variables_of columns row cells column) column cell.value
