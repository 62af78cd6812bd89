-- The cells of a row with their links: `linked_cells` (Model for Tabular Data, sections 4.4 and 4.5).
use Rattle.std.specs.Prelude.{◌≡◌, List, [], ◌∷◌, ◌++◌, map, None}
use Rattle.std.specs.List.{AllByRecursion}
use Rattle.url.specs.Parts.{Parts}
use Rattle.csvw_template.specs.Variables.{Variables}
use Rattle.csvw_columns_core.specs.declared.column.Column.{Column}
use Rattle.csvw_columns_core.specs.declared.columns.Columns.{Columns}
use Rattle.csvw_cell.specs.declared.cell.CellValue.{CellValue}
use Rattle.csvw_annotate.specs.declared.links.Links.{Links}
use Rattle.csvw_annotate.specs.declared.numbers.RowNumbers.{RowNumbers}
use Rattle.csvw_annotate.specs.CellVariables.{variables}
use Rattle.csvw_annotate.specs.Links.{links_of, codes_of}
use Rattle.csvw_annotate.specs.declared.row.AnnCell.{AnnCell}

-- a cell without links
abbrev pub IsPlain : AnnCell → Type 0
IsPlain cell = (cell.about ≡ None) × (cell.property ≡ None) × (cell.link ≡ None)

abbrev pub ArePlain : List AnnCell → Type 0
ArePlain cells = AllByRecursion IsPlain cells

abbrev pub values_of : List AnnCell → List CellValue
values_of cells = map (λ cell. cell.value) cells

-- A cell with these links. The codes of what is wrong with them come after its own codes, which are earlier in the order.
abbrev pub with_links : AnnCell → Links → AnnCell
with_links cell links = record {
  value = cell.value;
  about = links.about;
  property = links.property;
  link = links.value;
  faults = cell.faults ++ codes_of links;
}

-- a cell with its links, in a table of this URL, under these variables
abbrev pub linked : Parts → Variables → Column → AnnCell → AnnCell
linked base vars column cell = with_links cell (links_of base vars column cell.value)

-- each cell with its column, changed so
abbrev pub each_linked : (Column → AnnCell → AnnCell) → List Column → List AnnCell → List AnnCell
each_linked link [] cells = []
each_linked link (column ∷ columns) [] = []
each_linked link (column ∷ columns) (cell ∷ cells) = link column cell ∷ each_linked link columns cells

-- a cell with its links, in a row of these values
abbrev pub linked_in : Columns → RowNumbers → List CellValue → Column → AnnCell → AnnCell
linked_in columns row values column cell = linked columns.url (variables row column columns.columns values) column cell

-- the cells of a row with their links
abbrev pub linked_cells : Columns → RowNumbers → List AnnCell → List AnnCell
linked_cells columns row cells = each_linked (linked_in columns row (values_of cells)) columns.columns cells
