-- The graph of a row and of all rows of a table, in standard mode: `StandardRow`, `StandardRows` (csv2rdf, section 4.2).
use Rattle.std.specs.Prelude.{ℕ, ◌≡◌, ◌⊎◌, true, false, List, Contains, Option, Some, None}
use Rattle.csvw_columns_core.specs.declared.column.Column.{Column}
use Rattle.csvw_columns_core.specs.declared.columns.Columns.{Columns}
use Rattle.csvw_cell.specs.declared.cell.Item.{Item}
use Rattle.csvw_cell.specs.declared.cell.CellValue.{CellValue}
use Rattle.csvw_cell.specs.declared.cell.CellValue.TheVariants.{Null, One, Many}
use Rattle.csvw_annotate.specs.declared.row.AnnCell.{AnnCell}
use Rattle.csvw_annotate.specs.declared.row.Row.{Row}
use Rattle.csvw_triples_core.specs.declared.term.Triple.{Triple}
use Rattle.csvw_triples_rows.specs.Graph.{IsCell, MinimalRow}
use Rattle.csvw_triples_rows.specs.RowTriples.{subject_of}
use Rattle.csvw_triples_rows.specs.RowTitles.{title_triple}
use Rattle.csvw_triples_rows.specs.StandardTriples.{member_triple, class_triple, number_triple, url_triple, describes_triple}

-- the row describes the subject of a cell, null or not, whose column is not suppressed
abbrev pub IsDescribes : ℕ → Columns → Row → Triple → Type 0
IsDescribes t columns row x =
    (column : Column) × (cell : AnnCell) × IsCell columns row column cell × (column.suppressed ≡ false)
    × (x ≡ describes_triple t row.number (subject_of t row.number cell))

-- an item of a value; null has none
abbrev pub IsItemOf : CellValue → Item → Type 0
IsItemOf Null item = ⊥
IsItemOf (One only) item = item ≡ only
IsItemOf (Many items) item = Contains items item

-- the row has a title: an item of a cell in a column of row titles, suppressed or not, whatever the cell's value link is
abbrev pub IsTitle : ℕ → Columns → Row → Triple → Type 0
IsTitle t columns row x =
    (column : Column) × (cell : AnnCell) × IsCell columns row column cell × (column.is_row_title ≡ true)
    × (item : Item) × IsItemOf cell.value item × (x ≡ title_triple t row.number column item)

-- the triples about a row itself: that its table has it, its class, its number, its place in its source, its titles, and the subjects
-- that it describes
abbrev pub IsOfRow : ℕ → Columns → Row → Triple → Type 0
IsOfRow t columns row x =
    (x ≡ member_triple t columns row.number) ⊎ ((x ≡ class_triple t row.number) ⊎ ((x ≡ number_triple t row.number)
    ⊎ ((x ≡ url_triple t columns row) ⊎ (IsTitle t columns row x ⊎ IsDescribes t columns row x))))

-- the triples of a row of table t: those of minimal mode and, unless the table is suppressed, those about the row
abbrev pub StandardRow : ℕ → Columns → Row → Triple → Type 0
StandardRow t columns row x = MinimalRow t columns row x ⊎ ((columns.suppressed ≡ false) × IsOfRow t columns row x)

-- the triples of the rows of table t; a table without columns has none
abbrev pub StandardRows : ℕ → Option Columns → List Row → Triple → Type 0
StandardRows t None rows x = ⊥
StandardRows t (Some columns) rows x = (row : Row) × Contains rows row × StandardRow t columns row x
