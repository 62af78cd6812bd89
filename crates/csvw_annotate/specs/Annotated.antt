-- Annotated rows, with values, lists and codes: `IsRow` (Model for Tabular Data, sections 4.4, 4.5 and 6.4).
use Rattle.std.specs.Prelude.{◌≡◌, ℕ, List, [], ◌∷◌, length, None, Result, Ok, Err}
use Rattle.csvw_records.specs.RowValue.{Given}
use Rattle.csvw_columns_core.specs.Columns.{field_count}
use Rattle.csvw_columns_core.specs.declared.column.Column.{Column}
use Rattle.csvw_columns_core.specs.declared.columns.Columns.{Columns}
use Rattle.csvw_columns_core.specs.declared.table_stop.TableStop.{TableStop}
use Rattle.csvw_columns_core.specs.declared.table_stop.TableStop.TheVariants.{Memory, RaggedRow}
use Rattle.csvw_cell.specs.CellOf.{CellOf}
use Rattle.csvw_cell.specs.declared.cell.CellValue.TheVariants.{Null}
use Rattle.csvw_annotate.specs.declared.row.AnnCell.{AnnCell}
use Rattle.csvw_annotate.specs.declared.row.Row.{Row}
use Rattle.csvw_annotate.specs.Linked.{linked_cells}
use Rattle.csvw_annotate.specs.declared.numbers.RowNumbers.{RowNumbers}

abbrev pub null_cell : AnnCell
null_cell = record { value = Null; about = None; property = None; link = None; faults = [] }

-- the cell of a text in a column, without links
pub record IsCell (column : Column) (text : List ℕ) (cell : AnnCell) : Type 0 where
  pub says : CellOf column text (record { value = cell.value; faults = cell.faults })
  pub about : cell.about ≡ None
  pub property : cell.property ≡ None
  pub link : cell.link ≡ None

-- the cells of the columns, each of the next field; if no field is left, as for virtual columns, of the empty text
abbrev pub AreCells : List Column → List (List ℕ) → List AnnCell → Type 0
AreCells [] fields cells = cells ≡ []
AreCells (column ∷ columns) fields [] = ⊥
AreCells (column ∷ columns) [] (cell ∷ cells) = IsCell column [] cell × AreCells columns [] cells
AreCells (column ∷ columns) (field ∷ fields) (cell ∷ cells) = IsCell column field cell × AreCells columns fields cells

-- the row has one field for each column that isn't virtual
abbrev pub Fits : Columns → Given → Type 0
Fits columns raw = length raw.fields ≡ field_count columns.columns

abbrev pub numbers_of : Given → RowNumbers
numbers_of raw = record { number = raw.number; source = raw.source }

-- the annotated row of a row of the source: the cells of its fields, with their links
pub record IsRow (columns : Columns) (raw : Given) (row : Row) : Type 0 where
  pub fits : Fits columns raw
  pub number : row.number ≡ raw.number
  pub source : row.source ≡ raw.source
  pub unlinked : List AnnCell
  pub says : AreCells columns.columns raw.fields unlinked
  pub cells : row.cells ≡ linked_cells columns (numbers_of raw) unlinked

-- the answer is the annotated row, or a refusal if the row doesn't fit; of `Memory` nothing is said
abbrev pub Annotates : Columns → Given → Result Row TableStop → Type 0
Annotates columns raw (Ok row) = IsRow columns raw row
Annotates columns raw (Err RaggedRow) = Fits columns raw → ⊥
Annotates columns raw (Err Memory) = Unit {0}
Annotates columns raw (Err other) = ⊥
