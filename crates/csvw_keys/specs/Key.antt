-- The key cells of a row (Metadata Vocabulary for Tabular Data, section 5.5; Model for Tabular Data, section 4.4).
use Rattle.std.specs.Prelude.{ℕ, ◌-◌, nat_eq, List, Bool, true, false, Option, Some, None, map, slice_get, if◌then◌else◌}
use Rattle.std.specs.List.{list_all}
use Rattle.csvw_annotate.specs.declared.row.AnnCell.{AnnCell}
use Rattle.csvw_annotate.specs.declared.row.Row.{Row}
use Rattle.csvw_cell.specs.declared.cell.CellValue.{CellValue}
use Rattle.csvw_cell.specs.declared.cell.CellValue.TheVariants as cell
use Rattle.csvw_cell.specs.declared.cell.Item.{Item}
use Rattle.csvw_datatype.specs.declared.value.Value.{Value}
use Rattle.csvw_keys.specs.declared.key.KeyCell.{KeyCell}
use Rattle.csvw_keys.specs.declared.key.KeyCell.TheVariants.{Null, One, Many}

abbrev pub values_of : List Item → List Value
values_of items = map (λ i. i.value) items

-- what is compared of a cell
abbrev pub key_cell : CellValue → KeyCell
key_cell cell.Null = Null
key_cell (cell.One item) = One item.value
key_cell (cell.Many items) = Many (values_of items)

abbrev pub key_cell_or_null : Option AnnCell → KeyCell
key_cell_or_null None = Null
key_cell_or_null (Some c) = key_cell c.value

-- what is compared of the cell of a column, from 1; it is null if there is no such column
abbrev pub key_cell_at : Row → ℕ → KeyCell
key_cell_at row column = if nat_eq column 0 then Null else key_cell_or_null (slice_get row.cells (column - 1))

-- what is compared of the cells of these columns, in order
abbrev pub key_of : List ℕ → Row → List KeyCell
key_of columns row = map (key_cell_at row) columns

abbrev pub is_null : KeyCell → Bool
is_null Null = true
is_null (One value) = false
is_null (Many values) = false

-- each cell is null
abbrev pub is_null_key : List KeyCell → Bool
is_null_key key = list_all is_null key
