-- Cells whose text is their value: `is_plain`; and cells that are neither strings nor lists (Model for Tabular Data, section
-- 6.4).
use Rattle.std.specs.Prelude.{ℕ, Bool, true, false, ◌&&◌, not, List, is_some}
use Rattle.csvw_datatype.specs.Breaks.{has_lengths}
use Rattle.csvw_datatype.specs.Strings.{takes_any_text}
use Rattle.csvw_datatype.specs.declared.value.Value.TheVariants.{Text}
use Rattle.csvw_columns_core.specs.declared.properties.Properties.{Properties}
use Rattle.csvw_cell.specs.declared.cell.Item.{Item}
use Rattle.csvw_cell.specs.declared.cell.CellValue.{CellValue}
use Rattle.csvw_cell.specs.declared.cell.CellValue.TheVariants.{Null, One, Many}

-- a string of any length that no expression describes, in a column without a separator: the cell of a text that isn't null is that text
abbrev pub is_plain : Properties → Bool
is_plain p = takes_any_text p.datatype && not (is_some p.separator) && not (has_lengths p.datatype.facets)

abbrev pub text_item : List ℕ → Item
text_item text = record { value = Text text; was_read = true }

abbrev pub the_text : List ℕ → CellValue
the_text text = One (text_item text)

-- a single value
abbrev pub is_one : CellValue → Bool
is_one Null = false
is_one (One item) = true
is_one (Many items) = false
