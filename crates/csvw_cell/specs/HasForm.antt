-- Values of cells that have lexical forms (XML Schema Part 2, section 3.3): numbers that a text can spell, and days and moments of
-- the years 0001 to 9999.
use Rattle.std.specs.Prelude.{List}
use Rattle.std.specs.List.{AllByRecursion}
use Rattle.csvw_datatype.specs.Lexical.{IsWritable}
use Rattle.csvw_cell.specs.declared.cell.Item.{Item}
use Rattle.csvw_cell.specs.declared.cell.CellValue.{CellValue}
use Rattle.csvw_cell.specs.declared.cell.CellValue.TheVariants.{Null, One, Many}

-- the values of all items have lexical forms
abbrev pub HaveForms : List Item → Type 0
HaveForms items = AllByRecursion (λ item. IsWritable item.value) items

-- the value of a cell has a lexical form, or the values of its items have
abbrev pub HasForm : CellValue → Type 0
HasForm Null = Unit {0}
HasForm (One item) = IsWritable item.value
HasForm (Many items) = HaveForms items
