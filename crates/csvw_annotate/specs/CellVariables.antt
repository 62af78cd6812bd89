-- The variables of a cell: the names that each cell has, and then the names of the columns with the cells of its row (Metadata Vocabulary for Tabular Data,
-- section 5.1.3).
use Rattle.std.specs.Prelude.{ℕ, List, [], ◌∷◌, ◌++◌, map}
use Rattle.csvw_datatype.specs.Lexical.{lexical_of}
use Rattle.csvw_template.specs.declared.vars.Var.{Var}
use Rattle.csvw_template.specs.declared.vars.Var.TheVariants as vars
use Rattle.csvw_template.specs.Variables.{Variables}
use Rattle.csvw_columns_core.specs.declared.column.Column.{Column}
use Rattle.csvw_cell.specs.declared.cell.Item.{Item}
use Rattle.csvw_cell.specs.declared.cell.CellValue.{CellValue}
use Rattle.csvw_cell.specs.declared.cell.CellValue.TheVariants.{Null, One, Many}
use Rattle.csvw_annotate.specs.declared.numbers.RowNumbers.{RowNumbers}
use Rattle.csvw_annotate.specs.Reserved.{reserved}

-- the lexical form of a value; a text that wasn't read as a value is its own form
abbrev pub item_text : Item → List ℕ
item_text item = lexical_of item.value

-- what a cell of this value stands for; null stands for nothing, and so does the empty list when it is expanded
abbrev pub variable : CellValue → Var
variable Null = vars.Undefined
variable (One item) = vars.One (item_text item)
variable (Many items) = vars.Many (map item_text items)

-- the names of columns, each with the value of its cell
abbrev pub named : List Column → List CellValue → Variables
named [] values = []
named (column ∷ columns) [] = []
named (column ∷ columns) (value ∷ values) = (column.name, variable value) ∷ named columns values

-- the variables of the cell in this column of a row of these values; the names that each cell has come before the names of columns
abbrev pub variables : RowNumbers → Column → List Column → List CellValue → Variables
variables row column columns values = reserved row column ++ named columns values
