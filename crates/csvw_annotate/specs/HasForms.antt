-- Rows whose values have lexical forms (XML Schema Part 2, section 3.3).
use Rattle.std.specs.Prelude.{List}
use Rattle.std.specs.List.{AllByRecursion}
use Rattle.csvw_cell.specs.HasForm.{HasForm}
use Rattle.csvw_annotate.specs.declared.row.AnnCell.{AnnCell}
use Rattle.csvw_annotate.specs.declared.row.Row.{Row}

abbrev pub CellsHaveForms : List AnnCell → Type 0
CellsHaveForms cells = AllByRecursion (λ cell. HasForm cell.value) cells

abbrev pub HasForms : Row → Type 0
HasForms row = CellsHaveForms row.cells
