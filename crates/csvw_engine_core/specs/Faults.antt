-- The faults of the cells of rows, each with its place (Model for Tabular Data, section 6.6).
use Rattle.std.specs.Prelude.{ℕ, List, [], map, flat_map, Option, Some, None}
use Rattle.std.specs.List.{zip}
use Rattle.csvw_fault.specs.declared.fault.Code.{Code}
use Rattle.csvw_fault.specs.declared.fault.Fault.{Fault}
use Rattle.csvw_fault.specs.declared.fault.Place.{Place}
use Rattle.csvw_fault.specs.declared.fault.Kind.TheVariants.{Error}
use Rattle.csvw_columns_core.specs.declared.column.Column.{Column}
use Rattle.csvw_columns_core.specs.declared.columns.Columns.{Columns}
use Rattle.csvw_annotate.specs.declared.row.Row.{Row}

-- each code of a cell is an error at its place
abbrev pub cell_faults : Place → List Code → List Fault
cell_faults place codes = map (λ code. record { kind = Error; code = code; place = place }) codes

abbrev pub place_of : ℕ → Row → Column → Place
place_of table row column = record { table = table; row = row.source; column = column.number }

-- the faults of a row of a table with these columns
abbrev pub row_faults : ℕ → List Column → Row → List Fault
row_faults table columns row = flat_map (λ p. cell_faults (place_of table row p.0) p.1.faults) (zip columns row.cells)

-- the faults of all rows so far; without columns there are none
abbrev pub table_faults : ℕ → Option Columns → List Row → List Fault
table_faults table None rows = []
table_faults table (Some columns) rows = flat_map (row_faults table columns.columns) rows
