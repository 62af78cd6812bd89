-- The lines, without their ends, that report the stops of the program.
use Rattle.std.specs.Prelude.{ℕ, List, ◌++◌, codes}
use Rattle.std.specs.Fmt.{decimal}
use Rattle.csvw_engine_core.specs.declared.stop.Stop.{Stop}
use Rattle.csvw_engine_core.specs.declared.stop.Stop.TheVariants.{Memory, Read, Write, Meta, TableCount, Rows, Table, UnknownTable, AfterEnd, NotEnded, Failed}
use Rattle.csvw_meta_core.specs.declared.fault.MetaFault.{MetaFault}
use Rattle.csvw_meta_core.specs.MetaCodes as meta_codes
use Rattle.csvw_records.specs.StopNames as row_stops
use Rattle.csvw_columns_core.specs.TableStops as table_stops
use Rattle.csvw_streams.specs.Lines.{shown_text}

-- a name, and the table and row at which the stop is
abbrev pub line_at : List ℕ → ℕ → ℕ → List ℕ
line_at name table row = codes "csvw: " ++ name ++ codes " table " ++ decimal table ++ codes " row " ++ decimal row

-- the code of a fault of the document and its pointer, whose control characters are escaped
abbrev pub meta_line : MetaFault → List ℕ
meta_line fault = codes "csvw: metadata " ++ meta_codes.name_of fault.code ++ codes " " ++ shown_text fault.pointer

-- the line of a stop
abbrev pub line_of : Stop → List ℕ
line_of Memory = codes "csvw: Memory"
line_of Read = codes "csvw: Read"
line_of Write = codes "csvw: Write"
line_of (Meta fault) = meta_line fault
line_of TableCount = codes "csvw: TableCount"
line_of (Rows table row stop) = line_at (row_stops.name_of stop) table row
line_of (Table table row stop) = line_at (table_stops.name_of stop) table row
line_of UnknownTable = codes "csvw: UnknownTable"
line_of AfterEnd = codes "csvw: AfterEnd"
line_of NotEnded = codes "csvw: NotEnded"
line_of Failed = codes "csvw: Failed"
