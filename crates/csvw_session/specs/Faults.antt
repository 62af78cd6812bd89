-- The faults of the tables of a session.
use Rattle.std.specs.Prelude.{List, ◌++◌, flat_map}
use Rattle.csvw_fault.specs.declared.fault.Fault.{Fault}
use Rattle.csvw_engine_core.specs.Tables.{header_faults_of, faults_of}
use Rattle.csvw_engine_core.specs.declared.table.Table.{Table}

-- the faults of each table: those of its header, and then those of its cells
abbrev pub all_faults : List Table → List Fault
all_faults tables = flat_map (λ t. header_faults_of t ++ faults_of t) tables
