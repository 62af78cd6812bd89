-- How faults of the lower crates become stops.
use Rattle.std.specs.Prelude.{◌≡◌, ℕ}
use Rattle.csvw_records.specs.declared.stop.RowStop.{RowStop}
use Rattle.csvw_records.specs.declared.stop.RowStop.TheVariants as row_stop
use Rattle.csvw_columns_core.specs.declared.table_stop.TableStop.{TableStop}
use Rattle.csvw_columns_core.specs.declared.table_stop.TableStop.TheVariants as table_stop
use Rattle.csvw_triples_core.specs.declared.sink.SinkFault.{SinkFault}
use Rattle.csvw_triples_core.specs.declared.sink.SinkFault.TheVariants as fault
use Rattle.csvw_engine_core.specs.declared.stop.Stop.{Stop}
use Rattle.csvw_engine_core.specs.declared.stop.Stop.TheVariants.{Memory, Write, Rows, Table}

-- Device and Closed become a failed write
abbrev pub of_fault : SinkFault → Stop
of_fault fault.Memory = Memory
of_fault fault.Device = Write
of_fault fault.Closed = Write

-- a stop of the records in a row of a table; Memory becomes Memory
abbrev pub of_row_stop : ℕ → ℕ → RowStop → Stop
of_row_stop table row row_stop.Memory = Memory
of_row_stop table row reason = Rows table row reason

-- a stop of a table from a row on
abbrev pub of_table_stop : ℕ → ℕ → TableStop → Stop
of_table_stop table row table_stop.Memory = Memory
of_table_stop table row reason = Table table row reason

-- a stop in the text of this table, or at the sink, or Memory
abbrev pub IsOf : ℕ → Stop → Type 0
IsOf t Memory = Unit {0}
IsOf t Write = Unit {0}
IsOf t (Rows table row reason) = table ≡ t
IsOf t (Table table row reason) = table ≡ t
IsOf t other = ⊥
