-- The exit statuses of the program.
use Rattle.std.specs.Prelude.{ℕ, if◌then◌else◌}
use Rattle.std.specs.List.{list_all}
use Rattle.csvw_report.specs.declared.outcome.Outcome.{Outcome}
use Rattle.csvw_report.specs.Order.{is_no_error}
use Rattle.csvw_engine_core.specs.declared.stop.Stop.{Stop}
use Rattle.csvw_engine_core.specs.declared.stop.Stop.TheVariants.{Memory, Read, Write, Meta, TableCount, Rows, Table, UnknownTable, AfterEnd, NotEnded, Failed}

-- 4 where memory or a device failed, else 3
abbrev pub stop_status : Stop → ℕ
stop_status Memory = 4
stop_status Read = 4
stop_status Write = 4
stop_status (Meta fault) = 3
stop_status TableCount = 3
stop_status (Rows table row stop) = 3
stop_status (Table table row stop) = 3
stop_status UnknownTable = 3
stop_status AfterEnd = 3
stop_status NotEnded = 3
stop_status Failed = 3

-- 0 where no fault is an error, else 1
abbrev pub outcome_status : Outcome → ℕ
outcome_status outcome = if list_all is_no_error outcome.faults then 0 else 1
