-- The report of a run, and the result after it was written.
use Rattle.std.specs.Prelude.{◌≡◌, ℕ, List, Result, Ok, Err}
use Rattle.csvw_streams.specs.Streams.{Stream, Sends, IsCut, IsIdle}
use Rattle.csvw_report.specs.Report.{report}
use Rattle.csvw_report.specs.Stops.{SendsFront}
use Rattle.csvw_report.specs.declared.outcome.Outcome.{Outcome}
use Rattle.csvw_engine_core.specs.declared.stop.Stop.{Stop}
use Rattle.csvw_engine_core.specs.declared.stop.Stop.TheVariants as stop

-- what was written of a report that stops, and the reason
abbrev pub StopsReport : Stream → List ℕ → Stop → Type 0
StopsReport s text stop.Memory = SendsFront s text
StopsReport s text stop.Write = IsCut s text
StopsReport s text other = ⊥

-- the report was written whole, or stops
abbrev pub TellsOutcome : Outcome → Stream → Result Outcome Stop → Type 0
TellsOutcome outcome s (Ok told) = (told ≡ outcome) × Sends s (report outcome.faults)
TellsOutcome outcome s (Err reason) = StopsReport s (report outcome.faults) reason

-- after a stop nothing is reported
abbrev pub Reports : Result Outcome Stop → Stream → Result Outcome Stop → Type 0
Reports (Ok outcome) s result = TellsOutcome outcome s result
Reports (Err reason) s result = (result ≡ Err reason) × IsIdle s
