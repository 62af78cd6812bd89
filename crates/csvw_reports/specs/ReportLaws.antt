-- Laws of the definitions of this crate.
use Rattle.std.specs.Prelude.{◌≡◌, ℕ, List}
use Rattle.std.specs.List.{All}
use Rattle.csvw_fault.specs.declared.fault.Fault.{Fault}
use Rattle.csvw_report.specs.Report.{report}
use Rattle.csvw_reports.specs.Reading.{Fits}
use Rattle.csvw_reports.specs.Refusals.{IsWrongAt}

-- a text that is refused is the report of no faults
abbrev pub NoReport : Type 0
NoReport = (text : List ℕ) (at : ℕ) (faults : List Fault) → IsWrongAt text at → All Fits faults → text ≡ report faults → ⊥
