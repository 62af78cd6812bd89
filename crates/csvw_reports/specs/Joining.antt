-- Reports that are joined: `AddsReport`, `Keeps`.
use Rattle.std.specs.Prelude.{◌≡◌, ℕ, List, ◌++◌}
use Rattle.csvw_fault.specs.declared.fault.Fault.{Fault}
use Rattle.csvw_report.specs.Report.{report}
use Rattle.csvw_reports.specs.Refusals.{IsRefused}
use Rattle.csvw_reports.specs.declared.fault.ReportFault.{ReportFault}

-- the faults of a report were added to some faults
pub record AddsReport (text : List ℕ) (old new : List Fault) : Type 0 where
  pub added : List Fault
  pub is_text : text ≡ report added
  pub adds : new ≡ old ++ added

-- the text was refused, and nothing was added
pub record Keeps (text : List ℕ) (old new : List Fault) (fault : ReportFault) : Type 0 where
  pub refused : IsRefused text fault
  pub same : new ≡ old
