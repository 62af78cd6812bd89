-- The lines of faults can be read in one way.
use Rattle.csvw_reports.proofs.NoReports.{no_report}
use Rattle.csvw_reports.proofs.laws.refused_is_no_report.Goals as goal

pub returns : goal.returns
returns c = no_report
