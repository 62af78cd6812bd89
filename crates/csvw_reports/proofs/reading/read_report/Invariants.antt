-- So far the text is the heading and the lines of the faults that were read.
use Rattle.std.proofs.Common.{◌≡◌, ◌++◌, length, flat_map}
use Rattle.std.specs.List.{All}
use Rattle.csvw_report.specs.Report.{heading, line}
use Rattle.csvw_reports.specs.Reading.{Fits}
use Rattle.csvw_reports.proofs.reading.read_report.Given as goal

abbrev pub invariant-loop-rest : goal.invariant-loop-rest
invariant-loop-rest l = record {
  is_text : l.text ≡ heading ++ flat_map line l.faults ++ l.rest;
  fit : All Fits l.faults;
}

abbrev pub decreases-loop-rest : goal.decreases-loop-rest
decreases-loop-rest l = length l.rest
