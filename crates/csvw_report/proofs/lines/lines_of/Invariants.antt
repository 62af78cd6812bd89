-- So far the lines of the first faults were written.
use Rattle.std.proofs.Common.{◌≡◌, flat_map, take, Some}
use Rattle.csv.specs.Writing.{text_written}
use Rattle.csvw_report.specs.Report.{line}
use Rattle.csvw_report.specs.Records.{IsReady}
use Rattle.csvw_report.proofs.lines.lines_of.Given as goal

abbrev pub invariant-loop-fault : goal.invariant-loop-fault
invariant-loop-fault l = record {
  written : text_written (λ v. Some v.items) l.rows ≡ Some (flat_map line (take l.fault-index l.faults));
  ready : IsReady l.rows;
}
