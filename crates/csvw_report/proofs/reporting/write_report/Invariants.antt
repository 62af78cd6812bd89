-- So far the heading and the lines of the first faults were sent.
use Rattle.std.proofs.Common.{length, ◌-◌, ◌≤◌}
use Rattle.csvw_streams.specs.Streams.{stream_of, Sends}
use Rattle.csvw_report.proofs.Sending.{so_far}
use Rattle.csvw_report.proofs.reporting.write_report.Given as goal

abbrev pub invariant-loop-sent : goal.invariant-loop-sent
invariant-loop-sent g l = record {
  within : l.sent ≤ length l.faults;
  written : Sends (stream_of g.V.Write.contents l.fn.w l.w) (so_far l.faults l.sent);
}

abbrev pub decreases-loop-sent : goal.decreases-loop-sent
decreases-loop-sent g l = length l.faults - l.sent
