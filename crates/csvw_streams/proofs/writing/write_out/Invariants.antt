-- So far the front of the bytes was sent, and nothing failed.
use Rattle.std.proofs.Common.{◌≡◌, ◌≤◌, ◌-◌, take, length}
use Rattle.std.specs.Io.KnownBytes.{Appends}
use Rattle.csvw_streams.specs.Counted.{inner_of, failures_of}
use Rattle.csvw_streams.proofs.writing.write_out.Given as goal

abbrev pub invariant-loop-sent : goal.invariant-loop-sent
invariant-loop-sent g l = record {
  within : l.sent ≤ length l.bytes;
  out : Appends (g.W.Write.contents (inner_of l.initial.w)) (g.W.Write.contents (inner_of l.w)) (take l.sent l.bytes);
  no_failure : failures_of l.w ≡ failures_of l.initial.w;
}

abbrev pub decreases-loop-sent : goal.decreases-loop-sent
decreases-loop-sent g l = length l.bytes - l.sent
