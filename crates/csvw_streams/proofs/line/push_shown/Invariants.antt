-- The characters so far were added, or a write was cut.
use Rattle.std.proofs.Common.{◌++◌, OnErr, OnOk, flat_map}
use Rattle.csvw_streams.specs.Lines.{SendsOn, shown}
use Rattle.csvw_streams.specs.Streams.{IsCut, stream_of}
use Rattle.csvw_streams.proofs.line.push_shown.Given as goal

abbrev pub invariant-loop-c : goal.invariant-loop-c
invariant-loop-c g l = record {
  ok : OnOk l.pushed (SendsOn (stream_of g.W.Write.contents l.initial.w l.w) l.initial.room.items (flat_map shown l.yielded) l.room.items);
  cut : OnErr l.pushed (IsCut (stream_of g.W.Write.contents l.initial.w l.w) (l.initial.room.items ++ flat_map shown l.yielded));
}
