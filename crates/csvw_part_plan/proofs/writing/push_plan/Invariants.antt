-- So far the heading and the lines of the first pieces were added.
use Rattle.csvw_streams.specs.Lines.{SendsOn}
use Rattle.csvw_streams.specs.Streams.{stream_of}
use Rattle.csvw_part_plan.proofs.Sending.{so_far}
use Rattle.csvw_part_plan.proofs.writing.push_plan.Given as goal

abbrev pub invariant-loop-piece : goal.invariant-loop-piece
invariant-loop-piece g l = SendsOn (stream_of g.W.Write.contents l.fn.w l.w) l.fn.room.items (so_far l.pieces l.piece-index) l.room.items
