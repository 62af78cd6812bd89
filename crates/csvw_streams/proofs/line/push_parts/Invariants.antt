-- The texts so far were added.
use Rattle.std.proofs.Common.{map, take}
use Rattle.std.specs.List.{concat}
use Rattle.csvw_streams.specs.Lines.{SendsOn}
use Rattle.csvw_streams.specs.Streams.{stream_of}
use Rattle.csvw_streams.proofs.line.push_parts.Given as goal

abbrev pub invariant-loop-part : goal.invariant-loop-part
invariant-loop-part g l =
    SendsOn (stream_of g.W.Write.contents l.initial.w l.w) l.initial.room.items (concat (map (λ part. part.now) (take l.part-index l.parts))) l.room.items
