-- The pieces of the part so far were read.
use Rattle.std.proofs.Common.{take}
use Rattle.csvw_parts.specs.Fronts.{opener_of}
use Rattle.csvw_parts.specs.Outlets.{outs}
use Rattle.csvw_parts.specs.PartRuns.{own_of}
use Rattle.csvw_parts.specs.PartSteps.{AddsPieces, reached}
use Rattle.csvw_parts.proofs.run.read_pieces.Given as goal

abbrev pub invariant-loop-piece : goal.invariant-loop-piece
invariant-loop-piece g l =
    AddsPieces (opener_of g.O.Opener.opens g.O.Opener.opens_at g.O.Opener.closes g.O.Reader.Read.remaining)
    (outs g.S.TripleSink.gains g.S.TripleSink.is_open g.S.TripleSink.failed g.W.Write.contents) l.request
    (own_of l.request.number (take l.piece-index l.request.pieces.now))
    (reached l.initial.opener l.initial.sink l.initial.state.book l.initial.state.records l.initial.state.faults)
    (reached l.opener l.sink l.state.book l.state.records l.state.faults)
