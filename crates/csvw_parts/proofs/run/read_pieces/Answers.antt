-- One piece more.
use Rattle.std.proofs.Common.{List, refl, subst, sym, take}
use Rattle.csvw_part_plan.specs.declared.piece.Piece.{Piece}
use Rattle.csvw_parts.specs.Fronts.{opener_of}
use Rattle.csvw_parts.specs.Outlets.{outs}
use Rattle.csvw_parts.specs.PartRuns.{own_of}
use Rattle.csvw_parts.specs.PartSteps.{AddsPieces, reached}
use Rattle.csvw_parts.proofs.Chains.{adds_join, own_more}
use Rattle.csvw_parts.proofs.run.read_pieces.Goals as goal

pub loop-piece-init : goal.loop-piece-init
loop-piece-init g c = refl

pub loop-piece-preserved : goal.loop-piece-preserved
loop-piece-preserved g c =
    let s = g.S.TripleSink in
    let o = g.O.Opener in
    let opener = opener_of o.opens o.opens_at o.closes g.O.Reader.Read.remaining in
    let out = outs s.gains s.is_open s.failed g.W.Write.contents in
    let request = c.args.request in
    let n = c.loop-piece.piece-index in
    let first = c.args.state.now in
    let old = c.loop-piece.state in
    let new = c.add_own.new in
    let items = request.pieces.now in
    subst
    (λ (l : List Piece). AddsPieces opener out request l (reached c.args.opener.now c.args.sink.now first.book first.records first.faults)
    (reached new.opener new.sink new.state.book new.state.records new.state.faults))
    (sym (own_more request.number items n _ c.loop-piece-test.true))
    (adds_join opener out request (own_of request.number (take n items)) _
    (reached c.args.opener.now c.args.sink.now first.book first.records first.faults)
    (reached c.loop-piece.opener c.loop-piece.sink old.book old.records old.faults)
    (reached new.opener new.sink new.state.book new.state.records new.state.faults) c.loop-piece.invariant c.in_ok-add_own.ensures)
