-- A piece of another part changes nothing.
use Rattle.std.proofs.Common.{refl}
use Rattle.std.proofs.lemmas.Result.{on_ok_weaker}
use Rattle.csvw_parts.specs.Fronts.{opener_of}
use Rattle.csvw_parts.specs.Outlets.{outs}
use Rattle.csvw_parts.specs.PartSteps.{reached}
use Rattle.csvw_parts.proofs.Chains.{adds_none, adds_own}
use Rattle.csvw_parts.proofs.run.add_own.Goals as goal

pub returns-then-piece-request : goal.returns-then-piece-request
returns-then-piece-request g c =
    let s = g.S.TripleSink in
    let o = g.O.Opener in
    let state = c.args.state.now in
    let start = reached c.args.opener.now c.args.sink.now state.book state.records state.faults in
    adds_none (opener_of o.opens o.opens_at o.closes g.O.Reader.Read.remaining) (outs s.gains s.is_open s.failed g.W.Write.contents) c.args.request
    c.args.request.number c.args.piece start start c.if-piece-request.true refl

pub returns : goal.returns
returns g c =
    let s = g.S.TripleSink in
    let o = g.O.Opener in
    let state = c.args.state.now in
    let new = c.add_piece.new in
    on_ok_weaker c.add_piece.result
    (λ a. adds_own (opener_of o.opens o.opens_at o.closes g.O.Reader.Read.remaining) (outs s.gains s.is_open s.failed g.W.Write.contents) c.args.request
    c.args.request.number c.args.piece (reached c.args.opener.now c.args.sink.now state.book state.records state.faults)
    (reached new.opener new.sink new.state.book new.state.records new.state.faults) c.if-piece-request.false a)
    c.add_piece.ensures
