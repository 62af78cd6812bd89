use Rattle.std.proofs.lemmas.Result.{err_from_is_err_and}
use Rattle.std.proofs.lemmas.List.{get_or_default}
use Rattle.csvw_template.proofs.Loop.{ends, goes_on}
use Rattle.csvw_template.proofs.read.all_opened.Goals as goal

pub returns-in_err-more : goal.returns-in_err-more
returns-in_err-more c =
    let p = err_from_is_err_and c.from_residual.result c.from_residual.ensures.1 in
    let ps = c.args.pieces.now in
    let i = c.loop-piece.piece-index in
    rw (p.1, p.2)
    (ends ps i _ c.loop-piece-test.true (get_or_default ps i _ _ c.loop-piece-test.true) c.loop-piece.parts.items _ c.loop-piece.invariant
    c.in_err-more.field-0.0 c.in_err-more.ensures)

pub loop-piece-preserved : goal.loop-piece-preserved
loop-piece-preserved c =
    let ps = c.args.pieces.now in
    let i = c.loop-piece.piece-index in
    rw c.in_ok-append.ensures.items
    (goes_on ps i _ c.loop-piece-test.true (get_or_default ps i _ _ c.loop-piece-test.true) c.loop-piece.parts.items _ c.loop-piece.invariant
    c.in_ok-more.more.items c.in_ok-more.ensures)
