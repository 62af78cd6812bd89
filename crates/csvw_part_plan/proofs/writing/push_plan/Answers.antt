-- The heading was added, and then the lines; or a write of one of them is cut.
use Rattle.std.proofs.Common.{◌+◌, ◌++◌, List, ℕ, flat_map, get_or, drop, sym, subst, arith}
use Rattle.std.proofs.lemmas.Result.{err_from_is_err_and}
use Rattle.csvw_streams.specs.Counted.{inner_of, failures_of}
use Rattle.csvw_streams.specs.Lines.{SendsOn}
use Rattle.csvw_streams.specs.Streams.{IsCut, stream_of}
use Rattle.csvw_part_plan.specs.Plans.{heading, line}
use Rattle.csvw_part_plan.proofs.LastPiece.{no_piece}
use Rattle.csvw_part_plan.proofs.Sending.{cut_more, cut_then, plan_parts, sends_then, so_far, so_far_more}
use Rattle.csvw_part_plan.proofs.writing.push_plan.Goals as goal

pub returns-in_err-push_parts-clause-cut : goal.returns-in_err-push_parts-clause-cut
returns-in_err-push_parts-clause-cut g c =
    let p = err_from_is_err_and c.from_residual.result c.from_residual.ensures.1 in
    rw p.1
    (cut_more (stream_of g.W.Write.contents c.args.w.now c.push_parts.new.w) c.args.room.now.items heading (flat_map line c.args.pieces.now)
    c.in_err-push_parts.ensures.cut)

pub returns-in_err-push_piece-clause-cut : goal.returns-in_err-push_piece-clause-cut
returns-in_err-push_piece-clause-cut g c =
    let contents = g.W.Write.contents in
    let p = err_from_is_err_and c.from_residual-in_err-push_piece.result c.from_residual-in_err-push_piece.ensures.1 in
    let i = c.loop-piece.piece-index in
    let here = line (get_or c.args.pieces.now i no_piece) in
    let after = flat_map line (drop (i + 1) c.args.pieces.now) in
    let more = cut_more (stream_of contents c.loop-piece.w c.push_piece.new.w) c.loop-piece.room.items here after c.in_err-push_piece.ensures.cut in
    let s = stream_of contents c.args.w.now c.push_piece.new.w in
    rw p.1 (subst (λ t. IsCut s (c.args.room.now.items ++ t)) (sym (plan_parts c.args.pieces.now i no_piece (omega arith)))
    (cut_then (contents (inner_of c.args.w.now)) (contents (inner_of c.loop-piece.w)) (contents (inner_of c.push_piece.new.w)) (failures_of c.args.w.now)
    (failures_of c.loop-piece.w) (failures_of c.push_piece.new.w) c.args.room.now.items (so_far c.args.pieces.now i) c.loop-piece.room.items (here ++ after)
    c.loop-piece.invariant more))

pub loop-piece-preserved : goal.loop-piece-preserved
loop-piece-preserved g c =
    let contents = g.W.Write.contents in
    let i = c.loop-piece.piece-index in
    let here = line (get_or c.args.pieces.now i no_piece) in
    let P = λ (t : List ℕ). SendsOn (stream_of contents c.args.w.now c.push_piece.new.w) c.args.room.now.items t c.push_piece.new.room.items in
    subst P (sym (so_far_more c.args.pieces.now i no_piece (omega arith)))
    (sends_then (contents (inner_of c.args.w.now)) (contents (inner_of c.loop-piece.w)) (contents (inner_of c.push_piece.new.w)) (failures_of c.args.w.now)
    (failures_of c.loop-piece.w) (failures_of c.push_piece.new.w) c.args.room.now.items (so_far c.args.pieces.now i) c.loop-piece.room.items here
    c.push_piece.new.room.items c.loop-piece.invariant c.in_ok-push_piece.ensures.ok)
