-- The line was added; then its end is, or a write is cut.
use Rattle.std.proofs.Common.{[], ◌∷◌}
use Rattle.std.proofs.lemmas.Result.{err_from_is_err_and}
use Rattle.csvw_streams.specs.Counted.{inner_of, failures_of}
use Rattle.csvw_streams.specs.Streams.{stream_of}
use Rattle.csvw_command_runs.specs.Lines.{line_of}
use Rattle.csvw_command_runs.proofs.Sending.{cut_more, last_cut, last_ok}
use Rattle.csvw_command_runs.proofs.line.push_line.Goals as goal

pub returns-in_err-push_stop-clause-cut : goal.returns-in_err-push_stop-clause-cut
returns-in_err-push_stop-clause-cut g c =
    let p = err_from_is_err_and c.from_residual.result c.from_residual.ensures.1 in
    rw p.1
    (cut_more (stream_of g.W.Write.contents c.args.w.now c.push_stop.new.w) c.args.room.now.items (line_of c.args.stop.now) (10 ∷ [])
    c.in_err-push_stop.ensures.cut)

pub returns-clause-ok : goal.returns-clause-ok
returns-clause-ok g c =
    let contents = g.W.Write.contents in
    last_ok c.push_parts.result (contents (inner_of c.args.w.now)) (contents (inner_of c.push_stop.new.w)) (contents (inner_of c.push_parts.new.w))
    (failures_of c.args.w.now) (failures_of c.push_stop.new.w) (failures_of c.push_parts.new.w) c.args.room.now.items (line_of c.args.stop.now)
    c.push_stop.new.room.items (10 ∷ []) c.push_parts.new.room.items c.in_ok-push_stop.ensures.ok c.push_parts.ensures.ok

pub returns-clause-cut : goal.returns-clause-cut
returns-clause-cut g c =
    let contents = g.W.Write.contents in
    last_cut c.push_parts.result (contents (inner_of c.args.w.now)) (contents (inner_of c.push_stop.new.w)) (contents (inner_of c.push_parts.new.w))
    (failures_of c.args.w.now) (failures_of c.push_stop.new.w) (failures_of c.push_parts.new.w) c.args.room.now.items (line_of c.args.stop.now)
    c.push_stop.new.room.items (10 ∷ []) c.push_parts.new.room.items c.in_ok-push_stop.ensures.ok c.push_parts.ensures.cut
