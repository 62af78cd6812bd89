-- The bytes are kept, or what was kept is sent and then the bytes, or one of these is cut.
use Rattle.std.proofs.Common.{rules, ◌≡◌}
use Rattle.std.proofs.lemmas.Result.{err_from_is_err_and}
use Rattle.csvw_streams.specs.Counted.{inner_of, failures_of}
use Rattle.csvw_streams.specs.Streams.{stream_of}
use Rattle.csvw_streams.proofs.PartsLemmas.{cut_first, push_cut, push_ok}
use Rattle.csvw_streams.proofs.line.push.Goals as goal

pub returns-in_err-send-in-Err-clause-cut : goal.returns-in_err-send-in-Err-clause-cut
returns-in_err-send-in-Err-clause-cut g c =
    let p = err_from_is_err_and c.from_residual.result c.from_residual.ensures.1 in
    let room : c.as_slice.result.now ≡ c.args.room.now.items = search rules in
    let first = rw room at c.in_err-send-in-Err.ensures.cut in
    rw p.1 (cut_first (stream_of g.W.Write.contents c.args.w.now c.send.new.w) c.args.room.now.items c.args.bytes.now first)

pub returns-in_ok-send-in-Err-clause-ok : goal.returns-in_ok-send-in-Err-clause-ok
returns-in_ok-send-in-Err-clause-ok g c =
    let contents = g.W.Write.contents in
    let room : c.as_slice.result.now ≡ c.args.room.now.items = search rules in
    let first = rw room at c.in_ok-send-in-Err.ensures.ok in
    push_ok c.send-in-Err.result (contents (inner_of c.args.w.now)) (contents (inner_of c.send.new.w)) (contents (inner_of c.send-in-Err.new.w))
    (failures_of c.args.w.now) (failures_of c.send.new.w) (failures_of c.send-in-Err.new.w) c.args.room.now.items c.args.bytes.now first
    c.clear.new.self.items c.send-in-Err.ensures.ok c.clear.ensures

pub returns-in_ok-send-in-Err-clause-cut : goal.returns-in_ok-send-in-Err-clause-cut
returns-in_ok-send-in-Err-clause-cut g c =
    let contents = g.W.Write.contents in
    let room : c.as_slice.result.now ≡ c.args.room.now.items = search rules in
    let first = rw room at c.in_ok-send-in-Err.ensures.ok in
    push_cut c.send-in-Err.result (contents (inner_of c.args.w.now)) (contents (inner_of c.send.new.w)) (contents (inner_of c.send-in-Err.new.w))
    (failures_of c.args.w.now) (failures_of c.send.new.w) (failures_of c.send-in-Err.new.w) c.args.room.now.items c.args.bytes.now first
    c.send-in-Err.ensures.cut
