-- One text more is added, or a write is cut.
use Rattle.std.proofs.Common.{◌<◌, arith, length}
use Rattle.std.proofs.lemmas.Result.{err_from_is_err_and}
use Rattle.csvw_streams.specs.Counted.{inner_of, failures_of}
use Rattle.csvw_streams.proofs.PartsLemmas.{parts_cut, parts_more}
use Rattle.csvw_streams.proofs.line.push_parts.Goals as goal

pub returns-in_err-push-clause-cut : goal.returns-in_err-push-clause-cut
returns-in_err-push-clause-cut g c =
    let contents = g.W.Write.contents in
    let p = err_from_is_err_and c.from_residual.result c.from_residual.ensures.1 in
    let below : c.loop-part.part-index < length c.args.parts.now = (let test = c.loop-part-test.true in omega (arith, test)) in
    rw p.1
    (parts_cut (λ part. part.now) c.args.parts.now c.loop-part.part-index _ below c.as_bytes.result.now c.as_bytes.ensures.value
    (contents (inner_of c.args.w.now)) (contents (inner_of c.loop-part.w)) (contents (inner_of c.push.new.w)) (failures_of c.args.w.now)
    (failures_of c.loop-part.w) (failures_of c.push.new.w) c.args.room.now.items c.loop-part.room.items c.loop-part.invariant c.in_err-push.ensures.cut)

pub loop-part-preserved : goal.loop-part-preserved
loop-part-preserved g c =
    let contents = g.W.Write.contents in
    let below : c.loop-part.part-index < length c.args.parts.now = (let test = c.loop-part-test.true in omega (arith, test)) in
    parts_more (λ part. part.now) c.args.parts.now c.loop-part.part-index _ below c.as_bytes.result.now c.as_bytes.ensures.value
    (contents (inner_of c.args.w.now)) (contents (inner_of c.loop-part.w)) (contents (inner_of c.push.new.w)) (failures_of c.args.w.now)
    (failures_of c.loop-part.w) (failures_of c.push.new.w) c.args.room.now.items c.loop-part.room.items c.loop-part.invariant c.push.new.room.items
    c.in_ok-push.ensures.ok
