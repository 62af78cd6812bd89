-- What the room has of the plan is sent, or the write is cut.
use Rattle.std.proofs.Common.{List, ℕ, subst}
use Rattle.csvw_streams.specs.Counted.{inner_of, failures_of}
use Rattle.csvw_streams.specs.Lines.{SendsOn}
use Rattle.csvw_streams.specs.Streams.{stream_of}
use Rattle.csvw_part_plan.specs.Plans.{plan_text}
use Rattle.csvw_part_plan.proofs.Sending.{cut_write, room_cut, room_sent}
use Rattle.csvw_part_plan.proofs.writing.write_plan.Goals as goal

pub returns-in-Ok-clause-ok : goal.returns-in-Ok-clause-ok
returns-in-Ok-clause-ok g c =
    let contents = g.W.Write.contents in
    let P = λ (room : List ℕ). SendsOn (stream_of contents c.args.w.now c.push_plan.new.w) room (plan_text c.args.pieces.now) c.push_plan.new.room.items in
    let one = subst P c.new-room.ensures c.in_ok-push_plan.ensures.ok in
    let sent = rw c.as_slice.ensures.value at c.in-Ok.ensures.ok in
    room_sent (contents (inner_of c.args.w.now)) (contents (inner_of c.push_plan.new.w)) (contents (inner_of c.write_out.new.w)) (failures_of c.args.w.now)
    (failures_of c.push_plan.new.w) (failures_of c.write_out.new.w) (plan_text c.args.pieces.now) c.push_plan.new.room.items one (sent, c.in-Ok.ensures.ok_count)

pub returns-in-Err-clause-cut : goal.returns-in-Err-clause-cut
returns-in-Err-clause-cut g c =
    let contents = g.W.Write.contents in
    let P = λ (room : List ℕ). SendsOn (stream_of contents c.args.w.now c.push_plan.new.w) room (plan_text c.args.pieces.now) c.push_plan.new.room.items in
    let one = subst P c.new-room.ensures c.in_ok-push_plan.ensures.ok in
    let front = rw c.as_slice.ensures.value at c.in-Err.ensures.cut in
    let cut = cut_write (contents (inner_of c.push_plan.new.w)) (contents (inner_of c.write_out.new.w)) (failures_of c.push_plan.new.w)
    (failures_of c.write_out.new.w) c.push_plan.new.room.items c.in-Err.field-0.sent front c.in-Err.ensures.cut_count in
    room_cut (contents (inner_of c.args.w.now)) (contents (inner_of c.push_plan.new.w)) (contents (inner_of c.write_out.new.w)) (failures_of c.args.w.now)
    (failures_of c.push_plan.new.w) (failures_of c.write_out.new.w) (plan_text c.args.pieces.now) c.push_plan.new.room.items one cut
