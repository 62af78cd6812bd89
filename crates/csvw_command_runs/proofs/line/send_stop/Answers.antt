-- What the room has of the line is sent.
use Rattle.std.proofs.Common.{rules, ◌≡◌, is_ok, subst, true}
use Rattle.csvw_streams.specs.Counted.{inner_of, failures_of}
use Rattle.csvw_streams.specs.Lines.{SendsOn}
use Rattle.csvw_streams.specs.Streams.{stream_of}
use Rattle.csvw_command_runs.specs.Answers.{ended_line}
use Rattle.csvw_command_runs.proofs.Sending.{of_ok, tells_line}
use Rattle.csvw_command_runs.proofs.line.send_stop.Goals as goal

pub returns-then-is_ok : goal.returns-then-is_ok
returns-then-is_ok g c =
    let contents = g.W.Write.contents in
    let ok : is_ok c.push_line.result ≡ true = search rules in
    let pushed = of_ok c.push_line.result _ ok c.push_line.ensures.ok in
    let one = subst (λ room. SendsOn (stream_of contents c.args.w.now c.push_line.new.w) room (ended_line c.args.stop.now) c.push_line.new.room.items)
    c.new-room.ensures pushed in
    let slice = c.as_slice.ensures.value in
    tells_line (contents (inner_of c.args.w.now)) (contents (inner_of c.push_line.new.w)) (contents (inner_of c.send.new.w)) (failures_of c.args.w.now)
    (failures_of c.push_line.new.w) (failures_of c.send.new.w) (ended_line c.args.stop.now) c.push_line.new.room.items c.send.result one
    (λ t. rw slice at c.send.ensures.sent t) (λ f. rw slice at c.send.ensures.cut f)
