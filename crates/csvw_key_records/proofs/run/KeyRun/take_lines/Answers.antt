-- A line more was taken, or the run stopped at it.
use Rattle.std.proofs.Common.{◌+◌, length, take}
use Rattle.csvw_key_records.proofs.Running.{is_line, line_parts, own_of_line, stops_more, takes_more}
use Rattle.csvw_key_records.proofs.run.KeyRun.take_lines.Goals as goal

pub returns-in-Err-clause-stop : goal.returns-in-Err-clause-stop
returns-in-Err-clause-stop g c =
    let parts = line_parts c.loop-body.rest.now c.in-Some.body.now c.in-Some.after.now c.in-Some.ensures.0 in
    stops_more g.W.Write.contents c.args.self.now c.loop-body.self c.args.out.now c.loop-body.out c.args.text.now c.loop-body.rest.now
    (take (length c.in-Some.body.now + 1) c.loop-body.rest.now) c.in-Some.after.now c.loop-body.invariant parts c.take_line.new.out c.in-Err.stop c.in-Err.ensures.own c.in-Err.ensures.stop

pub loop-body-preserved : goal.loop-body-preserved
loop-body-preserved g c =
    let parts = line_parts c.loop-body.rest.now c.in-Some.body.now c.in-Some.after.now c.in-Some.ensures.0 in
    takes_more g.W.Write.contents c.args.self.now c.loop-body.self c.args.out.now c.loop-body.out c.args.text.now c.loop-body.rest.now
    (take (length c.in-Some.body.now + 1) c.loop-body.rest.now) c.in-Some.after.now c.loop-body.invariant parts c.take_line.new.self c.take_line.new.out
    c.in_default-take_line.ensures.ok

pub returns-in-Err-clause-own : goal.returns-in-Err-clause-own
returns-in-Err-clause-own g c = own_of_line c.in-Err.stop c.in-Err.ensures.own

pub take_line-requires : goal.take_line-requires
take_line-requires g c = is_line c.loop-body.rest.now c.in-Some.body.now c.in-Some.after.now c.in-Some.ensures.0 c.in-Some.ensures.1
