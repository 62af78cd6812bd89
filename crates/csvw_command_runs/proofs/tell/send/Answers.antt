-- A write that was cut.
use Rattle.csvw_streams.specs.Counted.{inner_of, failures_of}
use Rattle.csvw_command_runs.proofs.Sending.{cut_write}
use Rattle.csvw_command_runs.proofs.tell.send.Goals as goal

pub returns-in_default-clause-cut : goal.returns-in_default-clause-cut
returns-in_default-clause-cut g c =
    let contents = g.W.Write.contents in
    λ failed. cut_write (contents (inner_of c.args.w.now)) (contents (inner_of c.write_out.new.w)) (failures_of c.args.w.now)
    (failures_of c.write_out.new.w) c.args.bytes.now c.in_default.field-0.sent
    c.in_default.ensures.cut c.in_default.ensures.cut_count
