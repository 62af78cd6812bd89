-- What was sent grows by the lines of some faults.
use Rattle.std.proofs.Common.{◌≤◌, arith, refl, flat_map}
use Rattle.std.proofs.lemmas.Result.{err_from_is_err_and}
use Rattle.csvw_report.specs.Report.{heading, line, report}
use Rattle.csvw_report.proofs.Sending.{all_sent, sends_between, stops_between, stops_longer}
use Rattle.csvw_report.proofs.reporting.write_report.Goals as goal

pub returns-in_err-send-clause-stop : goal.returns-in_err-send-clause-stop
returns-in_err-send-clause-stop g c =
    let p = err_from_is_err_and c.from_residual.result c.from_residual.ensures.1 in
    rw (p.1, p.2) (stops_longer _ heading (flat_map line c.args.faults.now) (report c.args.faults.now) _ refl c.in_err-send.ensures.stop)

pub returns-in_err-send_lines-clause-stop : goal.returns-in_err-send_lines-clause-stop
returns-in_err-send_lines-clause-stop g c =
    let p = err_from_is_err_and c.from_residual-in_err-send_lines.result c.from_residual-in_err-send_lines.ensures.1 in
    rw (p.1, p.2)
    (stops_between g.V.Write.contents c.args.w.now c.loop-sent.w c.send_lines.new.w c.args.faults.now c.loop-sent.sent c.min-end.result (omega arith) _
    c.loop-sent.invariant.written c.in_err-send_lines.ensures.stop)

pub loop-sent-preserved : goal.loop-sent-preserved
loop-sent-preserved g c =
    let later : c.loop-sent.sent ≤ c.min-end.result = omega arith in
    record {
      within = omega arith;
      written = sends_between g.V.Write.contents c.args.w.now c.loop-sent.w c.send_lines.new.w c.args.faults.now c.loop-sent.sent c.min-end.result later
          c.loop-sent.invariant.written c.in_ok-send_lines.ensures.ok;
    }

pub returns-clause-ok : goal.returns-clause-ok
returns-clause-ok g c = all_sent _ c.args.faults.now c.loop-sent.sent c.loop-sent-test.false c.loop-sent.invariant.written
