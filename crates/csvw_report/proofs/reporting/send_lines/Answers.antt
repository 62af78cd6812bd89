-- If memory runs out, nothing was sent.
use Rattle.std.proofs.Common.{◌∙◌}
use Rattle.std.proofs.lemmas.Result.{err_from_is_err_and}
use Rattle.csvw_report.proofs.Sending.{none_sent}
use Rattle.csvw_report.proofs.reporting.send_lines.Goals as goal

pub returns-in_err-text-clause-stop : goal.returns-in_err-text-clause-stop
returns-in_err-text-clause-stop g c =
    let p = err_from_is_err_and c.from_residual.result c.from_residual.ensures.1 in
    let is = p.2 ∙ c.in_err-text.ensures.memory in
    rw (p.1, is) (none_sent g.V.Write.contents c.args.w.now _)
