-- The document is refused.
use Rattle.std.proofs.Common.{refl}
use Rattle.std.proofs.lemmas.Result.{err_from_is_err_and}
use Rattle.csvw_streams.specs.Streams.{stream_of}
use Rattle.csvw_meta.specs.Document.{document_by}
use Rattle.csvw_engine.specs.Rooms.{IsOrder}
use Rattle.csvw_engine.proofs.Ending.{stops_before}
use Rattle.csvw_engine.proofs.run_group.run_by.Goals as goal

pub returns-in_err-plan : goal.returns-in_err-plan
returns-in_err-plan g c =
    let p = err_from_is_err_and c.from_residual.result c.from_residual.ensures.1 in
    rw (p.1, p.2)
    (stops_before g.R.Read.remaining (IsOrder c.args.request.way.order)
    (document_by c.args.request.profile c.args.request.base.now c.args.request.meta.now) c.args.request.way.mode c.args.readers.now (stream_of g.W.Write.contents c.args.out.now c.args.out.now) (stream_of g.V.Write.contents c.args.report.now c.args.report.now)
    (refl, refl) (refl, refl) c.in_err-plan.field-0.0 c.in_err-plan.ensures.stop)
