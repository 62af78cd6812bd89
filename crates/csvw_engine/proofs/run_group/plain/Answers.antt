-- The one reader as a slice.
use Rattle.std.proofs.Common.{◌∙◌, [], ◌∷◌, refl}
use Rattle.std.proofs.lemmas.Result.{err_from_is_err_and}
use Rattle.csvw_streams.specs.Streams.{stream_of}
use Rattle.csvw_meta.specs.Document.{plain_description}
use Rattle.csvw_triples_core.specs.declared.mode.Mode.TheVariants as mode
use Rattle.csvw_engine_core.specs.declared.stop.Stop.TheVariants as stop
use Rattle.csvw_engine.specs.ReadOrder.{AreTableByTable}
use Rattle.csvw_engine.proofs.Ending.{stops_before}
use Rattle.csvw_engine.proofs.Lone.{runs_lone}
use Rattle.csvw_engine.proofs.run_group.plain.Goals as goal

pub returns-then-not-may_hold : goal.returns-then-not-may_hold
returns-then-not-may_hold g c =
    stops_before g.R.Read.remaining AreTableByTable (plain_description c.args.url.now) mode.Minimal (c.args.input.now ∷ [])
    (stream_of g.W.Write.contents c.args.out.now c.args.out.now) (stream_of g.V.Write.contents c.args.report.now c.args.report.now)
    (refl, refl) (refl, refl) stop.Memory tt

pub returns-in_err-plan : goal.returns-in_err-plan
returns-in_err-plan g c =
    let p = err_from_is_err_and c.from_residual.result c.from_residual.ensures.1 in
    rw (p.1, p.2)
    (stops_before g.R.Read.remaining AreTableByTable (plain_description c.args.url.now) mode.Minimal (c.args.input.now ∷ [])
    (stream_of g.W.Write.contents c.args.out.now c.args.out.now) (stream_of g.V.Write.contents c.args.report.now c.args.report.now)
    (refl, refl) (refl, refl) c.in_err-plan.field-0.0 c.in_err-plan.ensures.stop)

pub returns : goal.returns
returns g c =
    runs_lone g.R.Read.remaining AreTableByTable _ _ c.args.input.now c.from_mut-readers.result.now _ c.run_planned.new.readers _ _ _
    c.from_mut-readers.ensures.value refl
    (c.run_planned.auto.readers ∙ c.from_mut-readers.ensures.len) (c.run_planned.ensures _ c.in_ok-plan.ensures.plan)
