-- Such a call returns Failed.
use Rattle.std.proofs.Common.{subst, Result}
use Rattle.csvw_report.specs.declared.outcome.Outcome.{Outcome}
use Rattle.csvw_session.specs.Finishing.{Finishes}
use Rattle.csvw_session.specs.Sessions.{Takes}
use Rattle.csvw_engine_core.specs.declared.stop.Stop.{Stop}
use Rattle.csvw_engine.proofs.laws.stopped_sessions_stay.Goals as goal

pub returns-clause-event : goal.returns-clause-event
returns-clause-event g c =
    let s = g.S.TripleSink in
    λ old new t event result failed takes order.
    (subst (λ (r : Result Unit Stop). Takes s.gains s.cuts s.is_open s.failed old new t event r) (order.failed.1 failed) takes).0

pub returns-clause-finish : goal.returns-clause-finish
returns-clause-finish g c = λ old new result failed finishes order.
    (subst (λ (r : Result Outcome Stop). Finishes old new r) (order.failed.1 failed) finishes).0
