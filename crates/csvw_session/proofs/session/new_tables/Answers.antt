-- One table more.
use Rattle.std.proofs.Common.{◌++◌, ◌∷◌, [], ◌∙◌, sym, ap, subst, take, List, Some}
use Rattle.std.proofs.lemmas.Option.{slice_get-get_or}
use Rattle.csvw_columns.specs.declared.plan.TablePlan.{TablePlan}
use Rattle.csvw_engine_core.specs.declared.table.Table.{Table}
use Rattle.csvw_session.specs.NewTables.{AreNew}
use Rattle.csvw_session.proofs.Checking.{ready_at}
use Rattle.csvw_session.proofs.Lists.{take_next}
use Rattle.csvw_session.proofs.Starting.{one_more_new}
use Rattle.csvw_session.proofs.session.new_tables.Goals as goal

pub new-requires : goal.new-requires
new-requires c =
    (ready_at c.args.plans.now c.loop-plan.plan-index c.plan-item.result c.requires
    (slice_get-get_or c.args.plans.now c.loop-plan.plan-index c.plan-item.result c.loop-plan-test.true ∙ ap Some (sym c.plan-item.is))).dialect

pub loop-plan-preserved : goal.loop-plan-preserved
loop-plan-preserved c =
    let at = slice_get-get_or c.args.plans.now c.loop-plan.plan-index c.plan-item.result c.loop-plan-test.true ∙ ap Some (sym c.plan-item.is) in
    subst (λ (ps : List TablePlan). AreNew c.args.mode ps c.push.new.self.items) (sym (take_next c.args.plans.now c.loop-plan.plan-index c.plan-item.result at))
    (subst (λ (ts : List Table). AreNew c.args.mode (take c.loop-plan.plan-index c.args.plans.now ++ c.plan-item.result ∷ []) ts)
    (sym c.in_ok-push.ensures.items)
    (one_more_new c.args.mode (take c.loop-plan.plan-index c.args.plans.now) c.loop-plan.tables.items c.plan-item.result c.in_ok-new.field-0
    c.loop-plan.invariant c.in_ok-new.ensures))
