-- The keys of the plan are those of the description's plan.
use Rattle.std.proofs.Common.{subst, sym, ap}
use Rattle.std.specs.Prelude.{All, IsTrue}
use Rattle.csvw_meta_core.specs.declared.fault.MetaFault.{MetaFault}
use Rattle.csvw_columns.specs.Fit.{IsFitGroup}
use Rattle.csvw_columns.specs.FreeOf.{IsFreeOf}
use Rattle.csvw_columns.specs.Keys.{AreResolved}
use Rattle.csvw_columns.specs.PlanOf.{plan_of}
use Rattle.csvw_columns.specs.declared.plan.Plan.{Plan}
use Rattle.csvw_columns.proofs.plan.Plan.build.Goals as goal

pub returns-clause-plan : goal.returns-clause-plan
returns-clause-plan c =
    let d = c.args.description in
    let found = c.refused.ensures in
    let fit : IsFitGroup d = rw c.in_default.is at found in
    let keys = subst (All AreResolved) c.as_slice.ensures (c.are_resolved.ensures.0 c.if-not-are_resolved.false) in
    let planned : All AreResolved (plan_of d).tables = subst (λ (p : Plan). All AreResolved p.tables) c.in-Ok.ensures keys in
    (c.in-Ok.ensures, record { fit = fit; keys = planned })

pub returns-then-not-are_resolved-clause-plan : goal.returns-then-not-are_resolved-clause-plan
returns-then-not-are_resolved-clause-plan c = (
  ap (λ f. f.pointer) c.fault-then-not-are_resolved.ensures,
  λ apart free.
      let told = subst (λ (f : MetaFault). IsFreeOf f.code c.args.description) c.fault-then-not-are_resolved.ensures free in
      let keys = subst (λ (p : Plan). All AreResolved p.tables) (sym c.in-Ok.ensures) told.keys in
      let yes : IsTrue c.are_resolved.result = c.are_resolved.ensures.1 (subst (All AreResolved) (sym c.as_slice.ensures) keys) in
      let no = c.if-not-are_resolved.true in
      cc,
)
