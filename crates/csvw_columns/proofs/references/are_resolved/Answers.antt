-- The keys of one table more are resolved.
use Rattle.std.proofs.Common.{get_or, below_more, subst, ◌∙◌, sym, refl, arith, false}
use Rattle.std.specs.Prelude.{IsTrue}
use Rattle.std.proofs.lemmas.List.{get_or_default}
use Rattle.csvw_columns.specs.Keys.{AreResolved}
use Rattle.csvw_columns.specs.declared.plan.TablePlan.{TablePlan}
use Rattle.csvw_columns.proofs.references.are_resolved.Goals as goal

pub loop-plan-preserved : goal.loop-plan-preserved
loop-plan-preserved c =
    let this : AreResolved c.plan-item.result = c.has_resolved_keys.ensures.0 c.if-not-has_resolved_keys.false in
    below_more (λ k. (d : TablePlan) → AreResolved (get_or c.args.plans.now k d)) c.loop-plan.plan-index c.loop-plan.invariant
    (λ d. subst AreResolved (c.plan-item.is ∙ get_or_default c.args.plans.now c.loop-plan.plan-index c.plan-item.result d c.loop-plan-test.true) this)

pub returns-then-not-has_resolved_keys : goal.returns-then-not-has_resolved_keys
returns-then-not-has_resolved_keys c = (
  λ told. absurd (let no : IsTrue false = told in cc),
  λ all.
      let this : AreResolved c.plan-item.result =
      subst AreResolved (sym c.plan-item.is) (all c.loop-plan.plan-index c.plan-item.result c.loop-plan-test.true) in
      let yes : IsTrue c.has_resolved_keys.result = c.has_resolved_keys.ensures.1 this in
      let no = c.if-not-has_resolved_keys.true in
      cc,
)

pub returns : goal.returns
returns c = (λ told k d h. c.loop-plan.invariant k (omega arith) d, λ all. refl)
