-- The keys of the tables passed so far are resolved.
use Rattle.std.proofs.Common.{ℕ, ◌<◌, get_or}
use Rattle.csvw_columns.specs.Keys.{AreResolved}
use Rattle.csvw_columns.specs.declared.plan.TablePlan.{TablePlan}
use Rattle.csvw_columns.proofs.references.are_resolved.Given as goal

abbrev pub invariant-loop-plan : goal.invariant-loop-plan
invariant-loop-plan l = (k : ℕ) → k < l.plan-index → (d : TablePlan) → AreResolved (get_or l.plans k d)
