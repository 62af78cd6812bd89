-- The plan at a place of plans that are ready.
use Rattle.std.proofs.Common.{◌≡◌, ℕ, zero, suc, List, [], ◌∷◌, Some, subst}
use Rattle.std.specs.Prelude.{slice_get}
use Rattle.csvw_columns.specs.Ready.{AreReady, IsReady}
use Rattle.csvw_columns.specs.declared.plan.TablePlan.{TablePlan}

pub ready_at : (plans : List TablePlan) (i : ℕ) (plan : TablePlan) → AreReady plans → slice_get plans i ≡ Some plan → IsReady plan
ready_at [] i plan h e = cc
ready_at (p ∷ plans) zero plan h e = let same : p ≡ plan = cc in subst IsReady same h.0
ready_at (p ∷ plans) (suc i) plan h e = ready_at plans i plan h.1 e
