-- One table after the other.
use Rattle.std.proofs.Common.{◌≡◌, ℕ, zero, suc, List, [], ◌∷◌, Some, subst}
use Rattle.std.specs.Prelude.{slice_get}
use Rattle.csvw_columns.specs.Ready.{AreReady, IsReady}
use Rattle.csvw_columns.specs.declared.plan.TablePlan.{TablePlan}
use Rattle.csvw_columns.proofs.laws.each_table_is_ready.Goals as goal

ready_at : (plans : List TablePlan) (i : ℕ) (plan : TablePlan) → AreReady plans → slice_get plans i ≡ Some plan → IsReady plan
ready_at [] i plan h e = cc
ready_at (p ∷ plans) zero plan h e = let same : p ≡ plan = cc in subst IsReady same h.0
ready_at (p ∷ plans) (suc i) plan h e = ready_at plans i plan h.1 e

pub returns : goal.returns
returns c = ready_at
