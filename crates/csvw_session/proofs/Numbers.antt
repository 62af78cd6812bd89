-- The tables of a plan have the numbers of their places, from 1.
use Rattle.std.proofs.Common.{◌≡◌, ◌+◌, ℕ, zero, suc, true, List, [], ◌∷◌, sym, ap, ◌∙◌, subst, arith, Some}
use Rattle.std.specs.Prelude.{slice_get}
use Rattle.std.proofs.lemmas.Bool.{and_parts, eqb-true}
use Rattle.csvw_columns.specs.Numbered.{are_numbered}
use Rattle.csvw_columns.specs.declared.plan.Plan.{Plan}
use Rattle.csvw_columns.specs.declared.plan.TablePlan.{TablePlan}
use Rattle.csvw_engine_core.specs.Stops.{IsOf}
use Rattle.csvw_engine_core.specs.declared.stop.Stop.{Stop}

number_from : (n : ℕ) (plans : List TablePlan) (i : ℕ) (plan : TablePlan) → are_numbered n plans ≡ true → slice_get plans i ≡ Some plan → plan.number ≡ n + i
number_from n [] i plan h e = cc
number_from n (p ∷ plans) zero plan h e =
    let parts = and_parts _ _ h in
    let same : p ≡ plan = cc in
    let number = eqb-true p.number n parts.0 in
    ap (λ (q : TablePlan). q.number) (sym same) ∙ omega (arith, number)
number_from n (p ∷ plans) (suc i) plan h e =
    let parts = and_parts _ _ h in
    let rest = number_from (n + 1) plans i plan parts.1 e in
    omega (arith, rest)

pub number_at : (plan : Plan) (i : ℕ) (table : TablePlan) → slice_get plan.tables i ≡ Some table → table.number ≡ i + 1
number_at plan i table at = let number = number_from 1 plan.tables i table plan.numbered at in omega (arith, number)

-- a stop of the table at a place is one of the table of this number
pub own_stop : (plan : Plan) (i t : ℕ) (table : TablePlan) (reason : Stop) → slice_get plan.tables i ≡ Some table → i + 1 ≡ t → IsOf table.number reason
    → IsOf t reason
own_stop plan i t table reason at number = subst (λ n. IsOf n reason) (number_at plan i table at ∙ number)
