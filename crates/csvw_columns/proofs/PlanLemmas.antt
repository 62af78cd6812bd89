-- The plans of tables, one after the other.
use Rattle.std.proofs.Common.{◌≡◌, ◌∙◌, ◌+◌, List, [], ◌∷◌, ◌++◌, length, sym, ap, append_assoc, length-append}
use Rattle.csvw_description.specs.declared.description.Description.{Description}
use Rattle.csvw_description.specs.declared.table.TableDescription.{TableDescription}
use Rattle.csvw_columns.specs.declared.references.Targets.{Targets}
use Rattle.csvw_columns.specs.declared.plan.TablePlan.{TablePlan}
use Rattle.csvw_columns.specs.PlanOf.{table_plan, table_plans}

pub one_longer : (plans more : List TablePlan) (plan : TablePlan) → more ≡ plans ++ plan ∷ [] → length more ≡ length plans + 1
one_longer plans more plan e = ap length e ∙ length-append plans (plan ∷ [])

pub next_made : (targets : Targets) (group : Description) (plans more all : List TablePlan) (plan : TablePlan) (table : TableDescription)
    (before after : List TableDescription)
    → plans ++ table_plans targets group (length plans + 1) before ≡ all → before ≡ table ∷ after
    → plan ≡ table_plan targets group (length plans + 1) table → more ≡ plans ++ plan ∷ []
    → more ++ table_plans targets group (length more + 1) after ≡ all
next_made targets group plans more all plan table before after so_far step e pushed =
    ap (λ n. more ++ table_plans targets group (n + 1) after) (one_longer plans more plan pushed)
    ∙ ap (λ ps. ps ++ table_plans targets group (length plans + 1 + 1) after) pushed
    ∙ append_assoc plans (plan ∷ []) (table_plans targets group (length plans + 1 + 1) after)
    ∙ ap (λ (p : TablePlan). plans ++ p ∷ table_plans targets group (length plans + 1 + 1) after) e
    ∙ ap (λ ts. plans ++ table_plans targets group (length plans + 1) ts) (sym step)
    ∙ so_far
