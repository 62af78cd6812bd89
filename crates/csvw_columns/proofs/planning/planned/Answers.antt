-- Each part of the plan is that of the description.
use Rattle.std.proofs.Common.{◌≡◌, ◌∙◌, ℕ, List, true, ap, subst}
use Rattle.std.proofs.Props.{props}
use Rattle.std.specs.Prelude.{Option}
use Rattle.csvw_fault.specs.declared.fault.Fault.{Fault}
use Rattle.csvw_description.specs.declared.description.Description.{Description}
use Rattle.csvw_description.specs.declared.note.Note.{Note}
use Rattle.csvw_description.specs.declared.table.TableDescription.{TableDescription}
use Rattle.csvw_columns.specs.declared.plan.Plan.{Plan}
use Rattle.csvw_columns.specs.declared.plan.TablePlan.{TablePlan}
use Rattle.csvw_columns.specs.declared.references.Targets.{Targets}
use Rattle.csvw_columns.specs.Numbered.{are_numbered}
use Rattle.csvw_columns.specs.PlanOf.{plans_numbered, table_plans, targets_of}
use Rattle.csvw_columns.proofs.planning.planned.Goals as goal

abbrev with : Option (List ℕ) → List Note → (tables : List TablePlan) → List Fault → are_numbered 1 tables ≡ true → Plan
with id notes tables warnings numbered = record { id = id; notes = notes; tables = tables; warnings = warnings; numbered = numbered }

-- plans of the same parts are the same, as they have their numbers in one way
same_plan : {id other_id : Option (List ℕ)} {notes other_notes : List Note} {tables others : List TablePlan} {warnings more : List Fault}
    {a : are_numbered 1 tables ≡ true} {b : are_numbered 1 others ≡ true}
    → id ≡ other_id → notes ≡ other_notes → tables ≡ others → warnings ≡ more → with id notes tables warnings a ≡ with other_id other_notes others more b
same_plan {id} {other_id} {notes} {other_notes} {tables} {others} {warnings} {more} {a} {b} ids noted e warned =
    let one : IsProp (are_numbered 1 tables ≡ true) = hlevel props in
    ap (λ i. with i notes tables warnings a) ids ∙ ap (λ ns. with other_id ns tables warnings a) noted
    ∙ ap (λ ws. with other_id other_notes tables ws a) warned
    ∙ subst (λ ts. (b : are_numbered 1 ts ≡ true) → with other_id other_notes tables more a ≡ with other_id other_notes ts more b) e
    (λ b. ap (with other_id other_notes tables more) (one a b)) b

-- the tables that were planned are those of the description
are_planned : (d : Description) (targets : Targets) (plans : List TablePlan) (tables : List TableDescription) → plans ≡ table_plans targets d 1 tables
    → tables ≡ d.tables → targets ≡ targets_of d → plans ≡ table_plans (targets_of d) d 1 d.tables
are_planned d targets plans tables planned same known =
    planned ∙ ap (λ ts. table_plans targets d 1 ts) same ∙ ap (λ known. table_plans known d 1 d.tables) known

pub invariant_of-result : goal.invariant_of-result
invariant_of-result c =
    let d = c.args.description.now in
    let planned = are_planned d _ _ _ c.in_ok-tables.ensures (c.into_vec.ensures ∙ c.replace-tables.ensures.value) c.in_ok-known.ensures.1 in
    record { numbered = ap (are_numbered 1) planned ∙ plans_numbered (targets_of d) d 1 d.tables }

pub returns : goal.returns
returns c =
    let planned = are_planned c.args.description.now _ _ _ c.in_ok-tables.ensures (c.into_vec.ensures ∙ c.replace-tables.ensures.value)
    c.in_ok-known.ensures.1 in
    same_plan c.replace.ensures.value c.replace-2.ensures.value planned c.in_ok-warnings.ensures
