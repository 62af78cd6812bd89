use Rattle.csvw_columns.specs.PlanOf.{plan_of}
use Rattle.csvw_validity_laws.proofs.laws.valid_documents_have_no_errors.Goals as goal

pub returns : goal.returns
returns c = λ d description texts tables faults describes ready annotated are.
    c.valid_groups_have_no_errors.ensures (plan_of description) texts tables faults ready (c.documents_warn.ensures d description describes) annotated are
