use Rattle.csvw_validity_laws.proofs.Validating.{no_errors_where_valid, valid_without_errors}
use Rattle.csvw_validity_laws.proofs.laws.valid_groups_have_no_errors.Goals as goal

pub returns : goal.returns
returns c = λ plan texts tables faults ready warned annotated are. (
  valid_without_errors c.have_one_list.ensures plan texts tables faults ready warned annotated are,
  no_errors_where_valid c.have_one_list.ensures plan texts tables faults ready warned annotated are,
)
