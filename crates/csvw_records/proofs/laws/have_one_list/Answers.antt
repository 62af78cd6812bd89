use Rattle.csvw_records.proofs.FrontLaws.{one_list}
use Rattle.csvw_records.proofs.laws.have_one_list.Goals as goal

pub returns : goal.returns
returns c = one_list
