use Rattle.csvw_records.proofs.FrontLaws.{first_stay}
use Rattle.csvw_records.proofs.laws.first_stay.Goals as goal

pub returns : goal.returns
returns c = first_stay
