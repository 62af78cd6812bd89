use Rattle.csvw_records.proofs.FrontLaws.{first_begin}
use Rattle.csvw_records.proofs.laws.first_begin.Goals as goal

pub returns : goal.returns
returns c = first_begin
