use Rattle.csvw_rows.proofs.GivenLaws.{given_first}
use Rattle.csvw_rows.proofs.laws.given_first.Goals as goal

pub returns : goal.returns
returns c = given_first
