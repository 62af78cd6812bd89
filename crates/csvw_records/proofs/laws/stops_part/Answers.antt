use Rattle.csvw_records.proofs.FrontLaws.{stops_part}
use Rattle.csvw_records.proofs.laws.stops_part.Goals as goal

pub returns : goal.returns
returns c = stops_part
