use Rattle.csvw_records.proofs.FrontLaws.{fronts_grow}
use Rattle.csvw_records.proofs.laws.fronts_grow.Goals as goal

pub returns : goal.returns
returns c = fronts_grow
