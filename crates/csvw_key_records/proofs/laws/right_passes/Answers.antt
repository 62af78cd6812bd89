-- No line of sorted records is wrong.
use Rattle.csvw_key_records.proofs.RightPassing.{passes}
use Rattle.csvw_key_records.proofs.laws.right_passes.Goals as goal

pub returns : goal.returns
returns c = passes
