-- Each record has the same faults among the same records.
use Rattle.csvw_key_records.proofs.Permuting.{permutes}
use Rattle.csvw_key_records.proofs.laws.permutes_faults.Goals as goal

pub returns : goal.returns
returns c = permutes
