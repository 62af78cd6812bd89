-- No later record of a sorted file takes a fault away.
use Rattle.csvw_key_records.proofs.Keeping.{keeps}
use Rattle.csvw_key_records.proofs.laws.keeps_faults.Goals as goal

pub returns : goal.returns
returns c = keeps
