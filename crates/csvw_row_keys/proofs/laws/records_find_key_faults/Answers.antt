use Rattle.csvw_row_keys.proofs.FaultLemmas.{all_faults}
use Rattle.csvw_row_keys.proofs.laws.records_find_key_faults.Goals as goal

pub returns : goal.returns
returns c = λ rules tables ascend. all_faults tables ascend rules
