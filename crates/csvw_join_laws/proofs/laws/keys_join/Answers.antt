-- The rows of a file ascend, so the records of the rows of all parts have the faults of the keys.
use Rattle.csvw_join_laws.proofs.Keys.{keys_join}
use Rattle.csvw_join_laws.proofs.laws.keys_join.Goals as goal

pub returns : goal.returns
returns c = keys_join c.sources_ascend.ensures c.records_find_faults_of_parts.ensures
