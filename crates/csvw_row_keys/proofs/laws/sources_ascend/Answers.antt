use Rattle.csvw_row_keys.proofs.SourceLemmas.{rows_ascend}
use Rattle.csvw_row_keys.proofs.laws.sources_ascend.Goals as goal

pub returns : goal.returns
returns c = λ d file headers rows same. rows_ascend d file headers rows same
