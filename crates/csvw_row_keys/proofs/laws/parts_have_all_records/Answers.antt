use Rattle.csvw_row_keys.proofs.JoinLemmas.{all_parts}
use Rattle.csvw_row_keys.proofs.laws.parts_have_all_records.Goals as goal

pub returns : goal.returns
returns c = λ rules parts. all_parts 1 rules parts
