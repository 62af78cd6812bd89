use Rattle.csvw_row_keys.proofs.PlainLemmas.{key_plain}
use Rattle.csvw_row_keys.proofs.laws.keys_are_spelled_plainly.Goals as goal

pub returns : goal.returns
returns c = λ key. key_plain key
