-- The law is the lemma of `Laws`.
use Rattle.csvw_binary.proofs.Laws.{same_form}
use Rattle.csvw_binary.proofs.binary.one_binary_text.Goals as goal

pub returns : goal.returns
returns c = same_form
