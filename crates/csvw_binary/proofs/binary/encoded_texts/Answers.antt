-- The law is the lemma of `Laws`.
use Rattle.csvw_binary.proofs.Laws.{form_of_bytes}
use Rattle.csvw_binary.proofs.binary.encoded_texts.Goals as goal

pub returns : goal.returns
returns c = form_of_bytes
