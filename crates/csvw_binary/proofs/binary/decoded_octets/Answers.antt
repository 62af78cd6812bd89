-- The law is the lemma of `Laws`.
use Rattle.csvw_binary.proofs.Laws.{octets_of_form}
use Rattle.csvw_binary.proofs.binary.decoded_octets.Goals as goal

pub returns : goal.returns
returns c = octets_of_form
