use Rattle.csvw_triples.proofs.Numbers.{are_in_order}
use Rattle.csvw_triples.proofs.laws.notes_are_numbered_in_order.Goals as goal

pub returns : goal.returns
returns c = are_in_order
