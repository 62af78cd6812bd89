use Rattle.csvw_triples.proofs.Openings.{is_opening}
use Rattle.csvw_triples.proofs.laws.opening_is_the_graphs.Goals as goal

pub returns : goal.returns
returns c = is_opening
