use Rattle.csvw_ntriples.proofs.SameGraphs.{said_same}
use Rattle.csvw_ntriples.proofs.laws.labels_name_one_to_one.Goals as goal

pub returns : goal.returns
returns c = said_same
