use Rattle.csvw_ntriples.proofs.Once.{denotes_once}
use Rattle.csvw_ntriples.proofs.laws.denotes_one_list.Goals as goal

pub returns : goal.returns
returns c = denotes_once
