-- The law is a lemma on the first line of a document.
use Rattle.csvw_ntriples.proofs.Passing.{wrong_denotes_none}
use Rattle.csvw_ntriples.proofs.laws.wrong_line_denotes_none.Goals as goal

pub returns : goal.returns
returns c = wrong_denotes_none
