-- The law is a lemma on two parts of a document.
use Rattle.csvw_ntriples.proofs.Passing.{passes_on}
use Rattle.csvw_ntriples.proofs.laws.passes_join.Goals as goal

pub returns : goal.returns
returns c = passes_on
