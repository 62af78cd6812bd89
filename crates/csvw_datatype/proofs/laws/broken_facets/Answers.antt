use Rattle.csvw_datatype.proofs.FacetLemmas as law
use Rattle.csvw_datatype.proofs.laws.broken_facets.Goals as goal

pub returns : goal.returns
returns c = law.says_what_breaks
