use Rattle.csvw_meta_datatype.proofs.FacetFitLemmas as law
use Rattle.csvw_meta_datatype.proofs.facet_laws.facets_fit.Goals as goal

pub returns : goal.returns
returns c = law.facets_fit c.bounds_read.ensures.fits c.bounds_read.ensures.whole_fits
