use Rattle.csvw_meta_datatype.proofs.SoundLemmas.{datatype_sound}
use Rattle.csvw_meta_datatype.proofs.laws.datatypes_fit.Goals as goal

pub returns : goal.returns
returns c = datatype_sound c.formats_fit.ensures c.facets_fit.ensures
