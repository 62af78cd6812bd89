use Rattle.csvw_meta_datatype.proofs.NameLemmas.{named_as}
use Rattle.csvw_meta_datatype.proofs.base.simple_named.Goals as goal

pub returns : goal.returns
returns c = named_as c.args.name.now c.of.result c.of.ensures
