-- The moment that is read is the one of the definition.
use Rattle.csvw_datatype_core.proofs.StampLemmas.{joined_is}
use Rattle.csvw_datatype_core.proofs.stamp.joined_value.Goals as goal

pub returns : goal.returns
returns c = joined_is c.args.format c.args.bytes.now c.moment_at.result c.moment_at.ensures
