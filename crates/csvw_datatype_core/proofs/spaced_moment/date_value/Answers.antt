-- The day that is read is the one of the definition.
use Rattle.csvw_datatype_core.proofs.SpacedLemmas.{day_is}
use Rattle.csvw_datatype_core.proofs.spaced_moment.date_value.Goals as goal

pub returns : goal.returns
returns c = day_is c.args.format c.args.text.now _ c.read_date.ensures
