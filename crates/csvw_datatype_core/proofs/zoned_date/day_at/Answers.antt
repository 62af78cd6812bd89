-- The day that is read is the one of the definition.
use Rattle.csvw_datatype_core.proofs.SpacedLemmas.{day_is}
use Rattle.csvw_datatype_core.proofs.ZonedDateLemmas.{day_answer}
use Rattle.csvw_datatype_core.proofs.zoned_date.day_at.Goals as goal

pub returns-clause-day : goal.returns-clause-day
returns-clause-day c = day_is c.args.format c.args.bytes.now _ c.read_day.ensures

pub returns-clause-range : goal.returns-clause-range
returns-clause-range c = day_answer c.args.format c.args.bytes.now _ c.read_day.ensures
