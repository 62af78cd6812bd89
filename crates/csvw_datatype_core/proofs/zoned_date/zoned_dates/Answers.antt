use Rattle.csvw_datatype_core.proofs.ZonedDateLemmas.{in_range, same_zoned_date}
use Rattle.csvw_datatype_core.proofs.zoned_date.zoned_dates.Goals as goal

pub returns-clause-in_range : goal.returns-clause-in_range
returns-clause-in_range c = in_range

pub returns-clause-written : goal.returns-clause-written
returns-clause-written c = same_zoned_date
