use Rattle.csvw_datatype_core.proofs.DateTimeLemmas.{never_local, second_in_range}
use Rattle.csvw_datatype_core.proofs.date_time.date_times.Goals as goal

pub returns-clause-in_range : goal.returns-clause-in_range
returns-clause-in_range c = second_in_range

pub returns-clause-zone : goal.returns-clause-zone
returns-clause-zone c = never_local
