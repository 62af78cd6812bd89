use Rattle.csvw_datatype_core.proofs.DateStarts as law
use Rattle.csvw_datatype_core.proofs.zoned_date.dates_at_one_time.Goals as goal

pub returns : goal.returns
returns c = law.dates_at_one_time
