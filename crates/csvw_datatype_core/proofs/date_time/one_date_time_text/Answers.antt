use Rattle.csvw_datatype_core.proofs.OneDateTime.{same_date_time}
use Rattle.csvw_datatype_core.proofs.date_time.one_date_time_text.Goals as goal

pub returns : goal.returns
returns c = same_date_time
