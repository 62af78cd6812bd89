use Rattle.csvw_records.proofs.GoodTexts.{files_have_no_stop}
use Rattle.csvw_records.proofs.laws.files_have_no_stop.Goals as goal

pub returns : goal.returns
returns c = files_have_no_stop
