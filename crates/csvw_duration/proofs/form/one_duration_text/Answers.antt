use Rattle.csvw_duration.proofs.OneDuration.{same_duration}
use Rattle.csvw_duration.proofs.form.one_duration_text.Goals as goal

pub returns : goal.returns
returns c = same_duration
