use Rattle.csvw_datatype_core.proofs.ClockLemmas.{same_clock}
use Rattle.csvw_datatype_core.proofs.clock.one_clock_text.Goals as goal

pub returns : goal.returns
returns c = same_clock
