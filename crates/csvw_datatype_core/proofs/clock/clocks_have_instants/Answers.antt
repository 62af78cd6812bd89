use Rattle.csvw_datatype_core.proofs.ClockLemmas.{has_instant}
use Rattle.csvw_datatype_core.proofs.clock.clocks_have_instants.Goals as goal

pub returns : goal.returns
returns c = has_instant
