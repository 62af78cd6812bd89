use Rattle.csvw_datatype_core.proofs.ClockStarts as law
use Rattle.csvw_datatype_core.proofs.clock.clocks_at_one_time.Goals as goal

pub returns : goal.returns
returns c = law.clocks_at_one_time
