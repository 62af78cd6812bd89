use Rattle.csvw_datatype_core.proofs.StampLemmas.{never_local, second_in_range, written_again}
use Rattle.csvw_datatype_core.proofs.stamp.stamps.Goals as goal

pub returns-clause-in_range : goal.returns-clause-in_range
returns-clause-in_range c = second_in_range

pub returns-clause-zone : goal.returns-clause-zone
returns-clause-zone c = never_local

pub returns-clause-written : goal.returns-clause-written
returns-clause-written c = written_again
