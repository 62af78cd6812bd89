use Rattle.csvw_datatype_core.proofs.MomentLemmas.{moment_in_range, one_moment}
use Rattle.csvw_datatype_core.proofs.moment.one_moment.Goals as goal

pub returns-clause-same : goal.returns-clause-same
returns-clause-same c = one_moment

pub returns-clause-in_range : goal.returns-clause-in_range
returns-clause-in_range c = moment_in_range
