use Rattle.std.proofs.Common.{refl}
use Rattle.csvw_datatype_core.proofs.WrittenMoments as law
use Rattle.csvw_datatype_core.proofs.stamp.moments_at_one_time.Goals as goal

pub returns-clause-without : goal.returns-clause-without
returns-clause-without c zone text = refl

pub returns-clause-within : goal.returns-clause-within
returns-clause-within c format zone text = refl

pub returns-clause-same : goal.returns-clause-same
returns-clause-same c = law.moments_at_one_time
