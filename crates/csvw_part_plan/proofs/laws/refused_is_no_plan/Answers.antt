-- The lines of pieces can be read in one way.
use Rattle.csvw_part_plan.proofs.NoPlans.{no_plan}
use Rattle.csvw_part_plan.proofs.laws.refused_is_no_plan.Goals as goal

pub returns : goal.returns
returns c = no_plan
