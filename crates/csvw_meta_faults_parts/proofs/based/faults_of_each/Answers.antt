-- One more list, at each identifier and place.
use Rattle.std.proofs.Common.{arith}
use Rattle.std.proofs.lemmas.Grind.{common_steps}
use Rattle.csvw_meta_faults_parts.proofs.based.faults_of_each.Goals as goal

pub loop-simple-preserved : goal.loop-simple-preserved
loop-simple-preserved c = λ id place. grind (arith, common_steps, c.loop-simple.invariant id place, c.in_ok-list.ensures id place)

pub returns : goal.returns
returns c = λ id place. grind (arith, common_steps, c.loop-simple.invariant id place)
