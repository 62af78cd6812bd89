-- The last equals sign is where std's definition splits the word.
use Rattle.std.proofs.Common.{arith, rules}
use Rattle.csvw_command_core.specs.Resources.{resource_of}
use Rattle.csvw_command_core.proofs.Splitting.{split_at_last}
use Rattle.csvw_command_core.proofs.resources.split_resource.Goals as goal

pub returns-in_default : goal.returns-in_default
unfolding resource_of
returns-in_default c =
    let split = split_at_last 61 c.args.text.now _ c.rsplit_once.ensures.cases (omega arith) in
    rw (← split) (grind rules)

pub returns-then-is_empty-2 : goal.returns-then-is_empty-2
unfolding resource_of
returns-then-is_empty-2 c =
    let split = split_at_last 61 c.args.text.now _ c.rsplit_once.ensures.cases (omega arith) in
    rw (← split) (grind rules)

pub returns-else-is_empty-2 : goal.returns-else-is_empty-2
unfolding resource_of
returns-else-is_empty-2 c =
    let split = split_at_last 61 c.args.text.now _ c.rsplit_once.ensures.cases (omega arith) in
    rw (← split) (grind rules)
