-- What is known keeps the limits of the group.
use Rattle.csvw_columns.proofs.ReadyLemmas.{known}
use Rattle.csvw_columns.proofs.planning.known_of.Goals as goal

pub returns : goal.returns
returns c = (known _ c.args.group.now c.in_ok-targets_of.ensures c.requires, c.in_ok-targets_of.ensures)
