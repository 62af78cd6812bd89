-- The metadata isn't read.
use Rattle.std.proofs.Common.{inl}
use Rattle.csvw_command_runs.proofs.group.open_group.Goals as goal

pub returns-in-Err-clause-stop : goal.returns-in-Err-clause-stop
returns-in-Err-clause-stop g c = inl c.in-Err.ensures.stop
