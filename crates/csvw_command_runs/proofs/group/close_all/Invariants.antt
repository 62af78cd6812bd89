-- The readers so far were handed back.
use Rattle.csvw_command_runs.specs.Groups.{ClosesAll}
use Rattle.csvw_command_runs.proofs.group.close_all.Given as goal

abbrev pub invariant-loop-reader : goal.invariant-loop-reader
invariant-loop-reader g l = ClosesAll g.O.Opener.closes l.initial.opener l.yielded l.opener
