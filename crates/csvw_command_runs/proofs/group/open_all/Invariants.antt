-- The files in front were opened.
use Rattle.std.proofs.Common.{map, take}
use Rattle.csvw_command_runs.specs.Groups.{OpensAll}
use Rattle.csvw_command_runs.proofs.group.open_all.Given as goal

abbrev pub invariant-loop-file : goal.invariant-loop-file
invariant-loop-file g l = OpensAll g.O.Opener.opens l.initial.opener (map (λ file. file.now) (take l.file-index l.files)) l.readers.items l.opener
