-- So far the lines of a front of the text were taken.
use Rattle.std.proofs.Common.{length}
use Rattle.csvw_key_records.specs.Runs.{TakesLines}
use Rattle.csvw_key_records.proofs.run.KeyRun.take_lines.Given as goal

abbrev pub invariant-loop-body : goal.invariant-loop-body
invariant-loop-body g l = TakesLines g.W.Write.contents l.fn.self l.self l.fn.out l.out l.text l.rest

abbrev pub decreases-loop-body : goal.decreases-loop-body
decreases-loop-body g l = length l.rest
