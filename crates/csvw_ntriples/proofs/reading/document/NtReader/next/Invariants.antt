-- The lines that the loop left behind have no triple.
use Rattle.std.proofs.Common.{length, []}
use Rattle.csvw_ntriples.specs.Passing.{Passes}
use Rattle.csvw_ntriples.proofs.reading.document.NtReader.next.Given as goal

abbrev pub invariant-loop-self : goal.invariant-loop-self
invariant-loop-self l = Passes l.fn.self [] l.self-inside.rest.now

abbrev pub decreases-loop-self : goal.decreases-loop-self
decreases-loop-self l = length l.self-inside.rest.now
