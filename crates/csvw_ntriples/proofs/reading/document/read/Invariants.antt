-- The triples that are kept are those of the bytes that were read.
use Rattle.std.proofs.Common.{length}
use Rattle.csvw_ntriples.specs.Passing.{Passes}
use Rattle.csvw_ntriples.proofs.reading.document.read.Given as goal

abbrev pub invariant-loop-reader : goal.invariant-loop-reader
invariant-loop-reader l = Passes l.bytes l.triples l.reader

abbrev pub decreases-loop-reader : goal.decreases-loop-reader
decreases-loop-reader l = length l.reader
