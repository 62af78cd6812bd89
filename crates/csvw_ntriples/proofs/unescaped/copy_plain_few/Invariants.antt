-- None of the bytes so far is escaped.
use Rattle.csvw_ntriples.specs.Escape.{PlainBetween}
use Rattle.csvw_ntriples.proofs.unescaped.copy_plain_few.Given as goal

abbrev pub invariant-loop-b : goal.invariant-loop-b
invariant-loop-b l = PlainBetween l.bytes 0 l.b-index
