-- The calls so far failed, and left the bytes as they were.
use Rattle.std.specs.Io.KnownBytes.{Keeps}
use Rattle.csvw_streams.proofs.counted.write_again.Given as goal

abbrev pub invariant-loop : goal.invariant-loop
invariant-loop g l = Keeps (g.W.Write.contents l.initial.writer) (g.W.Write.contents l.writer)
