-- The front of the bytes was added, escaped.
use Rattle.std.proofs.Common.{◌≡◌, ◌++◌, take, flat_map}
use Rattle.csvw_ntriples.specs.Written.{escaped}
use Rattle.csvw_ntriples.proofs.write.push_each_escaped.Given as goal

abbrev pub invariant-loop-b : goal.invariant-loop-b
invariant-loop-b l = l.out ≡ l.fn.out ++ flat_map escaped (take l.b-index l.bytes)
