-- No line break comes before the place of the loop.
use Rattle.std.proofs.Common.{◌≡◌, take, false}
use Rattle.std.specs.List.{AllByRecursion}
use Rattle.csvw_ntriples.specs.Character.{is_break}
use Rattle.csvw_ntriples.proofs.reading.byte_line.first_line.Given as goal

abbrev pub invariant-loop-i : goal.invariant-loop-i
invariant-loop-i l = AllByRecursion (λ c. is_break c ≡ false) (take l.i l.bytes)
