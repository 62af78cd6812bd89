-- What is copied so far is the front of the elements.
use Rattle.std.proofs.Common.{◌≡◌, take}
use Rattle.csvw_text.proofs.seq.copies.Given as goal

abbrev pub invariant-loop-x : goal.invariant-loop-x
invariant-loop-x g l = l.copies.items ≡ take l.x-index l.items
