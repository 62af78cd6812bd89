use Rattle.std.proofs.Common.{◌≡◌, take}
use Rattle.csvw_template.proofs.vars.copies.Given as goal

abbrev pub invariant-loop-key : goal.invariant-loop-key
invariant-loop-key l = l.copies.items ≡ take l.key-index l.pairs
