use Rattle.std.proofs.Common.{◌≡◌, take, map}
use Rattle.csvw_template.proofs.read.copies.Given as goal

abbrev pub invariant-loop-text : goal.invariant-loop-text
invariant-loop-text l = l.copies ≡ map (λ x. x.now) (take l.text-index l.texts)
