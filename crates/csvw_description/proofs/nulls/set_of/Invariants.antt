-- The set has the first texts.
use Rattle.std.proofs.Common.{take}
use Rattle.csvw_description.specs.Nulls.{IsSetOf}
use Rattle.csvw_description.proofs.nulls.set_of.Given as goal

abbrev pub invariant-loop-text : goal.invariant-loop-text
invariant-loop-text l = IsSetOf (take l.text-index l.texts) l.set
