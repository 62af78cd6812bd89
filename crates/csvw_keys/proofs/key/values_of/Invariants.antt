use Rattle.std.proofs.Common.{◌≡◌, take}
use Rattle.csvw_keys.specs.Key.{values_of}
use Rattle.csvw_keys.proofs.key.values_of.Given as goal

abbrev pub invariant-loop-item : goal.invariant-loop-item
invariant-loop-item l = l.values.items ≡ values_of (take l.item-index l.items)
