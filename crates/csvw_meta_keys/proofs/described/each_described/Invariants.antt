use Rattle.std.proofs.Common.{◌≡◌, map, take}
use Rattle.csvw_meta_keys.specs.Described.{described}
use Rattle.csvw_meta_keys.proofs.described.each_described.Given as goal

abbrev pub invariant-loop-key : goal.invariant-loop-key
invariant-loop-key l = l.all.items ≡ map (described l.targets) (take l.key-index l.keys)
