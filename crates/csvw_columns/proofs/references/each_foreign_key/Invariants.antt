-- The items so far.
use Rattle.std.proofs.Common.{◌≡◌, map, take}
use Rattle.csvw_columns.specs.Keys.{foreign_key}
use Rattle.csvw_columns.proofs.references.each_foreign_key.Given as goal

abbrev pub invariant-loop-key : goal.invariant-loop-key
invariant-loop-key l = l.plans.items ≡ map (foreign_key l.targets.urls l.targets.names l.own) (take l.key-index l.keys)
