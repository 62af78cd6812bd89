-- The items of the tables so far.
use Rattle.std.proofs.Common.{◌≡◌, map, take}
use Rattle.csvw_meta.specs.References.{target}
use Rattle.csvw_meta.proofs.references.targets_of.Given as goal

abbrev pub invariant-loop-found : goal.invariant-loop-found
invariant-loop-found l = l.targets.items ≡ map (target l.group.body) (take l.found-index l.group.tables)
