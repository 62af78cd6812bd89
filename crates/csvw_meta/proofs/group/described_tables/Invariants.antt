-- The descriptions taken so far, followed by those of the remaining tables.
use Rattle.std.proofs.Common.{◌≡◌, ◌++◌, map}
use Rattle.std.specs.Vec.Iter.{into_iter_items}
use Rattle.csvw_meta.specs.ForeignKeys.{linked_table}
use Rattle.csvw_meta.proofs.group.described_tables.Given as goal

abbrev pub invariant-loop-found : goal.invariant-loop-found
invariant-loop-found l = l.tables.items ++ map (linked_table l.targets) (into_iter_items l.found-iterator) ≡ map (linked_table l.targets) l.fn.all.items
