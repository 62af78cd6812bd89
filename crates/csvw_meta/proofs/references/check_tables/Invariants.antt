-- There is no fault in the tables so far.
use Rattle.std.proofs.Common.{◌≡◌, [], take, flat_map}
use Rattle.csvw_meta_keys.specs.Naming.{all_known}
use Rattle.csvw_meta.specs.References.{schema_faults}
use Rattle.csvw_meta.proofs.references.check_tables.Given as goal

abbrev pub invariant-loop-found : goal.invariant-loop-found
invariant-loop-found l = flat_map (λ t. schema_faults all_known l.targets t.table.schema t.keys) (take l.found-index l.tables) ≡ []
