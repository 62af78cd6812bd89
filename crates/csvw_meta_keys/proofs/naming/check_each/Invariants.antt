use Rattle.std.proofs.Common.{◌≡◌, [], take, flat_map}
use Rattle.csvw_meta_keys.specs.Naming.{all_known, foreign_faults}
use Rattle.csvw_meta_keys.proofs.naming.check_each.Given as goal

abbrev pub invariant-loop-key : goal.invariant-loop-key
invariant-loop-key l = flat_map (foreign_faults all_known l.own l.targets) (take l.key-index l.keys) ≡ []
