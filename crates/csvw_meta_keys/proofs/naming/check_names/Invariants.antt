use Rattle.std.proofs.Common.{◌≡◌, [], take}
use Rattle.csvw_meta_keys.specs.Naming.{all_known, name_faults}
use Rattle.csvw_meta_keys.proofs.naming.check_names.Given as goal

abbrev pub invariant-loop-name : goal.invariant-loop-name
invariant-loop-name l = name_faults all_known l.names (take l.name-index l.key) ≡ []
