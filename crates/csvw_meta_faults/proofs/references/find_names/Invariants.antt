-- What is found so far, and then what is left, is the whole.
use Rattle.std.proofs.Common.{◌≡◌, ◌++◌, drop, true}
use Rattle.csvw_meta_keys.specs.Naming.{name_faults}
use Rattle.csvw_meta_faults.specs.Targets.{known_in}
use Rattle.csvw_meta_faults.proofs.references.find_names.Given as goal

abbrev pub invariant-loop-name : goal.invariant-loop-name
invariant-loop-name l =
    l.faults.items ++ name_faults (known_in l.scene true) l.names (drop l.name-index l.key)
    ≡ l.initial.faults.items ++ name_faults (known_in l.scene true) l.names l.key
