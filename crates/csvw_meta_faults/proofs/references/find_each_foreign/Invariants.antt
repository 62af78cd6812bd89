-- What is found so far, and then what is left, is the whole.
use Rattle.std.proofs.Common.{◌≡◌, ◌++◌, drop, flat_map}
use Rattle.csvw_meta_keys.specs.Naming.{foreign_faults}
use Rattle.csvw_meta_faults.specs.Targets.{known_in, targets_in}
use Rattle.csvw_meta_faults.proofs.references.find_each_foreign.Given as goal

abbrev pub invariant-loop-key : goal.invariant-loop-key
invariant-loop-key l =
    l.faults.items ++ flat_map (foreign_faults (known_in l.scene l.own.known) l.own.names.now (targets_in l.scene)) (drop l.key-index l.keys)
    ≡ l.initial.faults.items ++ flat_map (foreign_faults (known_in l.scene l.own.known) l.own.names.now (targets_in l.scene)) l.keys
