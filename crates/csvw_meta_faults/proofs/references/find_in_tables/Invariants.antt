-- What is found so far, and then what is left, is the whole.
use Rattle.std.proofs.Common.{◌≡◌, ◌++◌, drop}
use Rattle.csvw_meta_faults.specs.Targets.{faults_of_tables, known_in, targets_in}
use Rattle.csvw_meta_faults.proofs.references.find_in_tables.Given as goal

abbrev pub invariant-loop-i : goal.invariant-loop-i
invariant-loop-i l =
    l.faults.items ++ faults_of_tables (known_in l.scene) (targets_in l.scene) (drop l.i l.scene.targets.now) (drop l.i l.tables)
    ≡ l.initial.faults.items ++ faults_of_tables (known_in l.scene) (targets_in l.scene) l.scene.targets.now l.tables
