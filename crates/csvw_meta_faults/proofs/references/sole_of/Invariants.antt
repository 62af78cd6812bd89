-- What is left decides alone.
use Rattle.std.proofs.Common.{◌≡◌, List, drop, map, ℕ}
use Rattle.csvw_meta_keys.specs.Naming.{sole_of}
use Rattle.csvw_meta_faults.specs.Targets.{as_target}
use Rattle.csvw_meta_faults.proofs.references.sole_of.Given as goal

abbrev pub invariant-loop-i : goal.invariant-loop-i
invariant-loop-i l =
    (group : List (List ℕ)) → sole_of (map (as_target group) (drop l.i l.targets)) l.id ≡ sole_of (map (as_target group) l.targets) l.id
