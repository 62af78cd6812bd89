-- What is left decides alone.
use Rattle.std.proofs.Common.{◌≡◌, List, drop, map, ℕ}
use Rattle.csvw_meta_keys.specs.Naming.{target_of}
use Rattle.csvw_meta_faults.specs.Targets.{as_target}
use Rattle.csvw_meta_faults.proofs.references.target_of.Given as goal

abbrev pub invariant-loop-target : goal.invariant-loop-target
invariant-loop-target l =
    (group : List (List ℕ)) → target_of (map (as_target group) (drop l.target-index l.targets)) l.url ≡ target_of (map (as_target group) l.targets) l.url
