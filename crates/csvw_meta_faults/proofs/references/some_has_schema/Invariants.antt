-- What is left decides alone.
use Rattle.std.proofs.Common.{◌≡◌, List, drop, map, ℕ}
use Rattle.std.specs.List.{list_any}
use Rattle.csvw_meta_keys.specs.Naming.{has_schema}
use Rattle.csvw_meta_faults.specs.Targets.{as_target}
use Rattle.csvw_meta_faults.proofs.references.some_has_schema.Given as goal

abbrev pub invariant-loop-target : goal.invariant-loop-target
invariant-loop-target l =
    (group : List (List ℕ))
    → list_any (has_schema l.id) (map (as_target group) (drop l.target-index l.targets)) ≡ list_any (has_schema l.id) (map (as_target group) l.targets)
