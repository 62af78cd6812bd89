-- What is left decides alone.
use Rattle.std.proofs.Common.{◌≡◌, drop}
use Rattle.csvw_meta_faults.specs.Targets.{sole_known}
use Rattle.csvw_meta_faults.proofs.references.sole_known.Given as goal

abbrev pub invariant-loop-target : goal.invariant-loop-target
invariant-loop-target l = sole_known l.group_hidden (drop l.target-index l.targets) l.id ≡ sole_known l.group_hidden l.targets l.id
