-- What is left decides alone.
use Rattle.std.proofs.Common.{◌≡◌, drop}
use Rattle.csvw_meta_faults.specs.Targets.{names_known}
use Rattle.csvw_meta_faults.proofs.references.names_known.Given as goal

abbrev pub invariant-loop-target : goal.invariant-loop-target
invariant-loop-target l = names_known l.group_hidden (drop l.target-index l.targets) l.url ≡ names_known l.group_hidden l.targets l.url
