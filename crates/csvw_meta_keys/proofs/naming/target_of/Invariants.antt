use Rattle.std.proofs.Common.{◌≡◌, drop}
use Rattle.csvw_meta_keys.specs.Naming.{target_of}
use Rattle.csvw_meta_keys.proofs.naming.target_of.Given as goal

abbrev pub invariant-loop-target : goal.invariant-loop-target
invariant-loop-target l = target_of (drop l.target-index l.targets) l.url ≡ target_of l.targets l.url
