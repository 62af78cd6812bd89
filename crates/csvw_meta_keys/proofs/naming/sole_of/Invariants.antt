-- None of the tables so far has the schema, so the rest decides.
use Rattle.std.proofs.Common.{◌≡◌, drop}
use Rattle.csvw_meta_keys.specs.Naming.{sole_of}
use Rattle.csvw_meta_keys.proofs.naming.sole_of.Given as goal

abbrev pub invariant-loop-i : goal.invariant-loop-i
invariant-loop-i l = sole_of (drop l.i l.targets) l.id ≡ sole_of l.targets l.id
