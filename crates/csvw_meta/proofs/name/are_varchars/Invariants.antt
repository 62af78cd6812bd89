use Rattle.std.proofs.Common.{◌≡◌, drop}
use Rattle.csvw_meta.specs.DeclaredName.{are_varchars}
use Rattle.csvw_meta.proofs.name.are_varchars.Given as goal

abbrev pub invariant-loop-b : goal.invariant-loop-b
invariant-loop-b l = are_varchars l.digits (drop l.b-index l.bytes) ≡ are_varchars 0 l.bytes
