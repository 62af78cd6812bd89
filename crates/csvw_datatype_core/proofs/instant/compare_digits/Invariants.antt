-- The digits so far are the same.
use Rattle.std.proofs.Common.{◌≡◌, ◌+◌, length}
use Rattle.csvw_datatype_core.specs.Instants.{digits_cmp}
use Rattle.csvw_datatype_core.proofs.instant.compare_digits.Given as goal

abbrev pub invariant-loop-left : goal.invariant-loop-left
invariant-loop-left l = digits_cmp l.left l.right ≡ digits_cmp l.a l.b

abbrev pub decreases-loop-left : goal.decreases-loop-left
decreases-loop-left l = length l.left + length l.right
