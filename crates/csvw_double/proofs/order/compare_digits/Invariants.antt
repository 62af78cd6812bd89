-- The digits so far are the same.
use Rattle.std.proofs.Common.{◌≡◌, length}
use Rattle.csvw_double.specs.Places.{all_of, digits_cmp}
use Rattle.csvw_double.proofs.order.compare_digits.Given as goal

abbrev pub invariant-loop-x : goal.invariant-loop-x
invariant-loop-x l = digits_cmp (all_of l.first) (all_of l.second) ≡ digits_cmp (all_of l.a) (all_of l.b)

abbrev pub decreases-loop-x : goal.decreases-loop-x
decreases-loop-x l = length (all_of l.first)
