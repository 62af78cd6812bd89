-- The zeros so far are left out.
use Rattle.std.proofs.Common.{◌≡◌, length}
use Rattle.csvw_double.specs.Digits.{before_zeros}
use Rattle.csvw_double.proofs.trimmed.before_zeros.Given as goal

abbrev pub invariant-loop-last : goal.invariant-loop-last
invariant-loop-last l = before_zeros l.rest ≡ before_zeros l.digits

abbrev pub decreases-loop-last : goal.decreases-loop-last
decreases-loop-last l = length l.rest
