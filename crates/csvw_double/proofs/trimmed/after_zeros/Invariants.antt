-- The zeros so far are left out.
use Rattle.std.proofs.Common.{◌≡◌, length}
use Rattle.csvw_double.specs.Digits.{after_zeros}
use Rattle.csvw_double.proofs.trimmed.after_zeros.Given as goal

abbrev pub invariant-loop-rest : goal.invariant-loop-rest
invariant-loop-rest l = after_zeros l.rest ≡ after_zeros l.digits

abbrev pub decreases-loop-rest : goal.decreases-loop-rest
decreases-loop-rest l = length l.rest
