use Rattle.std.proofs.Common.{length}
use Rattle.csvw_datatype_core.proofs.ShortLemmas.{IsFractionAt}
use Rattle.csvw_datatype_core.proofs.short_number.fraction_digits.Given as goal

abbrev pub invariant-loop-rest : goal.invariant-loop-rest
invariant-loop-rest l = IsFractionAt l.bytes l.rest l.units l.weight

abbrev pub decreases-loop-rest : goal.decreases-loop-rest
decreases-loop-rest l = length l.rest
