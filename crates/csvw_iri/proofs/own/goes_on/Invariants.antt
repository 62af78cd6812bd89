-- The rest of the bytes decides.
use Rattle.std.proofs.Common.{◌≡◌, length, Some}
use Rattle.csvw_iri.specs.Own.{goes_on}
use Rattle.csvw_iri.proofs.own.goes_on.Given as goal

abbrev pub invariant-loop-b : goal.invariant-loop-b
invariant-loop-b l = goes_on (Some l.place) l.rest ≡ goes_on (Some l.fn.from) l.bytes

abbrev pub decreases-loop-b : goal.decreases-loop-b
decreases-loop-b l = length l.rest
