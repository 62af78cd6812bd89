-- The bytes passed so far leave the place as it is.
use Rattle.std.proofs.Common.{◌≡◌, drop, Some}
use Rattle.csvw_iri.specs.Own.{goes_on}
use Rattle.csvw_iri.proofs.own.staying.Given as goal

abbrev pub invariant-loop-i : goal.invariant-loop-i
invariant-loop-i l = goes_on (Some l.place) (drop l.i l.bytes) ≡ goes_on (Some l.place) l.bytes
