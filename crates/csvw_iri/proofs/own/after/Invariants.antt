-- The rest of the bytes leads to the same place.
use Rattle.std.proofs.Common.{◌≡◌, drop, Some}
use Rattle.csvw_iri.specs.Own.{after}
use Rattle.csvw_iri.proofs.own.after.Given as goal

abbrev pub invariant-loop-b : goal.invariant-loop-b
invariant-loop-b l = after (Some l.place) (drop l.b-index l.bytes) ≡ after (Some l.fn.from) l.bytes
