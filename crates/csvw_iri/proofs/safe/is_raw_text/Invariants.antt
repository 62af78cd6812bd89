-- The rest of the text decides.
use Rattle.std.proofs.Common.{◌≡◌, drop}
use Rattle.csvw_iri.specs.Safe.{is_iri}
use Rattle.csvw_iri.proofs.safe.is_raw_text.Given as goal

abbrev pub invariant-loop-b : goal.invariant-loop-b
invariant-loop-b l = is_iri l.text ≡ is_iri (drop l.b-index l.bytes)
