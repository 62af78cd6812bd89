use Rattle.std.proofs.Common.{◌∙◌, ap}
use Rattle.csvw_iri.specs.Safe.{is_iri}
use Rattle.csvw_iri.proofs.SafeLemmas.{is_iri-safe}
use Rattle.csvw_iri.proofs.safe.made_safe.Goals as goal

pub of-requires : goal.of-requires
of-requires c = ap is_iri c.in_ok-safe_text.ensures ∙ is_iri-safe _
