-- The URL that stands in has the text ":".
use Rattle.csvw_iri.specs.Safe.{safe}
use Rattle.csvw_meta_faults_parts.proofs.seen_reference.no_iri.Goals as goal

pub returns : goal.returns
unfolding safe
returns c = c.named.ensures
