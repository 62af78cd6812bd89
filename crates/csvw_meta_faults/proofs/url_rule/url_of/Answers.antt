-- The URL that stands in has the text ":".
use Rattle.std.proofs.Common.{◌≡◌, IfOk, Option, subst, sym, unwrap_or}
use Rattle.url.specs.Parts.{Parts}
use Rattle.csvw_iri.specs.Link.{iri_of}
use Rattle.csvw_iri.specs.Safe.{safe}
use Rattle.csvw_meta_core.specs.Links.{no_url}
use Rattle.csvw_meta_faults.proofs.url_rule.url_of.Goals as goal

pub returns-in-None : goal.returns-in-None
unfolding safe
returns-in-None c =
    subst (λ (u : Option Parts). IfOk c.copied-in-None.result (λ t. t ≡ iri_of (unwrap_or u no_url))) (sym c.in-None.is) c.copied-in-None.ensures
