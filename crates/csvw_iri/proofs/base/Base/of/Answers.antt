use Rattle.std.proofs.Common.{◌∙◌, ap}
use Rattle.csvw_iri.specs.Safe.{safe, has_hash}
use Rattle.csvw_iri.proofs.LinkLemmas.{has_hash-iri_of}
use Rattle.csvw_iri.proofs.base.Base.of.Goals as goal

pub invariant_of-result : goal.invariant_of-result
invariant_of-result c =
    let no_fragment = ap (λ u. u.fragment) c.in_ok-url.ensures.value in
    let made = c.in_ok-iri.ensures ∙ ap safe c.as_str.ensures.value in
    let valid = c.as_str.ensures.valid in
    record { valid = valid; no_fragment = no_fragment; made = made; no_hash = ap has_hash made ∙ has_hash-iri_of _ valid no_fragment }
