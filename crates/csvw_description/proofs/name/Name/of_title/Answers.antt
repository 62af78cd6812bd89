-- The characters of an encoded title may be raw in an IRIREF.
use Rattle.std.proofs.Common.{◌∙◌, ◌++◌, ap}
use Rattle.csvw_iri.specs.Encoded.{percent_encoded}
use Rattle.csvw_iri.specs.Safe.{is_iri}
use Rattle.csvw_description.proofs.NameLemmas.{is_iri-encoded}
use Rattle.csvw_description.proofs.name.Name.of_title.Goals as goal

pub invariant_of-result : goal.invariant_of-result
invariant_of-result c =
    let empty = ap (λ l. l ++ percent_encoded c.args.title.now) c.new-name.ensures.bytes in
    ap is_iri (c.of.ensures ∙ c.in_ok-push_percent_encoded.ensures ∙ empty) ∙ is_iri-encoded c.args.title.now
