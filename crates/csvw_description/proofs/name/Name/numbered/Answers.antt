-- The digits of a number may be raw in an IRIREF.
use Rattle.std.proofs.Common.{◌∙◌, ap}
use Rattle.csvw_iri.specs.Safe.{is_iri}
use Rattle.csvw_description.proofs.NameLemmas.{is_iri-numbered}
use Rattle.csvw_description.proofs.name.Name.numbered.Goals as goal

pub invariant_of-result : goal.invariant_of-result
invariant_of-result c = ap is_iri (c.of.ensures ∙ c.in_ok-format.ensures.ok) ∙ is_iri-numbered c.args.number
