-- The text of the IRI is safe as it is.
use Rattle.std.proofs.Common.{◌∙◌, ap, sym}
use Rattle.std.proofs.lemmas.Result.{IfOk-weaker}
use Rattle.csvw_iri.specs.Safe.{safe}
use Rattle.csvw_columns_core.specs.LiteralDatatype.{simple_iri}
use Rattle.csvw_columns_core.proofs.XsdLemmas.{raw_iri}
use Rattle.csvw_columns_core.proofs.xsd.simple_iri.Goals as goal

pub returns-in-Other : goal.returns-in-Other
returns-in-Other c =
    let t = c.in-Other.text_type in
    IfOk-weaker c.made_safe.result _ _ (λ iri h. h ∙ ap safe c.iri.ensures ∙ raw_iri t ∙ ap simple_iri (sym c.in-Other.is)) c.made_safe.ensures
