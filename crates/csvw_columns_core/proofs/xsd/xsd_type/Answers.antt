-- The text of the IRI is safe as it is.
use Rattle.std.proofs.Common.{◌∙◌}
use Rattle.std.proofs.lemmas.Result.{IfOk-weaker}
use Rattle.csvw_columns_core.proofs.XsdLemmas.{safe_type}
use Rattle.csvw_columns_core.proofs.xsd.xsd_type.Goals as goal

pub returns : goal.returns
returns c =
    let text = safe_type c.args.simple _ _ _ _ c.as_str.ensures.value c.in_ok-push_str.ensures.bytes c.in_ok-text.ensures.ok c.name.ensures in
    IfOk-weaker c.made_safe.result _ _ (λ iri h. h ∙ text) c.made_safe.ensures
