-- Each part is that of the column which the schema declares.
use Rattle.std.proofs.Common.{◌∙◌, refl, ap}
use Rattle.csvw_columns_core.specs.LiteralDatatype.{literal_datatype}
use Rattle.csvw_columns_core.specs.declared.properties.Properties.{Properties}
use Rattle.csvw_columns_core.proofs.SameLemmas.{same_column, same_fragment}
use Rattle.csvw_columns_core.proofs.declared.Frame.declared.Goals as goal

pub returns : goal.returns
returns c =
    let name = c.in_ok-name.ensures in
    let texts = rw c.in_ok-predicate.ensures.0 at c.both-texts.ensures in
    let predicate = rw texts.0 at c.with_fragment.ensures in
    let titles = rw texts.1 at c.clone.ensures in
    let inherited = rw c.in_ok-predicate.ensures.1 at c.inherited-inherited.ensures in
    same_column _ _ name c.is_some.ensures titles refl c.source_number_of.ensures refl refl refl
    (same_fragment predicate c.iri.ensures.value c.as_str.ensures.value name)
    (inherited.1 ∙ ap (λ (p : Properties). literal_datatype p.datatype) inherited.0) inherited.0
