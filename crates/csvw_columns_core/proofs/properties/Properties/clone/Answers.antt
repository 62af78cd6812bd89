-- Each property is that property.
use Rattle.std.proofs.Common.{refl}
use Rattle.csvw_columns_core.proofs.SameLemmas.{same_properties}
use Rattle.csvw_columns_core.proofs.properties.Properties.clone.Goals as goal

pub returns : goal.returns
returns c =
    let urls = rw c.in_ok-urls.ensures.0 at c.both.ensures in
    let links = rw urls.0 at c.both_copied-links.ensures in
    let values = rw urls.1 at c.both_copied-values.ensures in
    let both = rw c.in_ok-urls.ensures.1 at c.both-2.ensures in
    let texts = rw both.0 at c.both_copied-texts.ensures in
    let parts = rw both.1 at c.both_copied-parts.ensures in
    same_properties _ _ links.0 links.1 values.0 values.1 texts.0 texts.1 parts.0 refl refl parts.1
