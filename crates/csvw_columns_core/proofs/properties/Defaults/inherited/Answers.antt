-- Each property is the one that is found, or its default.
use Rattle.csvw_columns_core.proofs.InheritedLemmas.{found_or_default}
use Rattle.csvw_columns_core.proofs.SameLemmas.{same_properties}
use Rattle.csvw_columns_core.proofs.properties.Defaults.inherited.Goals as goal

pub returns : goal.returns
returns c =
    let links = c.in_ok-links.ensures.0 in
    let about = rw links at c.found_links-links.ensures.about in
    let property = rw links at c.found_links-links.ensures.property in
    let value = rw links at c.found_links-links.ensures.value in
    let others = rw c.in_ok-links.ensures.1 at c.both.ensures in
    let datatype = found_or_default _ _ others.1 c.found_or-datatype.ensures c.found-datatype.ensures c.args.self.now.are_defaults.datatype_is in
    let default = rw others.0 at c.found_texts-texts.ensures.default in
    let lang = rw others.0 at c.found_texts-texts.ensures.lang in
    let null = rw others.0 at c.found_texts-texts.ensures.null in
    let separator = rw others.0 at c.found_texts-texts.ensures.separator in
    same_properties _ _ about property value datatype default lang null c.is_set.ensures c.is_set-2.ensures separator
