-- The check of what keys name doesn't look at what is left out of what is seen of the group.
use Rattle.std.proofs.Common.{◌≡◌, ◌++◌, ◌∙◌, List, OnOk, ap, codes, is_some, subst}
use Rattle.serde_json.specs.Find.{get}
use Rattle.serde_json.specs.View.{view}
use Rattle.csvw_meta_core.specs.declared.fault.MetaFault.{MetaFault}
use Rattle.csvw_meta_core.specs.Pointer.{text_of}
use Rattle.csvw_meta.specs.Described.{parts}
use Rattle.csvw_meta.specs.References.{reference_faults, table_at}
use Rattle.csvw_meta_faults.proofs.BareGroupLemmas.{bare_references}
use Rattle.csvw_meta_faults.proofs.within.find_together.Goals as goal

pub returns : goal.returns
returns c =
    let at = text_of c.args.part.now.at in
    let d = view c.args.part.now.value.now in
    let place = table_at (is_some (get (codes "tables") d)) at in
    let own = c.args.own.now in
    subst (λ (fs : List MetaFault). OnOk c.find_references-found.result (c.find_references-found.new.faults.items ≡ c.args.faults.now.items ++ fs))
    (ap (reference_faults place at own) c.in_ok-group.ensures ∙ bare_references place at own (parts c.args.context.now at d).value)
    c.find_references-found.ensures
