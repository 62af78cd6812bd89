-- The faults of the parts come before those of the references.
use Rattle.std.proofs.Common.{◌≡◌, ◌++◌, ◌∙◌, List, OnOk, ap, ap₂, codes, is_some, subst}
use Rattle.serde_json.specs.Find.{get}
use Rattle.serde_json.specs.View.{view}
use Rattle.csvw_meta_core.specs.declared.fault.MetaFault.{MetaFault}
use Rattle.csvw_meta_core.specs.Pointer.{text_of}
use Rattle.csvw_meta.specs.Described.{parts}
use Rattle.csvw_meta.specs.References.{reference_faults, table_at}
use Rattle.csvw_meta_faults.proofs.within.find_within.Goals as goal

pub returns : goal.returns
returns c =
    let at = text_of c.args.part.now.at in
    let d = view c.args.part.now.value.now in
    let place = table_at (is_some (get (codes "tables") d)) at in
    let all = parts c.args.context.now at d in
    let own : c.find_parts.new.faults.items ≡ all.faults = c.in_ok-find_parts.ensures ∙ ap (λ fs. fs ++ all.faults) c.new-own.ensures.items in
    let found = rw (c.as_slice.ensures.value, own) at c.in_ok-find_together.ensures in
    let together : c.find_together.new.faults.items ≡ reference_faults place at all.faults all.value =
    found ∙ ap (λ fs. fs ++ reference_faults place at all.faults all.value) c.new-together.ensures.items in
    subst (λ (fs : List MetaFault). OnOk c.add_both.result (c.add_both.new.faults.items ≡ c.args.faults.now.items ++ fs))
    (ap₂ (λ xs ys. xs ++ ys) own together) c.add_both.ensures
