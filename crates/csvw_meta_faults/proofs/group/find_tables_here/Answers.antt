-- The faults of the tables by themselves come before those of all of them together.
use Rattle.std.proofs.Common.{◌≡◌, ◌++◌, ◌∙◌, List, OnOk, ap, ap₂, subst}
use Rattle.serde_json.specs.View.{view}
use Rattle.csvw_meta_core.specs.declared.fault.MetaFault.{MetaFault}
use Rattle.csvw_meta_core.specs.Pointer.{text_of}
use Rattle.csvw_meta_core.specs.Several.{several}
use Rattle.csvw_meta.specs.Table.{table}
use Rattle.csvw_meta.specs.declared.group.TheConstants.{MAX_TABLES}
use Rattle.csvw_meta_faults.proofs.group.find_tables_here.Goals as goal

pub returns : goal.returns
returns c =
    let at = text_of c.args.part.now.at in
    let all = several 1 MAX_TABLES (table c.args.context.now) at (view c.args.part.now.value.now) in
    let own : c.find_several.new.faults.items ≡ all.faults = c.in_ok-find_several.ensures ∙ ap (λ fs. fs ++ all.faults) c.new-own.ensures.items in
    let together = rw (c.as_slice.ensures.value, own) at c.in_ok-together.ensures in
    subst (λ (fs : List MetaFault). OnOk c.add_both.result (c.add_both.new.faults.items ≡ c.args.faults.now.items ++ fs))
    (ap₂ (λ xs ys. xs ++ ys) own (c.into_vec.ensures ∙ together)) c.add_both.ensures
