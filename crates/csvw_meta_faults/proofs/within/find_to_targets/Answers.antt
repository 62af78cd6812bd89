-- The faults of the scene are those of the references.
use Rattle.std.proofs.Common.{◌≡◌, ◌∙◌, ◌++◌, List, OnOk, ap, codes, is_some, length, refl, subst}
use Rattle.serde_json.specs.Find.{get}
use Rattle.serde_json.specs.View.{view}
use Rattle.csvw_meta_core.specs.Pointer.{text_of}
use Rattle.csvw_meta_core.specs.declared.fault.MetaFault.{MetaFault}
use Rattle.csvw_meta.specs.References.{table_at}
use Rattle.csvw_meta_faults.proofs.TargetsLemmas.{length_targets, scene_faults}
use Rattle.csvw_meta_faults.proofs.within.find_to_targets.Goals as goal

pub find_in_group-requires : goal.find_in_group-requires
find_in_group-requires c =
    let place = table_at (is_some (get (codes "tables") (view c.args.part.now.value.now))) (text_of c.args.part.now.at) in
    ap length c.requires ∙ length_targets place (text_of c.args.part.now.at) c.args.group.now.keys c.args.marks.now.faults.now 0 c.args.group.now.tables

pub returns : goal.returns
returns c =
    let at = text_of c.args.part.now.at in
    let place = table_at (is_some (get (codes "tables") (view c.args.part.now.value.now))) at in
    let faults = c.args.marks.now.faults.now in
    subst (λ (fs : List MetaFault). OnOk c.find_in_group.result (c.find_in_group.new.faults.items ≡ c.args.faults.now.items ++ fs))
    (scene_faults _ c.args.group.now place at faults refl c.requires c.in_ok-group_names.ensures
    (rw (c.as_str.ensures, c.in_ok-at.ensures) at c.in_ok-group_hidden.ensures)
    (rw (c.as_str-2.ensures, c.in_ok-at.ensures) at c.in_ok-urls_known.ensures)
    (rw (c.as_str-3.ensures, c.in_ok-at.ensures) at c.in_ok-ids_known.ensures))
    c.find_in_group.ensures
