-- An object is the object of its members.
use Rattle.std.proofs.Common.{◌≡◌, ◌∙◌, ◌++◌, List, OnOk, ap, subst, sym}
use Rattle.serde_json.proofs.Views.{view-Object}
use Rattle.serde_json.specs.Data.{Data}
use Rattle.serde_json.specs.View.{view}
use Rattle.csvw_meta_core.specs.declared.fault.MetaFault.{MetaFault}
use Rattle.csvw_meta_core.specs.Pointer.{text_of}
use Rattle.csvw_meta.specs.Described.{described_within, within}
use Rattle.csvw_meta_faults.proofs.document.find_in_parts.Goals as goal

pub returns-in-Object : goal.returns-in-Object
returns-in-Object c =
    let at = text_of c.args.part.now.at in
    let is = ap view c.in-Object.is ∙ view-Object c.in-Object._members in
    let Found : List MetaFault → Type 0 = λ fs. OnOk c.find_within.result (c.find_within.new.faults.items ≡ c.args.faults.now.items ++ fs) in
    subst (λ (d : Data). Found (described_within at d c.args.context.now).faults) (sym is)
    (subst (λ (d : Data). Found (within c.args.context.now at d).faults) is c.find_within.ensures)
