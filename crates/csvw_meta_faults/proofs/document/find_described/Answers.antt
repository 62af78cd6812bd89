-- The faults of the context come before those of the parts.
use Rattle.std.proofs.Common.{◌≡◌, ◌++◌, ◌∙◌, OnOk, List, ap, append_assoc, subst}
use Rattle.serde_json.specs.View.{view}
use Rattle.csvw_meta_core.specs.declared.context.Context.{Context}
use Rattle.csvw_meta_core.specs.declared.fault.MetaFault.{MetaFault}
use Rattle.csvw_meta_core.specs.Context.{context, in_profile}
use Rattle.csvw_meta_core.specs.Pointer.{text_of}
use Rattle.csvw_meta.specs.Described.{described_within}
use Rattle.csvw_meta.specs.UsableContext.{usable_context}
use Rattle.csvw_meta_faults.proofs.document.find_described.Goals as goal

pub returns : goal.returns
returns c =
    let base = c.args.base.now in
    let at = text_of c.args.part.now.at in
    let d = view c.args.part.now.value.now in
    let old = c.args.faults.now.items in
    let own = (context base at d).faults in
    let Found : List MetaFault → Context → Type 0 = λ front x.
    OnOk c.find_in_parts.result (c.find_in_parts.new.faults.items ≡ front ++ (described_within at d x).faults) in
    let usable = in_profile c.args.profile (usable_context base at d) in
    let same : c.in_profile-context.result ≡ usable = c.in_profile-context.ensures ∙ ap (in_profile c.args.profile) c.in_ok-usable.ensures in
    let found = subst (λ x. Found c.find_context.new.faults.items x) same c.find_in_parts.ensures in
    let joined = subst (λ front. Found front usable) c.in_ok-find_context.ensures found in
    subst (λ fs. OnOk c.find_in_parts.result (c.find_in_parts.new.faults.items ≡ fs)) (append_assoc old own (described_within at d usable).faults) joined
