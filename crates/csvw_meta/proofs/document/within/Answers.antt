-- The faults of the keys are reported with the faults of the parts, and there are none of those.
use Rattle.std.proofs.Common.{◌≡◌, ◌∙◌, ℕ, List, [], ap, sym, subst}
use Rattle.serde_json.specs.View.{view}
use Rattle.csvw_meta_core.specs.Pointer.{text_of}
use Rattle.csvw_meta_core.specs.Read.{Read, fine, under}
use Rattle.csvw_meta_core.specs.Rules.{also}
use Rattle.csvw_meta_core.specs.Reads.{Fails}
use Rattle.csvw_meta_core.specs.declared.fault.Refusal.{Refusal}
use Rattle.csvw_meta.specs.declared.group.GroupFound.{GroupFound}
use Rattle.csvw_meta_core.specs.declared.fault.MetaFault.{MetaFault}
use Rattle.csvw_meta.specs.Group.{described_among, description_of}
use Rattle.csvw_meta.specs.Described.{parts, within}
use Rattle.csvw_meta.specs.References.{known_faults, reference_faults, targets}
use Rattle.csvw_meta.proofs.ReadLemmas.{refused}
use Rattle.csvw_meta.proofs.ReferencesLemmas.{all_faults}
use Rattle.csvw_meta.proofs.document.within.Goals as goal

fails_rule : (e : Refusal) (place : ℕ → List ℕ) (at : List ℕ) (r : Read GroupFound) (g : GroupFound) → r ≡ fine g → Fails e (known_faults (targets g) g)
    → Fails e (also r (reference_faults place at)).faults
fails_rule e place at r g is h =
    subst (λ (s : Read GroupFound). Fails e (also s (reference_faults place at)).faults) (sym is) (subst (Fails e) (sym (all_faults place at g)) h)

fine_rule : (place : ℕ → List ℕ) (at : List ℕ) (r : Read GroupFound) (g : GroupFound) → r ≡ fine g → known_faults (targets g) g ≡ []
    → under description_of (also r (reference_faults place at)) ≡ fine (description_of g)
fine_rule place at r g is h =
    ap (λ (s : Read GroupFound). under description_of (also s (reference_faults place at))) is
    ∙ ap (λ (fs : List MetaFault). under description_of (record { faults = fs; value = g })) (all_faults place at g ∙ h)

pub returns : goal.returns
returns c =
    let at = text_of c.args.part.now.at in
    let d = view c.args.part.now.value.now in
    let g = c.in_ok-group.group in
    let same : c.as_slice.result.now ≡ targets g = c.as_slice.ensures ∙ c.in_ok-targets.ensures in
    fine_rule _ at (parts c.args.context.now at d) g c.in_ok-group.ensures
    (subst (λ ts. known_faults ts g ≡ []) same c.in_ok-check_references.ensures)
    ∙ ap fine (sym (c.in_ok-described_among.ensures ∙ ap (λ ts. described_among ts g) (c.as_slice-2.ensures ∙ c.in_ok-targets.ensures)))

pub returns-in_err-check_references : goal.returns-in_err-check_references
returns-in_err-check_references c =
    let at = text_of c.args.part.now.at in
    let d = view c.args.part.now.value.now in
    let e = c.in_err-check_references.field-0.0 in
    let g = c.in_ok-group.group in
    let same : c.as_slice.result.now ≡ targets g = c.as_slice.ensures ∙ c.in_ok-targets.ensures in
    refused c.from_residual-in_err-check_references.result e (within c.args.context.now at d) c.from_residual-in_err-check_references.ensures.1
    (fails_rule e _ at (parts c.args.context.now at d) g c.in_ok-group.ensures
    (subst (λ ts. Fails e (known_faults ts g)) same c.in_err-check_references.ensures))
