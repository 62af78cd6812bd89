-- A fault of one property is reported.
use Rattle.std.proofs.Common.{◌≡◌, ◌∙◌, List, sym, ap, subst, string_bytes}
use Rattle.std.proofs.lemmas.Result.{err_from_is_err_and}
use Rattle.serde_json.specs.Data.{member}
use Rattle.serde_json.specs.View.{view, members_view}
use Rattle.csvw_fault.specs.declared.fault.Fault.{Fault}
use Rattle.csvw_meta_core.specs.Listed.{all_names}
use Rattle.csvw_meta_core.specs.Others.{other, others_in}
use Rattle.csvw_meta_core.specs.Pointer.{text_of}
use Rattle.csvw_meta_core.specs.Read.{Read}
use Rattle.csvw_meta_core.specs.Reads.{Fails}
use Rattle.csvw_meta_core.proofs.EachLemmas.{with_front}
use Rattle.csvw_meta_core.proofs.ReadLemmas.{fails_first}
use Rattle.csvw_meta_core.proofs.others.others_in.Goals as goal

pub returns-in_err-is_ignored : goal.returns-in_err-is_ignored
returns-in_err-is_ignored c =
    let p = err_from_is_err_and c.from_residual.result c.from_residual.ensures.1 in
    let names = all_names c.args.listed.now in
    let common = c.args.listed.now.common in
    let place = c.args.listed.now.place in
    let at = text_of c.args.part.now.at in
    let name = string_bytes c.in-Some.name.now in
    let d = view c.in-Some.value.now in
    let so_far : with_front c.loop-name.warnings.items (others_in names common place at (member name d (members_view c.next.new.self)))
    ≡ others_in names common place at (members_view c.args.members.now.entries) =
    sym (ap (λ es. with_front c.loop-name.warnings.items (others_in names common place at (members_view es))) c.in-Some.ensures.steps)
    ∙ c.loop-name.invariant in
    let P : Read (List Fault) → Type 0 = λ r. Fails c.in_err-is_ignored.field-0.0 r.faults in
    rw (p.1, p.2)
    (subst P so_far
    (fails_first c.in_err-is_ignored.field-0.0 (other names common at name d).faults (others_in names common place at (members_view c.next.new.self)).faults
    (rw c.as_str.ensures.value at c.in_err-is_ignored.ensures)))
