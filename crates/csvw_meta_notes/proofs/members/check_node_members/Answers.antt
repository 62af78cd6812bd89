-- If this member has a fault, it is reported. Else the remaining members decide.
use Rattle.std.proofs.Common.{◌≡◌, ◌∙◌, ap, sym, string_bytes}
use Rattle.serde_json.specs.Data.{member}
use Rattle.serde_json.specs.View.{view, members_view}
use Rattle.csvw_meta_core.specs.Pointer.{text_of}
use Rattle.csvw_meta_notes.specs.Members.{each_member, node_member}
use Rattle.csvw_meta_notes.proofs.ReadLemmas.{goes_on, refused, stops}
use Rattle.csvw_meta_notes.proofs.members.check_node_members.Goals as goal

pub loop-name-preserved : goal.loop-name-preserved
loop-name-preserved c =
    let at = text_of c.args.part.now.at in
    let name = string_bytes c.in-Some.name.now in
    let d = view c.in-Some.value.now in
    let rest = members_view c.next.new.self in
    let so_far : each_member node_member at (member name d rest) ≡ each_member node_member at (members_view c.args.members.now.entries) =
    sym (ap (λ es. each_member node_member at (members_view es)) c.in-Some.ensures.steps) ∙ c.loop-name.invariant in
    goes_on (node_member at name d) (each_member node_member at rest) _ so_far _ (rw c.as_str.ensures.value at c.in_ok-check_node_member.ensures)

pub returns-in_err-check_node_member : goal.returns-in_err-check_node_member
returns-in_err-check_node_member c =
    let at = text_of c.args.part.now.at in
    let name = string_bytes c.in-Some.name.now in
    let d = view c.in-Some.value.now in
    let rest = members_view c.next.new.self in
    let so_far : each_member node_member at (member name d rest) ≡ each_member node_member at (members_view c.args.members.now.entries) =
    sym (ap (λ es. each_member node_member at (members_view es)) c.in-Some.ensures.steps) ∙ c.loop-name.invariant in
    refused c.from_residual.result c.in_err-check_node_member.field-0.0 (each_member node_member at (members_view c.args.members.now.entries))
    c.from_residual.ensures.1
    (stops (node_member at name d) (each_member node_member at rest) _ so_far _ (rw c.as_str.ensures.value at c.in_err-check_node_member.ensures))
