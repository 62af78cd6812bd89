-- The faults of a member come before those of the remaining ones.
use Rattle.std.proofs.Common.{◌≡◌, ◌++◌, ◌∙◌, ap, sym, string_bytes}
use Rattle.serde_json.specs.Data.{member}
use Rattle.serde_json.specs.View.{view, members_view}
use Rattle.csvw_meta_core.specs.Pointer.{text_of}
use Rattle.csvw_meta_notes.specs.Members.{each_member, node_member}
use Rattle.csvw_meta_faults_core.proofs.EachLemmas.{grows}
use Rattle.csvw_meta_faults_core.proofs.literal.find_in_node_members.Goals as goal

pub loop-name-preserved : goal.loop-name-preserved
loop-name-preserved c =
    let at = text_of c.args.part.now.at in
    let name = string_bytes c.in-Some.name.now in
    let d = view c.in-Some.value.now in
    let rest = members_view c.next.new.self in
    let before = c.loop-name.faults.items in
    let all = c.args.faults.now.items ++ (each_member node_member at (members_view c.args.members.now.entries)).faults in
    let so_far : before ++ (each_member node_member at (member name d rest)).faults ≡ all =
    sym (ap (λ es. before ++ (each_member node_member at (members_view es)).faults) c.in-Some.ensures.steps) ∙ c.loop-name.invariant in
    grows c.find_in_node_member.new.faults.items before (node_member at name d).faults (each_member node_member at rest).faults all
    (rw c.as_str.ensures.value at c.in_ok-find_in_node_member.ensures) so_far
