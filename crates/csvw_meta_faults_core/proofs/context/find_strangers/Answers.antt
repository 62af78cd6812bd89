-- The faults of a member come before those of the remaining ones.
use Rattle.std.proofs.Common.{◌≡◌, ◌++◌, ◌∙◌, ap, sym, string_bytes}
use Rattle.serde_json.specs.Data.{member}
use Rattle.serde_json.specs.View.{view, members_view}
use Rattle.csvw_meta_core.specs.Pointer.{text_of}
use Rattle.csvw_meta_core.specs.Context.{stranger, strangers}
use Rattle.csvw_meta_faults_core.proofs.EachLemmas.{grows}
use Rattle.csvw_meta_faults_core.proofs.context.find_strangers.Goals as goal

pub loop-name-preserved : goal.loop-name-preserved
loop-name-preserved c =
    let at = text_of c.args.part.now.at in
    let name = string_bytes c.in-Some.name.now in
    let d = view c.in-Some.value.now in
    let rest = members_view c.next.new.self in
    let before = c.loop-name.faults.items in
    let all = c.args.faults.now.items ++ (strangers at (members_view c.args.members.now.entries)).faults in
    let so_far : before ++ (strangers at (member name d rest)).faults ≡ all =
    sym (ap (λ es. before ++ (strangers at (members_view es)).faults) c.in-Some.ensures.steps) ∙ c.loop-name.invariant in
    grows c.find_in_member.new.faults.items before (stranger at name d).faults (strangers at rest).faults all
    (rw c.as_str.ensures.value at c.in_ok-find_in_member.ensures) so_far
