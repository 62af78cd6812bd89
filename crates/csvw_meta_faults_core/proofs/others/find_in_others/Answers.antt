-- The faults of a member come before those of the remaining ones.
use Rattle.std.proofs.Common.{◌≡◌, ◌++◌, ◌∙◌, ap, sym, string_bytes}
use Rattle.serde_json.specs.Data.{member}
use Rattle.serde_json.specs.View.{view, members_view}
use Rattle.csvw_meta_core.specs.Listed.{all_names}
use Rattle.csvw_meta_core.specs.Others.{other, others_in}
use Rattle.csvw_meta_core.specs.Pointer.{text_of}
use Rattle.csvw_meta_faults_core.proofs.EachLemmas.{grows}
use Rattle.csvw_meta_faults_core.proofs.others.find_in_others.Goals as goal

pub loop-name-preserved : goal.loop-name-preserved
loop-name-preserved c = λ place.
    let names = all_names c.args.listed.now in
    let common = c.args.listed.now.common in
    let at = text_of c.args.part.now.at in
    let name = string_bytes c.in-Some.name.now in
    let d = view c.in-Some.value.now in
    let rest = members_view c.next.new.self in
    let before = c.loop-name.faults.items in
    let all = c.args.faults.now.items ++ (others_in names common place at (members_view c.args.members.now.entries)).faults in
    let so_far : before ++ (others_in names common place at (member name d rest)).faults ≡ all =
    sym (ap (λ es. before ++ (others_in names common place at (members_view es)).faults) c.in-Some.ensures.steps) ∙ c.loop-name.invariant place in
    grows c.find_in_other.new.faults.items before (other names common at name d).faults (others_in names common place at rest).faults all
    (rw c.as_str.ensures.value at c.in_ok-find_in_other.ensures) so_far
