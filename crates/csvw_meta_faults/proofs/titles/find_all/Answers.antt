-- The faults of the titles of a language come before those of the remaining ones.
use Rattle.std.proofs.Common.{◌≡◌, ◌++◌, ◌∙◌, ap, sym, string_bytes}
use Rattle.serde_json.specs.Data.{member}
use Rattle.serde_json.specs.View.{view, members_view}
use Rattle.csvw_meta_core.specs.Pointer.{text_of}
use Rattle.csvw_meta.specs.Titles.{of_key, sorted}
use Rattle.csvw_meta_faults.proofs.FaultsLemmas.{grows}
use Rattle.csvw_meta_faults.proofs.titles.find_all.Goals as goal

pub loop-key-preserved : goal.loop-key-preserved
loop-key-preserved c = λ language.
    let at = text_of c.args.part.now.at in
    let key = string_bytes c.in-Some.key.now in
    let d = view c.in-Some.value.now in
    let rest = members_view c.next.new.self in
    let before = c.loop-key.faults.items in
    let all = c.args.faults.now.items ++ (sorted language at (members_view c.args.members.now.entries)).faults in
    let so_far : before ++ (sorted language at (member key d rest)).faults ≡ all =
    sym (ap (λ es. before ++ (sorted language at (members_view es)).faults) c.in-Some.ensures.steps) ∙ c.loop-key.invariant language in
    grows c.find_of_key.new.faults.items before (of_key at key d).faults (sorted language at rest).faults all
    (rw c.as_str.ensures.value at c.in_ok-find_of_key.ensures) so_far
