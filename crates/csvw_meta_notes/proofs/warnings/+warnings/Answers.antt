-- The warnings of an item and of a member come before those of the remaining ones.
use Rattle.std.proofs.Common.{◌≡◌, ◌++◌, ◌∙◌, ◌+◌, ap, drop, sym, string_bytes}
use Rattle.serde_json.specs.Data.{member}
use Rattle.serde_json.specs.View.{view, items_view, members_view}
use Rattle.csvw_meta_notes.specs.Warnings.{warned, all_warned, members_warned, unless_ignored}
use Rattle.csvw_meta_notes.proofs.AddsLemmas.{grows, here}
use Rattle.csvw_meta_notes.proofs.warnings.+warnings.Goals as goal

pub add_items-loop-item-preserved : goal.add_items-loop-item-preserved
add_items-loop-item-preserved t c =
    let place = c.args.place in
    let items = c.args.items.now in
    let i = c.loop-item.item-index in
    let v = c.item-item.result in
    grows c.add_value.new.warnings.items c.loop-item.warnings.items (warned place (view v)) (all_warned place (items_view (drop (i + 1) items)))
    (c.args.warnings.now.items ++ all_warned place (items_view items)) c.in_ok-add_value.ensures
    (rw (here items i v c.loop-item-test.true c.item-item.is) at c.loop-item.invariant)

pub add_members-loop-name-preserved : goal.add_members-loop-name-preserved
add_members-loop-name-preserved t c =
    let place = c.args.place in
    let name = string_bytes c.in-Some.name.now in
    let d = view c.in-Some.value.now in
    let rest = members_view c.next.new.self in
    let before = c.loop-name.warnings.items in
    let all = c.args.warnings.now.items ++ members_warned place (members_view c.args.members.now.entries) in
    let so_far : before ++ members_warned place (member name d rest) ≡ all =
    sym (ap (λ es. before ++ members_warned place (members_view es)) c.in-Some.ensures.steps) ∙ c.loop-name.invariant in
    grows c.add_member.new.warnings.items before (unless_ignored place name (warned place d)) (members_warned place rest) all
    (rw c.as_str.ensures.value at c.in_ok-add_member.ensures) so_far
