-- The faults of an item and of a member come before those of the remaining ones.
use Rattle.std.proofs.Common.{◌≡◌, ◌++◌, ◌∙◌, ◌+◌, [], ap, drop, sym, string_bytes}
use Rattle.serde_json.specs.Data.{member}
use Rattle.serde_json.specs.View.{view, items_view, members_view}
use Rattle.serde_json.proofs.Views.{view-Array, view-Object}
use Rattle.csvw_meta_core.specs.Pointer.{text_of, below, item_at}
use Rattle.csvw_meta_notes.specs.Nodes.{node}
use Rattle.csvw_meta_notes.specs.Annotations.{if_common, noted, all_noted, common}
use Rattle.csvw_meta_faults_core.specs.Following.{four_parts}
use Rattle.csvw_meta_faults_core.proofs.EachLemmas.{grows, here, view-Number}
use Rattle.csvw_meta_faults_core.proofs.notes.+notes.Goals as goal

pub find_items-loop-i-preserved : goal.find_items-loop-i-preserved
find_items-loop-i-preserved t c = λ language key.
    let base = c.args.scope.now.base.now in
    let at = text_of c.args.at.now in
    let items = c.args.items.now in
    let i = c.loop-i.i in
    let v = c.index-items-i.result in
    grows c.find_value.new.faults.items c.loop-i.faults.items (noted base language key (item_at at i) (view v)).faults
    (all_noted base language key at (i + 1) (items_view (drop (i + 1) items))).faults
    (c.args.faults.now.items ++ (all_noted base language key at 0 (items_view items)).faults) (c.in_ok-find_value.ensures language key)
    (rw (here items i v c.loop-i-test.true c.index-items-i.is) at c.loop-i.invariant language key)

pub find_members-loop-name-preserved : goal.find_members-loop-name-preserved
find_members-loop-name-preserved t c = λ language.
    let base = c.args.scope.now.base.now in
    let at = text_of c.args.at.now in
    let name = string_bytes c.in-Some.name.now in
    let d = view c.in-Some.value.now in
    let rest = members_view c.next.new.self in
    let before = c.loop-name.faults.items in
    let all = c.args.faults.now.items ++ (common base language at (members_view c.args.members.now.entries)).faults in
    let so_far : before ++ (common base language at (member name d rest)).faults ≡ all =
    sym (ap (λ es. before ++ (common base language at (members_view es)).faults) c.in-Some.ensures.steps) ∙ c.loop-name.invariant language in
    grows c.find_in_member.new.faults.items before
    (if_common (below at name) name d (λ key. noted base language key (below at name) d)).faults (common base language at rest).faults all
    (rw c.as_str-name.ensures.value at c.in_ok-find_in_member.ensures language) so_far

pub find_value-returns-in-Number : goal.find_value-returns-in-Number
find_value-returns-in-Number t c = λ language key.
    let e = ap view c.in-Number.is ∙ view-Number c.in-Number.field-0 in
    rw e (rw e at c.find_scalar.ensures language)

pub find_value-returns-in-Array : goal.find_value-returns-in-Array
find_value-returns-in-Array t c = λ language key.
    let e = ap view c.in-Array.is ∙ view-Array c.in-Array.items in
    rw e (rw c.as_slice.ensures.value at c.find_items.ensures language key)

pub find_value-returns-in-Object : goal.find_value-returns-in-Object
find_value-returns-in-Object t c = λ language key.
    let e = ap view c.in-Object.is ∙ view-Object c.in-Object.members in
    rw e (rw e at c.find_object.ensures language)

pub find_node-returns : goal.find_node-returns
unfolding node
find_node-returns t c = λ language.
    rw (four_parts c.args.faults.now.items _ _ _ _ c.find_in_node_members.new.faults.items c.find_optional.new.faults.items
    c.find_property.new.faults.items c.in_ok-find_in_node_members.ensures c.in_ok-find_optional.ensures (c.in_ok-find_property.ensures []))
    (c.find_members.ensures language)
