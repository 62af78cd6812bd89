-- A fault of an item, of a member and of each part of a node is reported.
use Rattle.std.proofs.Common.{◌≡◌, sym, ap, ◌∙◌, string_bytes, refl}
use Rattle.std.proofs.lemmas.Result.{err_from_is_err_and}
use Rattle.serde_json.specs.Data.{member}
use Rattle.serde_json.specs.View.{view, members_view}
use Rattle.csvw_meta_core.specs.Pointer.{text_of, below}
use Rattle.csvw_meta_notes.specs.Adds.{with_front}
use Rattle.csvw_meta_notes.specs.Nodes.{node}
use Rattle.csvw_meta_notes.specs.Annotations.{if_common, noted, common}
use Rattle.csvw_meta_notes.proofs.AddsLemmas.{items_stop, stops}
use Rattle.csvw_meta_notes.proofs.ReadLemmas.{fails_first, later, refused}
use Rattle.csvw_meta_notes.proofs.value.+value.Goals as goal

pub add_items-returns-in_err-add_value : goal.add_items-returns-in_err-add_value
add_items-returns-in_err-add_value t c =
    let p = err_from_is_err_and c.from_residual.result c.from_residual.ensures.1 in
    rw (p.1, p.2)
    (items_stop c.args.scope.now.base.now c.args.scope.now.language.now c.args.key.now (text_of c.args.at.now) c.args.items.now c.loop-i.found.items _
    c.loop-i.i c.loop-i.invariant c.index-items-i.result c.loop-i-test.true c.index-items-i.is c.in_err-add_value.field-0.0 c.in_err-add_value.ensures)

pub add_members-returns-in_err-add_member : goal.add_members-returns-in_err-add_member
add_members-returns-in_err-add_member t c =
    let p = err_from_is_err_and c.from_residual.result c.from_residual.ensures.1 in
    let base = c.args.scope.now.base.now in
    let language = c.args.scope.now.language.now in
    let at = text_of c.args.at.now in
    let name = string_bytes c.in-Some.name.now in
    let d = view c.in-Some.value.now in
    let so_far : with_front c.loop-name.found.items (common base language at (member name d (members_view c.next.new.self)))
    ≡ with_front c.args.found.now.items (common base language at (members_view c.args.members.now.entries)) =
    sym (ap (λ es. with_front c.loop-name.found.items (common base language at (members_view es))) c.in-Some.ensures.steps) ∙ c.loop-name.invariant in
    rw (p.1, p.2)
    (stops c.loop-name.found.items (if_common (below at name) name d (λ key. noted base language key (below at name) d))
    (common base language at (members_view c.next.new.self))
    (with_front c.args.found.now.items (common base language at (members_view c.args.members.now.entries))) so_far c.in_err-add_member.field-0.0
    (rw c.as_str-name.ensures.value at c.in_err-add_member.ensures))

pub read_node-returns-in_err-check_node_members : goal.read_node-returns-in_err-check_node_members
unfolding node
read_node-returns-in_err-check_node_members t c =
    refused c.from_residual.result c.in_err-check_node_members.field-0.0
    (node c.args.scope.now.base.now (text_of c.args.part.now.at) (view c.args.part.now.value.now) (members_view c.args.members.now.entries)
    (common c.args.scope.now.base.now c.args.scope.now.language.now (text_of c.args.part.now.at) (members_view c.args.members.now.entries)))
    c.from_residual.ensures.1
    (fails_first _ _ _ c.in_err-check_node_members.ensures)

pub read_node-returns-in_err-id : goal.read_node-returns-in_err-id
unfolding node
read_node-returns-in_err-id t c =
    refused c.from_residual-in_err-id.result c.in_err-id.field-0.0
    (node c.args.scope.now.base.now (text_of c.args.part.now.at) (view c.args.part.now.value.now) (members_view c.args.members.now.entries)
    (common c.args.scope.now.base.now c.args.scope.now.language.now (text_of c.args.part.now.at) (members_view c.args.members.now.entries)))
    c.from_residual-in_err-id.ensures.1
    (later _ _ _ _ c.in_ok-check_node_members.ensures (fails_first _ _ _ c.in_err-id.ensures))

pub read_node-returns-in_err-types : goal.read_node-returns-in_err-types
unfolding node
read_node-returns-in_err-types t c =
    refused c.from_residual-in_err-types.result c.in_err-types.field-0.0
    (node c.args.scope.now.base.now (text_of c.args.part.now.at) (view c.args.part.now.value.now) (members_view c.args.members.now.entries)
    (common c.args.scope.now.base.now c.args.scope.now.language.now (text_of c.args.part.now.at) (members_view c.args.members.now.entries)))
    c.from_residual-in_err-types.ensures.1
    (later _ _ _ _ c.in_ok-check_node_members.ensures (later _ _ _ _ c.in_ok-id.ensures (fails_first _ _ _ (rw c.new.ensures at c.in_err-types.ensures))))

pub read_node-returns-in_err-add_members : goal.read_node-returns-in_err-add_members
unfolding node
read_node-returns-in_err-add_members t c =
    refused c.from_residual-in_err-add_members.result c.in_err-add_members.field-0.0
    (node c.args.scope.now.base.now (text_of c.args.part.now.at) (view c.args.part.now.value.now) (members_view c.args.members.now.entries)
    (common c.args.scope.now.base.now c.args.scope.now.language.now (text_of c.args.part.now.at) (members_view c.args.members.now.entries)))
    c.from_residual-in_err-add_members.ensures.1
    (later _ _ _ _ c.in_ok-check_node_members.ensures (later _ _ _ _ c.in_ok-id.ensures (later _ _ _ _ (rw c.new.ensures at c.in_ok-types.ensures) (
    fails_first _ _ _ c.in_err-add_members.ensures))))

pub read_node-returns : goal.read_node-returns
unfolding node
read_node-returns t c =
    rw (
      c.in_ok-check_node_members.ensures,
      c.in_ok-id.ensures,
      rw c.new.ensures at c.in_ok-types.ensures,
      rw c.new-notes.ensures.items at c.in_ok-add_members.ensures,
      c.of.ensures,
    )
    refl
