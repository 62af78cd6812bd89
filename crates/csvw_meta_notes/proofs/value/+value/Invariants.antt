use Rattle.std.proofs.Common.{◌≡◌, drop}
use Rattle.serde_json.specs.View.{items_view, members_view}
use Rattle.csvw_meta_core.specs.Pointer.{text_of}
use Rattle.csvw_meta_notes.specs.Adds.{with_front}
use Rattle.csvw_meta_notes.specs.Annotations.{all_noted, common}
use Rattle.csvw_meta_notes.proofs.value.+value.Given as goal

abbrev pub invariant-add_items-loop-i : goal.invariant-add_items-loop-i
invariant-add_items-loop-i l =
    with_front l.found.items (all_noted l.scope.base.now l.scope.language.now l.key (text_of l.at) l.i (items_view (drop l.i l.items)))
    ≡ with_front l.fn.found.items (all_noted l.scope.base.now l.scope.language.now l.key (text_of l.at) 0 (items_view l.items))

abbrev pub invariant-add_members-loop-name : goal.invariant-add_members-loop-name
invariant-add_members-loop-name l =
    with_front l.found.items (common l.scope.base.now l.scope.language.now (text_of l.at) (members_view l.name-iterator))
    ≡ with_front l.fn.found.items (common l.scope.base.now l.scope.language.now (text_of l.at) (members_view l.members.entries))
