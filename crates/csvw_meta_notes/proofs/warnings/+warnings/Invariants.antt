use Rattle.std.proofs.Common.{◌≡◌, ◌++◌, drop}
use Rattle.serde_json.specs.View.{items_view, members_view}
use Rattle.csvw_meta_notes.specs.Warnings.{all_warned, members_warned}
use Rattle.csvw_meta_notes.proofs.warnings.+warnings.Given as goal

abbrev pub invariant-add_items-loop-item : goal.invariant-add_items-loop-item
invariant-add_items-loop-item l =
    l.warnings.items ++ all_warned l.place (items_view (drop l.item-index l.items))
    ≡ l.fn.warnings.items ++ all_warned l.place (items_view l.items)

abbrev pub invariant-add_members-loop-name : goal.invariant-add_members-loop-name
invariant-add_members-loop-name l =
    l.warnings.items ++ members_warned l.place (members_view l.name-iterator)
    ≡ l.fn.warnings.items ++ members_warned l.place (members_view l.members.entries)
