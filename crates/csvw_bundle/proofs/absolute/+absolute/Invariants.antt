-- What was copied is what it should be of the front that was passed.
use Rattle.std.proofs.Common.{◌≡◌, List, [], ◌++◌, map, take}
use Rattle.serde_json.specs.View.{view, members_view}
use Rattle.serde_json.proofs.Views.{Entry}
use Rattle.csvw_bundle.specs.Absolute.{absolute}
use Rattle.csvw_bundle.specs.Members.{map_members}
use Rattle.csvw_bundle.proofs.absolute.+absolute.Given as goal

abbrev pub invariant-absolute_items-loop-item : goal.invariant-absolute_items-loop-item
invariant-absolute_items-loop-item l = map view l.resolved.items ≡ map (λ v. absolute l.base [] (view v)) (take l.item-index l.item-items)

abbrev pub invariant-absolute_members-loop-name : goal.invariant-absolute_members-loop-name
invariant-absolute_members-loop-name l =
    (done : List Entry) × (l.members.entries ≡ done ++ l.name-iterator)
    × (members_view l.resolved.entries ≡ map_members (absolute l.base) (members_view done))
