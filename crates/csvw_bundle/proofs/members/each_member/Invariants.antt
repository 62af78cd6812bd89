-- The members of the front that was passed have no faults, and what was made has their values.
use Rattle.std.proofs.Common.{◌≡◌, List, [], ◌++◌}
use Rattle.serde_json.specs.View.{members_view}
use Rattle.serde_json.proofs.Views.{Entry}
use Rattle.csvw_bundle.specs.Members.{map_members, member_faults}
use Rattle.csvw_bundle.proofs.members.each_member.Given as goal

abbrev pub invariant-loop-name : goal.invariant-loop-name
invariant-loop-name g l =
    (done : List Entry) × (l.members.entries ≡ done ++ l.name-iterator)
    × (member_faults (g.R.MemberReader.reads l.reader) (members_view done) ≡ [])
    × (members_view l.read.entries ≡ map_members (λ k d. (g.R.MemberReader.reads l.reader k d).value) (members_view done))
