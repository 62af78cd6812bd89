use Rattle.std.proofs.Common.{◌≡◌}
use Rattle.serde_json.specs.View.{members_view}
use Rattle.csvw_meta_core.specs.Pointer.{text_of}
use Rattle.csvw_meta_notes.specs.Members.{node_member, each_member}
use Rattle.csvw_meta_notes.proofs.members.check_node_members.Given as goal

abbrev pub invariant-loop-name : goal.invariant-loop-name
invariant-loop-name l =
    each_member node_member (text_of l.part.at) (members_view l.name-iterator)
    ≡ each_member node_member (text_of l.part.at) (members_view l.members.entries)
