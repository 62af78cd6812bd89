-- What was added so far, with what is left, is all that is added.
use Rattle.std.proofs.Common.{◌≡◌, ◌++◌}
use Rattle.serde_json.specs.View.{members_view}
use Rattle.csvw_meta_core.specs.Pointer.{text_of}
use Rattle.csvw_meta_notes.specs.Members.{each_member, literal_member}
use Rattle.csvw_meta_faults_core.proofs.literal.find_in_literal_members.Given as goal

abbrev pub invariant-loop-name : goal.invariant-loop-name
invariant-loop-name l =
    l.faults.items ++ (each_member literal_member (text_of l.part.at) (members_view l.name-iterator)).faults
    ≡ l.initial.faults.items ++ (each_member literal_member (text_of l.part.at) (members_view l.members.entries)).faults
