-- What was added so far, with what is left, is all that is added.
use Rattle.std.proofs.Common.{◌≡◌, ◌++◌}
use Rattle.serde_json.specs.View.{members_view}
use Rattle.csvw_meta_core.specs.Pointer.{text_of}
use Rattle.csvw_meta_core.specs.Context.{strangers}
use Rattle.csvw_meta_faults_core.proofs.context.find_strangers.Given as goal

abbrev pub invariant-loop-name : goal.invariant-loop-name
invariant-loop-name l =
    l.faults.items ++ (strangers (text_of l.part.at) (members_view l.name-iterator)).faults
    ≡ l.initial.faults.items ++ (strangers (text_of l.part.at) (members_view l.members.entries)).faults
