-- What was added so far, with what is left, is all that is added.
use Rattle.std.proofs.Common.{◌≡◌, ◌++◌}
use Rattle.serde_json.specs.View.{members_view}
use Rattle.csvw_fault.specs.declared.fault.Place.{Place}
use Rattle.csvw_meta_core.specs.Listed.{all_names}
use Rattle.csvw_meta_core.specs.Others.{others_in}
use Rattle.csvw_meta_core.specs.Pointer.{text_of}
use Rattle.csvw_meta_faults_core.proofs.others.find_in_others.Given as goal

abbrev pub invariant-loop-name : goal.invariant-loop-name
invariant-loop-name l =
    (place : Place)
    → l.faults.items ++ (others_in (all_names l.listed) l.listed.common place (text_of l.part.at) (members_view l.name-iterator)).faults
    ≡ l.initial.faults.items ++ (others_in (all_names l.listed) l.listed.common place (text_of l.part.at) (members_view l.members.entries)).faults
