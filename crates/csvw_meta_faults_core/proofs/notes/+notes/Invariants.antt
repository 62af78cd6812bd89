-- What was added so far, with what is left, is all that is added.
use Rattle.std.proofs.Common.{◌≡◌, ◌++◌, drop, ℕ, List, Option}
use Rattle.serde_json.specs.View.{items_view, members_view}
use Rattle.csvw_meta_core.specs.Pointer.{text_of}
use Rattle.csvw_meta_notes.specs.Annotations.{all_noted, common}
use Rattle.csvw_meta_faults_core.proofs.notes.+notes.Given as goal

abbrev pub invariant-find_items-loop-i : goal.invariant-find_items-loop-i
invariant-find_items-loop-i l =
    (language : Option (List ℕ)) (key : List ℕ)
    → l.faults.items ++ (all_noted l.scope.base.now language key (text_of l.at) l.i (items_view (drop l.i l.items))).faults
    ≡ l.fn.faults.items ++ (all_noted l.scope.base.now language key (text_of l.at) 0 (items_view l.items)).faults

abbrev pub invariant-find_members-loop-name : goal.invariant-find_members-loop-name
invariant-find_members-loop-name l =
    (language : Option (List ℕ))
    → l.faults.items ++ (common l.scope.base.now language (text_of l.at) (members_view l.name-iterator)).faults
    ≡ l.fn.faults.items ++ (common l.scope.base.now language (text_of l.at) (members_view l.members.entries)).faults
