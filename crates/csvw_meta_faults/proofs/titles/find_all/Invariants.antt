-- What is found so far, and then what is left, is the whole.
use Rattle.std.proofs.Common.{◌≡◌, ◌++◌, List, Option, ℕ}
use Rattle.csvw_meta.specs.Titles.{sorted}
use Rattle.serde_json.specs.View.{members_view}
use Rattle.csvw_meta_core.specs.Pointer.{text_of}
use Rattle.csvw_meta_faults.proofs.titles.find_all.Given as goal

abbrev pub invariant-loop-key : goal.invariant-loop-key
invariant-loop-key l =
    (language : Option (List ℕ)) → l.faults.items ++ (sorted language (text_of l.part.at) (members_view l.key-iterator)).faults
    ≡ l.initial.faults.items ++ (sorted language (text_of l.part.at) (members_view l.members.entries)).faults
