-- What was added so far, with what is left, is all that is added.
use Rattle.std.proofs.Common.{◌≡◌, ◌++◌, drop}
use Rattle.serde_json.specs.View.{items_view}
use Rattle.csvw_meta_core.specs.Pointer.{text_of}
use Rattle.csvw_meta_core.specs.Read.{each_numbered}
use Rattle.csvw_meta_faults_core.proofs.each.find_each_numbered.Given as goal

abbrev pub invariant-loop-i : goal.invariant-loop-i
invariant-loop-i g l =
    l.faults.items ++ (each_numbered (g.R.NumberedReader.reads l.reader) (text_of l.part.at) l.i (items_view (drop l.i l.items))).faults
    ≡ l.initial.faults.items ++ (each_numbered (g.R.NumberedReader.reads l.reader) (text_of l.part.at) 0 (items_view l.items)).faults
