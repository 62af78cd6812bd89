-- What was added so far, with what is left, is all that is added.
use Rattle.std.proofs.Common.{◌≡◌, ◌++◌, drop}
use Rattle.serde_json.specs.View.{items_view}
use Rattle.csvw_meta_core.specs.Pointer.{text_of}
use Rattle.csvw_meta_core.specs.Read.{each}
use Rattle.csvw_meta_faults_core.proofs.each.find_each.Given as goal

abbrev pub invariant-loop-i : goal.invariant-loop-i
invariant-loop-i g l =
    l.faults.items ++ (each (g.R.Reader.reads l.reader) (text_of l.part.at) l.i (items_view (drop l.i l.items))).faults
    ≡ l.initial.faults.items ++ (each (g.R.Reader.reads l.reader) (text_of l.part.at) 0 (items_view l.items)).faults
