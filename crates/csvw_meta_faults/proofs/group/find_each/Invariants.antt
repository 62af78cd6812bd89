-- What is found so far, and then what is left, is the whole.
use Rattle.std.proofs.Common.{◌≡◌, ◌++◌, drop}
use Rattle.serde_json.specs.View.{items_view}
use Rattle.csvw_meta_core.specs.Pointer.{text_of}
use Rattle.csvw_meta_core.specs.Read.{each_numbered}
use Rattle.csvw_meta.specs.Table.{table}
use Rattle.csvw_meta_faults.proofs.group.find_each.Given as goal

abbrev pub invariant-loop-i : goal.invariant-loop-i
invariant-loop-i l =
    l.faults.items ++ (each_numbered (table l.context) (text_of l.part.at) l.i (items_view (drop l.i l.items))).faults
    ≡ l.initial.faults.items ++ (each_numbered (table l.context) (text_of l.part.at) 0 (items_view l.items)).faults
