-- What is found so far, and then what is left, is the whole.
use Rattle.std.proofs.Common.{◌≡◌, ◌++◌, drop, ℕ}
use Rattle.serde_json.specs.View.{items_view}
use Rattle.csvw_meta_core.specs.Pointer.{text_of}
use Rattle.csvw_meta_core.specs.Read.{each_numbered}
use Rattle.csvw_meta.specs.Column.{column}
use Rattle.csvw_meta_faults.proofs.schema.find_each.Given as goal

abbrev pub invariant-loop-i : goal.invariant-loop-i
invariant-loop-i l =
    (table : ℕ) → l.faults.items ++ (each_numbered (column l.context table) (text_of l.part.at) l.i (items_view (drop l.i l.items))).faults
    ≡ l.initial.faults.items ++ (each_numbered (column l.context table) (text_of l.part.at) 0 (items_view l.items)).faults
