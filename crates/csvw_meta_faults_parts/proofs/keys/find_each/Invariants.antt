-- The faults that are added, and then those of the remaining items, are all faults.
use Rattle.std.proofs.Common.{◌≡◌, ◌++◌, drop}
use Rattle.serde_json.specs.View.{items_view}
use Rattle.csvw_meta_core.specs.Pointer.{text_of}
use Rattle.csvw_meta_core.specs.Read.{each_numbered}
use Rattle.csvw_fault.specs.declared.fault.Place.{Place}
use Rattle.csvw_meta_keys.specs.ForeignKeys.{foreign_key}
use Rattle.csvw_meta_faults_parts.proofs.keys.find_each.Given as goal

abbrev pub invariant-loop-i : goal.invariant-loop-i
invariant-loop-i l =
    (place : Place)
    → l.faults.items
    ++ (each_numbered (λ n. foreign_key l.context.profile l.context.base place) (text_of l.part.at) l.i (items_view (drop l.i l.items))).faults
    ≡ l.initial.faults.items ++ (each_numbered (λ n. foreign_key l.context.profile l.context.base place) (text_of l.part.at) 0 (items_view l.items)).faults
