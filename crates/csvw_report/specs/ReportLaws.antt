-- Laws of the definitions of this crate.
use Rattle.std.specs.Prelude.{◌≡◌, List}
use Rattle.std.specs.List.Sorted.{IsPermutation, IsSorted}
use Rattle.csvw_fault.specs.declared.fault.Fault.{Fault}
use Rattle.csvw_report.specs.Order.{fault_cmp}

-- sorted lists of the same faults are equal
abbrev pub SortsToOne : Type 0
SortsToOne =
    (faults first second : List Fault) → IsPermutation faults first → IsSorted fault_cmp first
    → IsPermutation faults second → IsSorted fault_cmp second → first ≡ second
