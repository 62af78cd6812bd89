-- What is found so far, and then what is left, is the whole.
use Rattle.std.proofs.Common.{◌≡◌, ◌++◌, ℕ, false, drop, map, get_or}
use Rattle.csvw_meta_core.specs.declared.fault.MetaFault.{MetaFault}
use Rattle.csvw_meta.specs.VirtualOrder.{misplaced}
use Rattle.csvw_meta_faults.proofs.virtual_order.misplaced_at.Given as goal

abbrev pub invariant-loop-i : goal.invariant-loop-i
invariant-loop-i l =
    (fault : ℕ → MetaFault) → map fault l.found.items ++ misplaced (λ i. get_or l.known i false) fault l.is_behind l.i (drop l.i l.columns)
    ≡ misplaced (λ i. get_or l.known i false) fault false 0 l.columns
