use Rattle.std.proofs.Common.{◌≡◌, ℕ, drop, true, false}
use Rattle.csvw_meta_core.specs.declared.fault.MetaFault.{MetaFault}
use Rattle.csvw_meta.specs.VirtualOrder.{misplaced}
use Rattle.csvw_meta.proofs.virtual_order.misplaced_at.Given as goal

abbrev pub invariant-loop-i : goal.invariant-loop-i
invariant-loop-i l = (fault : ℕ → MetaFault) → misplaced (λ n. true) fault l.is_behind l.i (drop l.i l.columns) ≡ misplaced (λ n. true) fault false 0 l.columns
