use Rattle.std.proofs.Common.{◌≡◌, ℕ, take, drop, [], true}
use Rattle.csvw_meta_core.specs.declared.fault.MetaFault.{MetaFault}
use Rattle.csvw_meta.specs.Repeated.{repeated}
use Rattle.csvw_meta.proofs.repeated.repeated_at.Given as goal

abbrev pub invariant-loop-i : goal.invariant-loop-i
invariant-loop-i l = (fault : ℕ → MetaFault) → repeated (λ n. true) fault (take l.i l.texts) l.i (drop l.i l.texts) ≡ repeated (λ n. true) fault [] 0 l.texts
