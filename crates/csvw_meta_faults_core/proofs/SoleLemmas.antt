-- A fault of a part that has at most one is the only one.
use Rattle.std.proofs.Common.{◌≡◌, List, [], ◌∷◌, arith, ap, Contains}
use Rattle.csvw_meta_core.specs.declared.fault.MetaFault.{MetaFault}
use Rattle.csvw_meta_faults_core.specs.Sole.{AtMostOne}

pub is_sole : (fs : List MetaFault) (f : MetaFault) → AtMostOne fs → Contains fs f → fs ≡ f ∷ []
is_sole [] f one h = absurd (omega (arith, h.1))
is_sole (g ∷ []) f one h = let first : h.0 ≡ 0 = omega (arith, h.1) in ap (λ x. x ∷ []) (rw first at h.2)
is_sole (g ∷ g' ∷ fs) f one h = absurd one
