-- Line terminators of which each could be read.
use Rattle.std.proofs.Common.{◌≡◌, ℕ, ◌==◌, List, [], ◌∷◌, length, false, arith, refl, if◌then◌else◌}
use Rattle.std.proofs.lemmas.Bool.Decides.{nat_tests}
use Rattle.csvw_records.specs.declared.dialect.LineTerminators.{LineTerminators}
use Rattle.serde_json.specs.View.{items_view}
use Rattle.serde_json.specs.declared.value.Value.{Value}
use Rattle.csvw_meta_core.specs.declared.fault.MetaCode.TheVariants.{BadDialect}
use Rattle.csvw_meta_core.specs.declared.fault.MetaFault.{MetaFault}
use Rattle.csvw_meta_core.specs.Read.{Read, fine, faulty, over_faults, over, each}
use Rattle.csvw_meta_dialect.specs.Dialect.{terminator, neither, joined}

over_keeps : {A B : Type 0} (dummy : B) (fs : List MetaFault) (a : A) (next : A → Read B) → (next a).faults ≡ []
    → (over_faults dummy fs a next).faults ≡ fs
over_keeps dummy [] a next h = h
over_keeps dummy (f ∷ fs) a next h = refl

-- if there is an item, only the items have faults
pub some_terminators : (at : List ℕ) (vs : List Value) → (length vs ≡ 0 → ⊥)
    → (over neither (each terminator at 0 (items_view vs)) (λ ts. if length ts == 0 then faulty BadDialect at neither else fine (joined ts))).faults
    ≡ (each terminator at 0 (items_view vs)).faults
some_terminators at [] h = absurd (h refl)
some_terminators at (v ∷ vs) h =
    let r = each terminator at 0 (items_view (v ∷ vs)) in
    let some : (length r.value == 0) ≡ false = grind (arith, nat_tests) in
    let next : List LineTerminators → Read LineTerminators = λ ts. if length ts == 0 then faulty BadDialect at neither else fine (joined ts) in
    over_keeps neither r.faults r.value next (rw some refl)
