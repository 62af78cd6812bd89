-- The number of items of an array. A wrong number is reported beside the faults of the items.
use Rattle.std.proofs.Common.{◌≡◌, List, [], ◌∷◌, Bool, true, false, if◌then◌else◌, Result, Ok, Err, length, refl, arith}
use Rattle.serde_json.specs.View.{items_view}
use Rattle.serde_json.specs.declared.value.Value.{Value}
use Rattle.csvw_meta_core.specs.declared.fault.MetaFault.{MetaFault}
use Rattle.csvw_meta_core.specs.declared.fault.Refusal.{Refusal}
use Rattle.csvw_meta_core.specs.Read.{Read}
use Rattle.csvw_meta_core.specs.Reads.{Reads}
use Rattle.csvw_meta_core.specs.Rules.{also}
use Rattle.csvw_meta_core.specs.Several.{items_len}
use Rattle.csvw_meta_core.proofs.ReadLemmas.{fails_first, fails_last}

pub items_len-items_view : (vs : List Value) → items_len (items_view vs) ≡ length vs
items_len-items_view [] = refl
items_len-items_view (v ∷ vs) = let e = items_len-items_view vs in omega (arith, e)

pub ruleset counting = (items_len-items_view, fails_last)

-- What is read has as many items as it may.
pub counted : {A : Type 0} (result : Result A Refusal) (r : Read A) (faults : List MetaFault) → faults ≡ [] → Reads result r
    → Reads result (also r (λ own x. faults))
counted (Ok a) r faults none h = rw (h, none) refl
counted (Err e) r faults none h = fails_first e r.faults faults h

pub none_counted : (a b : Bool) (few many : MetaFault) → a ≡ false → b ≡ false → (if a then few ∷ [] else (if b then many ∷ [] else [])) ≡ []
none_counted false false few many h k = refl
none_counted true b few many h k = cc
none_counted false true few many h k = cc
