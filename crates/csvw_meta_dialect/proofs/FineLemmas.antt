-- What holds of a value of a kind without faults.
use Rattle.std.proofs.Common.{◌≡◌, ℕ, List, [], ◌∷◌, Option, Some, None, refl, IfSome}
use Rattle.serde_json.specs.Data.{Data, null, boolean, number, string, array, object}
use Rattle.csvw_meta_core.specs.declared.fault.MetaCode.{MetaCode}
use Rattle.csvw_meta_core.specs.declared.fault.MetaFault.{MetaFault}
use Rattle.csvw_meta_core.specs.Read.{Read, over_faults, over, on_kind_as, or_null}
use Rattle.csvw_meta_core.specs.Fine.{Ensures}

over_none : {A B : Type 0} (Q : A → Type 0) (P : B → Type 0) (dummy : B) (faults : List MetaFault) (a : A) (next : A → Read B)
    → (faults ≡ [] → Q a) → (Q a → Ensures (next a) P) → Ensures (over_faults dummy faults a next) P
over_none Q P dummy [] a next q p h = p (q refl) h
over_none Q P dummy (f ∷ fs) a next q p h = cc

pub over_fine : {A B : Type 0} (Q : A → Type 0) (P : B → Type 0) (dummy : B) (r : Read A) (next : A → Read B)
    → Ensures r Q → ((a : A) → Q a → Ensures (next a) P) → Ensures (over dummy r next) P
over_fine Q P dummy r next q p = over_none Q P dummy r.faults r.value next q (p r.value)

pub on_kind_fine : {A B : Type 0} (P : B → Type 0) (code : MetaCode) (at : List ℕ) (d : Data) (dummy : B) (o : Option A) (reads : A → Read B)
    → ((a : A) → Ensures (reads a) P) → Ensures (on_kind_as code at d dummy o reads) P
on_kind_fine P code at d dummy None reads p h = cc
on_kind_fine P code at d dummy (Some a) reads p h = p a h

pub or_null_fine : {A : Type 0} (P : A → Type 0) (reads : List ℕ → Data → Read A) → ((at : List ℕ) (d : Data) → Ensures (reads at d) P)
    → (at : List ℕ) (d : Data) → Ensures (or_null reads at d) (λ o. IfSome o P)
or_null_fine P reads each at null h = tt
or_null_fine P reads each at (boolean b) h = each at (boolean b) h
or_null_fine P reads each at (number n) h = each at (number n) h
or_null_fine P reads each at (string s) h = each at (string s) h
or_null_fine P reads each at (array ds) h = each at (array ds) h
or_null_fine P reads each at (object ms) h = each at (object ms) h
