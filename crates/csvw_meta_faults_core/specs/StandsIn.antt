-- The value in place of one that can't be read: `StandsIn` (Metadata Vocabulary for Tabular Data, section 5.1).
use Rattle.std.specs.Prelude.{◌≡◌, ℕ, List, [], ◌∷◌, Bool, true, false, Option, Some, None, if◌then◌else◌}
use Rattle.std.proofs.Common.{refl, ap}
use Rattle.serde_json.specs.Data.{Data, null, boolean, number, string, array, object}
use Rattle.serde_json.specs.Find.{as_bool}
use Rattle.csvw_meta_core.specs.declared.fault.MetaCode.{MetaCode}
use Rattle.csvw_meta_core.specs.declared.fault.MetaCode.TheVariants.{BadProperty}
use Rattle.csvw_meta_core.specs.declared.fault.MetaFault.{MetaFault}
use Rattle.csvw_meta_core.specs.Kinds.{truth}
use Rattle.csvw_meta_core.specs.Read.{Read, fine, over_faults, on_kind_as, or_null}

-- where there are faults, the value is this one
abbrev pub InPlace : {A : Type 0} → A → List MetaFault → A → Type 0
InPlace dummy [] a = Unit {0}
InPlace dummy (f ∷ fs) a = a ≡ dummy

abbrev pub StandsIn : {A : Type 0} → A → Read A → Type 0
StandsIn dummy r = InPlace dummy r.faults r.value

-- ---- what follows for parts

pub test_stands : {A : Type 0} (dummy : A) (b : Bool) (r s : Read A) → StandsIn dummy r → StandsIn dummy s → StandsIn dummy (if b then r else s)
test_stands dummy true r s h k = h
test_stands dummy false r s h k = k

pub kind_stands : {A B : Type 0} (code : MetaCode) (at : List ℕ) (d : Data) (dummy : B) (o : Option A) (reads : A → Read B)
    → ((a : A) → StandsIn dummy (reads a)) → StandsIn dummy (on_kind_as code at d dummy o reads)
kind_stands code at d dummy None reads h = refl
kind_stands code at d dummy (Some a) reads h = h a

pub over_stands : {A B : Type 0} (dummy : B) (fs : List MetaFault) (a : A) (next : A → Read B) → ((x : A) → StandsIn dummy (next x))
    → StandsIn dummy (over_faults dummy fs a next)
over_stands dummy [] a next rest = rest a
over_stands dummy (f ∷ fs) a next rest = refl

pub mapped_stands : {A B : Type 0} (f : A → B) (dummy : A) (fs : List MetaFault) (a : A) → InPlace dummy fs a → InPlace (f dummy) fs (f a)
mapped_stands f dummy [] a h = tt
mapped_stands f dummy (g ∷ fs) a h = ap f h

pub or_null_stands : {A : Type 0} (dummy : A) (reads : List ℕ → Data → Read A) → ((at : List ℕ) (d : Data) → StandsIn dummy (reads at d))
    → (at : List ℕ) (d : Data) → StandsIn (Some dummy) (or_null reads at d)
or_null_stands dummy reads each at null = tt
or_null_stands dummy reads each at (boolean b) = let r = reads at (boolean b) in mapped_stands Some dummy r.faults r.value (each at (boolean b))
or_null_stands dummy reads each at (number n) = let r = reads at (number n) in mapped_stands Some dummy r.faults r.value (each at (number n))
or_null_stands dummy reads each at (string s) = let r = reads at (string s) in mapped_stands Some dummy r.faults r.value (each at (string s))
or_null_stands dummy reads each at (array ds) = let r = reads at (array ds) in mapped_stands Some dummy r.faults r.value (each at (array ds))
or_null_stands dummy reads each at (object ms) = let r = reads at (object ms) in mapped_stands Some dummy r.faults r.value (each at (object ms))

-- ---- kinds of value

pub truth_stands_in : (at : List ℕ) (d : Data) → StandsIn false (truth at d)
truth_stands_in at d = kind_stands BadProperty at d false (as_bool d) fine (λ _. tt)
