-- What a part of a document says (Metadata Vocabulary for Tabular Data, section 5.1): its faults and, if it has none, its value.
use Rattle.std.specs.Prelude.{ℕ, ◌+◌, List, [], ◌∷◌, ◌++◌, Option, Some, None, ⊤}
use Rattle.serde_json.specs.Data.{Num, unsigned, negative, float, Data, null, boolean, number, string, array, object, Items, no_items, item}
use Rattle.serde_json.specs.Find.{get}
use Rattle.csvw_meta_core.specs.declared.fault.MetaCode.{MetaCode}
use Rattle.csvw_meta_core.specs.declared.fault.MetaCode.TheVariants.{BadProperty, NotSupported}
use Rattle.csvw_meta_core.specs.declared.fault.MetaFault.{MetaFault}
use Rattle.csvw_meta_core.specs.Pointer.{below, item_at}

-- If there are faults, the value has no meaning.
pub record Read (A : Type 0) : Type 0 where
  pub faults : List MetaFault
  pub value : A

abbrev pub fine : {A : Type 0} → A → Read A
fine a = record { faults = []; value = a }

-- one fault, and some value in place of the missing one
abbrev pub faulty : {A : Type 0} → MetaCode → List ℕ → A → Read A
faulty code at a = record { faults = record { code = code; pointer = at } ∷ []; value = a }

-- This collects the faults of both parts.
infixl 10 ◌>>=◌
abbrev pub ◌>>=◌ : {A B : Type 0} → Read A → (A → Read B) → Read B
r >>= f = record { faults = r.faults ++ (f r.value).faults; value = (f r.value).value }

-- the same part with its value mapped
abbrev pub under : {A B : Type 0} → (A → B) → Read A → Read B
under f r = record { faults = r.faults; value = f r.value }

-- both parts
abbrev pub both : {A B C : Type 0} → (A → B → C) → Read A → Read B → Read C
both f r s = record { faults = r.faults ++ s.faults; value = f r.value s.value }

-- A part that has no meaning without a value. If the value can't be read, only the faults of the value are reported.
abbrev pub over_faults : {A B : Type 0} → B → List MetaFault → A → (A → Read B) → Read B
over_faults dummy [] a next = next a
over_faults dummy (f ∷ fs) a next = record { faults = f ∷ fs; value = dummy }

abbrev pub over : {A B : Type 0} → B → Read A → (A → Read B) → Read B
over dummy r next = over_faults dummy r.faults r.value next

-- ---- values of a wrong kind

-- A number that isn't whole is not supported, whatever kind is expected.
abbrev pub number_code : MetaCode → Num → MetaCode
number_code code (unsigned n) = code
number_code code (negative z) = code
number_code code (float x) = NotSupported

abbrev pub code_for : MetaCode → Data → MetaCode
code_for code null = code
code_for code (boolean b) = code
code_for code (number n) = number_code code n
code_for code (string s) = code
code_for code (array ds) = code
code_for code (object ms) = code

-- a value of a wrong kind, if that has a code of its own, and if it has not
abbrev pub wrong_as : {A : Type 0} → MetaCode → List ℕ → Data → A → Read A
wrong_as code at d dummy = faulty (code_for code d) at dummy

abbrev pub wrong : {A : Type 0} → List ℕ → Data → A → Read A
wrong at d dummy = wrong_as BadProperty at d dummy

-- the value as one of a kind, which is read on; a value of another kind is wrong
abbrev pub on_kind_as : {A B : Type 0} → MetaCode → List ℕ → Data → B → Option A → (A → Read B) → Read B
on_kind_as code at d dummy None reads = wrong_as code at d dummy
on_kind_as code at d dummy (Some x) reads = reads x

abbrev pub on_kind : {A B : Type 0} → List ℕ → Data → B → Option A → (A → Read B) → Read B
on_kind at d dummy o reads = on_kind_as BadProperty at d dummy o reads

-- an object, read on
abbrev pub on_object : {A : Type 0} → List ℕ → Data → A → Read A → Read A
on_object at (object ms) dummy r = r
on_object at null dummy r = wrong at null dummy
on_object at (boolean b) dummy r = wrong at (boolean b) dummy
on_object at (number n) dummy r = wrong at (number n) dummy
on_object at (string s) dummy r = wrong at (string s) dummy
on_object at (array ds) dummy r = wrong at (array ds) dummy

-- the same if a text would be the URL of the object, which is not supported
abbrev pub on_linked_object : {A : Type 0} → List ℕ → Data → A → Read A → Read A
on_linked_object at (object ms) dummy r = r
on_linked_object at null dummy r = wrong at null dummy
on_linked_object at (boolean b) dummy r = wrong at (boolean b) dummy
on_linked_object at (number n) dummy r = wrong at (number n) dummy
on_linked_object at (string s) dummy r = faulty NotSupported at dummy
on_linked_object at (array ds) dummy r = wrong at (array ds) dummy

-- a value of a kind, or null
abbrev pub or_null : {A : Type 0} → (List ℕ → Data → Read A) → List ℕ → Data → Read (Option A)
or_null reads at null = fine None
or_null reads at (boolean b) = under Some (reads at (boolean b))
or_null reads at (number n) = under Some (reads at (number n))
or_null reads at (string s) = under Some (reads at (string s))
or_null reads at (array ds) = under Some (reads at (array ds))
or_null reads at (object ms) = under Some (reads at (object ms))

-- not supported, whatever the value
abbrev pub not_yet : List ℕ → Data → Read ⊤
not_yet at d = faulty NotSupported at tt

-- ---- properties

-- a property that may be missing
abbrev pub given : {A : Type 0} → (List ℕ → Data → Read A) → A → List ℕ → Option Data → Read A
given reads default at None = fine default
given reads default at (Some d) = reads at d

abbrev pub property : {A : Type 0} → (List ℕ → Data → Read A) → A → List ℕ → Data → List ℕ → Read A
property reads default at d name = given reads default (below at name) (get name d)

-- a property's value, or None if it is missing
abbrev pub optional : {A : Type 0} → (List ℕ → Data → Read A) → List ℕ → Data → List ℕ → Read (Option A)
optional reads at d name = property (λ p v. under Some (reads p v)) None at d name

-- a property that may not be missing
abbrev pub found : {A : Type 0} → (List ℕ → Data → Read A) → A → List ℕ → List ℕ → Option Data → Read A
found reads dummy at name None = faulty BadProperty at dummy
found reads dummy at name (Some d) = reads (below at name) d

abbrev pub needed : {A : Type 0} → (List ℕ → Data → Read A) → A → List ℕ → Data → List ℕ → Read A
needed reads dummy at d name = found reads dummy at name (get name d)

-- ---- arrays

-- each item of an array, the first of which has the index i here; what an item says may depend on its number, from 1
abbrev pub each_numbered : {A : Type 0} → (ℕ → List ℕ → Data → Read A) → List ℕ → ℕ → Items → Read (List A)
each_numbered reads at i no_items = fine []
each_numbered reads at i (item d ds) =
    both (λ x xs. x ∷ xs) (reads (i + 1) (item_at at i) d) (each_numbered reads at (i + 1) ds)

abbrev pub each : {A : Type 0} → (List ℕ → Data → Read A) → List ℕ → ℕ → Items → Read (List A)
each reads at i ds = each_numbered (λ n. reads) at i ds
