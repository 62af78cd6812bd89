-- What holds of an object, a property or an array without faults.
use Rattle.std.proofs.Common.{◌≡◌, ◌≤◌, ◌+◌, ℕ, List, [], ◌∷◌, Bool, true, false, Option, Some, None, refl, arith, length, nat_lt}
use Rattle.std.proofs.Common.{if◌then◌else◌, IfSome, All}
use Rattle.std.proofs.lemmas.Bool.{ltb-false}
use Rattle.serde_json.specs.Data.{Data, null, boolean, number, string, array, object, Items, no_items, item}
use Rattle.serde_json.specs.Find.{get}
use Rattle.csvw_meta_core.specs.declared.fault.MetaCode.TheVariants.{BadProperty, TooMany}
use Rattle.csvw_meta_core.specs.declared.fault.MetaFault.{MetaFault}
use Rattle.csvw_meta_core.specs.Pointer.{below}
use Rattle.csvw_meta_core.specs.Read.{Read, on_object, optional, found, needed, each_numbered, under}
use Rattle.csvw_meta_core.specs.Fine.{Ensures, also_fine, property_fine, each_fine}
use Rattle.csvw_meta_core.specs.Several.{count_faults, items_len, some_items, several}

pub on_object_fine : {A : Type 0} (P : A → Type 0) (at : List ℕ) (d : Data) (dummy : A) (r : Read A) → Ensures r P → Ensures (on_object at d dummy r) P
on_object_fine P at (object ms) dummy r p h = p h
on_object_fine P at null dummy r p h = cc
on_object_fine P at (boolean b) dummy r p h = cc
on_object_fine P at (number n) dummy r p h = cc
on_object_fine P at (string s) dummy r p h = cc
on_object_fine P at (array ds) dummy r p h = cc

-- ---- properties

module _ {A : Type 0} (P : A → Type 0) (reads : List ℕ → Data → Read A) (each : (at : List ℕ) (d : Data) → Ensures (reads at d) P) where
  found_fine : (dummy : A) (at name : List ℕ) (o : Option Data) → Ensures (found reads dummy at name o) P
  found_fine dummy at name None h = cc
  found_fine dummy at name (Some d) h = each (below at name) d h

  pub needed_fine : (dummy : A) (at : List ℕ) (d : Data) (name : List ℕ) → Ensures (needed reads dummy at d name) P
  needed_fine dummy at d name = found_fine dummy at name (get name d)

pub optional_fine : {A : Type 0} (P : A → Type 0) (reads : List ℕ → Data → Read A) → ((at : List ℕ) (d : Data) → Ensures (reads at d) P)
    → (at : List ℕ) (d : Data) (name : List ℕ) → Ensures (optional reads at d name) (λ o. IfSome o P)
optional_fine P reads each at d name = property_fine (λ o. IfSome o P) (λ p v. under Some (reads p v)) (λ p v. each p v) None tt at d name

-- ---- arrays

not_many : (a b : Bool) (few many : MetaFault) → (if a then few ∷ [] else (if b then many ∷ [] else [])) ≡ [] → b ≡ false
not_many true b few many h = cc
not_many false true few many h = cc
not_many false false few many h = refl

-- as many as there are items
each_count : {A : Type 0} (reads : ℕ → List ℕ → Data → Read A) (at : List ℕ) (i : ℕ) (ds : Items) → length (each_numbered reads at i ds).value ≡ items_len ds
each_count reads at i no_items = refl
each_count reads at i (item d ds) = let count = each_count reads at (i + 1) ds in omega (arith, count)

module _ {A : Type 0} (P : A → Type 0) (reads : ℕ → List ℕ → Data → Read A) (each : (n : ℕ) (at : List ℕ) (d : Data) → Ensures (reads n at d) P) where
  within : (most n : ℕ) (xs : List A) → nat_lt most n ≡ false → length xs ≡ n → length xs ≤ most
  within most n xs less count = let le = ltb-false most n less in omega (arith, count, le)

  some_fine : (least most : ℕ) (at : List ℕ) (ds : Items) → Ensures (some_items least most reads at ds) (λ xs. All P xs × (length xs ≤ most))
  some_fine least most at ds =
      let few : MetaFault = record { code = BadProperty; pointer = at } in
      let many : MetaFault = record { code = TooMany; pointer = at } in
      also_fine (λ xs. All P xs × (length xs ≡ items_len ds)) (λ xs. All P xs × (length xs ≤ most)) (each_numbered reads at 0 ds)
      (λ faults xs. count_faults least most at ds)
      (λ h. (each_fine P reads each at 0 ds h, each_count reads at 0 ds))
      (λ xs items h. (
        items.0,
        within most (items_len ds) xs (not_many (nat_lt (items_len ds) least) (nat_lt most (items_len ds)) few many h) items.1,
      ))

  pub several_fine : (least most : ℕ) (at : List ℕ) (d : Data) → Ensures (several least most reads at d) (λ xs. All P xs × (length xs ≤ most))
  several_fine least most at (array ds) h = some_fine least most at ds h
  several_fine least most at null h = cc
  several_fine least most at (boolean b) h = cc
  several_fine least most at (number n) h = cc
  several_fine least most at (string s) h = cc
  several_fine least most at (object ms) h = cc
