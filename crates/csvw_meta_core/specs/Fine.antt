-- What holds of the value of a part without faults.
use Rattle.std.specs.Prelude.{◌≡◌, ℕ, ◌+◌, List, [], ◌∷◌, ◌++◌, Bool, true, false, Option, Some, None, if◌then◌else◌, ⊤, All}
use Rattle.std.proofs.Common.{refl, subst}
use Rattle.std.proofs.lemmas.List.Elements.{All-cons, All-nil}
use Rattle.serde_json.specs.Data.{Data, null, boolean, number, string, array, object, Items, no_items, item}
use Rattle.serde_json.specs.Find.{get}
use Rattle.csvw_meta_core.specs.declared.fault.MetaFault.{MetaFault}
use Rattle.csvw_meta_core.specs.Pointer.{below, item_at}
use Rattle.csvw_meta_core.specs.Read.{Read, on_linked_object, given, property, each_numbered}
use Rattle.csvw_meta_core.specs.Rules.{also}

-- if the part has no fault, its value has the property
abbrev pub Ensures : {A : Type 0} → Read A → (A → Type 0) → Type 0
Ensures r P = r.faults ≡ [] → P r.value

abbrev IsCons : {X : Type 0} → List X → Type 0
IsCons [] = ⊥
IsCons (x ∷ xs) = ⊤

pub not_none : {X : Type 0} (x : X) (xs : List X) → x ∷ xs ≡ [] → ⊥
not_none x xs h = subst IsCons h tt

pub none_in_both : {X : Type 0} (xs ys : List X) → xs ++ ys ≡ [] → (xs ≡ []) × (ys ≡ [])
none_in_both [] ys h = (refl, h)
none_in_both (x ∷ xs) ys h = absurd (not_none x (xs ++ ys) h)

pub if_fine : {A : Type 0} (P : A → Type 0) (b : Bool) (r s : Read A) → (b ≡ true → Ensures r P) → (b ≡ false → Ensures s P) → Ensures (if b then r else s) P
if_fine P true r s p q h = p refl h
if_fine P false r s p q h = q refl h

pub also_fine : {A : Type 0} (Q P : A → Type 0) (r : Read A) (rule : List MetaFault → A → List MetaFault)
    → Ensures r Q → ((a : A) → Q a → rule [] a ≡ [] → P a) → Ensures (also r rule) P
also_fine Q P r rule q p h =
    let both = none_in_both r.faults (rule r.faults r.value) h in
    p r.value (q both.0) (subst (λ faults. rule faults r.value ≡ []) both.0 both.1)

pub on_linked_fine : {A : Type 0} (P : A → Type 0) (at : List ℕ) (d : Data) (dummy : A) (r : Read A) → Ensures r P → Ensures (on_linked_object at d dummy r) P
on_linked_fine P at (object ms) dummy r p h = p h
on_linked_fine P at null dummy r p h = absurd (not_none _ _ h)
on_linked_fine P at (boolean b) dummy r p h = absurd (not_none _ _ h)
on_linked_fine P at (number n) dummy r p h = absurd (not_none _ _ h)
on_linked_fine P at (string s) dummy r p h = absurd (not_none _ _ h)
on_linked_fine P at (array ds) dummy r p h = absurd (not_none _ _ h)

module _ {A : Type 0} (P : A → Type 0) (reads : List ℕ → Data → Read A) (each : (at : List ℕ) (d : Data) → Ensures (reads at d) P) where
  given_fine : (default : A) → P default → (at : List ℕ) (o : Option Data) → Ensures (given reads default at o) P
  given_fine default p at None h = p
  given_fine default p at (Some d) h = each at d h

  pub property_fine : (default : A) → P default → (at : List ℕ) (d : Data) (name : List ℕ) → Ensures (property reads default at d name) P
  property_fine default p at d name = given_fine default p (below at name) (get name d)

module _ {A : Type 0} (P : A → Type 0) (reads : ℕ → List ℕ → Data → Read A) (each : (n : ℕ) (at : List ℕ) (d : Data) → Ensures (reads n at d) P) where
  pub each_fine : (at : List ℕ) (i : ℕ) (ds : Items) → Ensures (each_numbered reads at i ds) (All P)
  each_fine at i no_items h = All-nil P
  each_fine at i (item d ds) h =
      let parts = none_in_both (reads (i + 1) (item_at at i) d).faults (each_numbered reads at (i + 1) ds).faults h in
      All-cons P (reads (i + 1) (item_at at i) d).value (each_numbered reads at (i + 1) ds).value (each (i + 1) (item_at at i) d parts.0)
      (each_fine at (i + 1) ds parts.1)
