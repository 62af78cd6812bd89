-- Reading the values of the items of an array one after another, as a loop does.
use Rattle.std.proofs.Common.{◌≡◌, ℕ, ◌+◌, ◌<◌, ◌≤◌, List, [], ◌∷◌, ◌++◌, length, drop, sym, ap, ◌∙◌, append_assoc, get_or, suc, add-one, ap₂, drop-cons, map, refl, take}
use Rattle.std.proofs.Math.Seq.{take-suc}
use Rattle.std.proofs.lemmas.List.{append-nil, drop_all, map-append}
use Rattle.serde_json.specs.Data.{Data, null, boolean, number, string, array, object}
use Rattle.serde_json.specs.View.{view, items_view}
use Rattle.serde_json.specs.declared.value.Value.{Value}
use Rattle.csvw_meta_core.specs.Pointer.{item_at}
use Rattle.csvw_meta_core.specs.Read.{Read, each_numbered}
use Rattle.csvw_meta_core.specs.Several.{several}
use Rattle.csvw_meta_faults_parts.specs.Items.{items_of}

-- what is left begins with the item at i
pub here : {X : Type 0} (vs : List X) (i : ℕ) (v : X) → i < length vs → v ≡ get_or vs i v → drop i vs ≡ v ∷ drop (i + 1) vs
here vs i v lt e = rw add-one (drop-cons vs i v lt ∙ ap (λ x. x ∷ drop (suc i) vs) (sym e))

module _ {A B : Type 0} (f : A → B) (reads : ℕ → List ℕ → Data → Read A) (at : List ℕ) where
  -- the values of the items from index i on, seen by f
  abbrev pub values_from : ℕ → List Value → List B
  values_from i vs = map f (each_numbered reads at i (items_view vs)).value

  pub value_more : (front : List B) (i : ℕ) (v : Value) (vs : List Value) (x : B) (total : List B) → i < length vs → v ≡ get_or vs i v
      → front ++ values_from i (drop i vs) ≡ total → x ≡ f (reads (i + 1) (item_at at i) (view v)).value
      → (front ++ x ∷ []) ++ values_from (i + 1) (drop (i + 1) vs) ≡ total
  value_more front i v vs x total lt is so_far e =
      append_assoc front (x ∷ []) (values_from (i + 1) (drop (i + 1) vs))
      ∙ (ap (λ y. front ++ y ∷ values_from (i + 1) (drop (i + 1) vs)) e ∙ (rw (here vs i v lt is) at so_far))

  pub values_done : (front : List B) (i : ℕ) (vs : List Value) (total : List B) → length vs ≤ i → front ++ values_from i (drop i vs) ≡ total
      → front ≡ total
  values_done front i vs total le so_far =
      let none : drop i vs ≡ [] = drop_all i vs le in
      sym (append-nil front) ∙ (rw none at so_far)

-- the first items and the next one, seen by f
module _ {X Y : Type 0} (f : X → Y) (xs : List X) (i : ℕ) where
  pub mapped_at : (x : X) (front : List Y) (y : Y) → i < length xs → front ≡ map f (take i xs) → y ≡ f (get_or xs i x)
      → front ++ y ∷ [] ≡ map f (take (i + 1) xs)
  mapped_at x front y lt so_far e =
      let next : take (i + 1) xs ≡ take i xs ++ get_or xs i x ∷ [] = rw add-one (take-suc xs i x lt) in
      ap₂ (λ ys z. ys ++ z ∷ []) so_far e ∙ (sym (map-append f (take i xs) (get_or xs i x ∷ [])) ∙ ap (map f) (sym next))

  pub mapped_more : (x : X) (front : List Y) (y : Y) → i < length xs → x ≡ get_or xs i x → front ≡ map f (take i xs) → y ≡ f x
      → front ++ y ∷ [] ≡ map f (take (i + 1) xs)
  mapped_more x front y lt is so_far e = mapped_at x front y lt so_far (e ∙ ap f is)

pub map_twice : {X Y Z : Type 0} (f : X → Y) (g : Y → Z) (xs : List X) → map g (map f xs) ≡ map (λ x. g (f x)) xs
map_twice f g [] = refl
map_twice f g (x ∷ xs) = ap (λ ys. g (f x) ∷ ys) (map_twice f g xs)

pub map_same : {X : Type 0} (xs : List X) → map (λ x. x) xs ≡ xs
map_same [] = refl
map_same (x ∷ xs) = ap (λ ys. x ∷ ys) (map_same xs)

-- The values of an array are those of its items, however many there are.
pub several_value : {A : Type 0} (least most : ℕ) (reads : ℕ → List ℕ → Data → Read A) (at : List ℕ) (d : Data)
    → (several least most reads at d).value ≡ (each_numbered reads at 0 (items_of d)).value
several_value least most reads at (array ds) = refl
several_value least most reads at null = refl
several_value least most reads at (boolean b) = refl
several_value least most reads at (number n) = refl
several_value least most reads at (string s) = refl
several_value least most reads at (object ms) = refl
