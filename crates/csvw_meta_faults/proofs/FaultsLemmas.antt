-- Faults that are added part after part, as a loop does.
use Rattle.std.proofs.Common.{◌≡◌, ℕ, ◌+◌, ◌<◌, ◌≤◌, List, [], ◌∷◌, ◌++◌, length, drop, get_or, sym, ◌∙◌, refl, append_assoc, arith, flat_map, nat_lt, false}
use Rattle.std.proofs.lemmas.List.{append-nil, drop_all}
use Rattle.std.proofs.lemmas.Bool.Decides.{nat_tests}
use Rattle.serde_json.specs.Data.{Data}
use Rattle.serde_json.specs.View.{view, items_view}
use Rattle.serde_json.specs.declared.value.Value.{Value}
use Rattle.csvw_meta_core.specs.declared.fault.MetaFault.{MetaFault}
use Rattle.csvw_meta_core.specs.Pointer.{item_at}
use Rattle.csvw_meta_core.specs.Read.{Read, each_numbered}
use Rattle.csvw_meta_core.specs.Several.{items_len, count_faults}
use Rattle.csvw_meta_faults.proofs.ItemsLemmas.{here}

-- what has been added, and then what is left
pub grows : {A : Type 0} (new old more rest total : List A) → new ≡ old ++ more → old ++ (more ++ rest) ≡ total → new ++ rest ≡ total
grows new old more rest total is so_far = rw (is, append_assoc) so_far

module _ {A : Type 0} (reads : ℕ → List ℕ → Data → Read A) (at : List ℕ) (total : List MetaFault) where
  pub goes_on : (new old : List MetaFault) (i : ℕ) (v : Value) (vs : List Value) → i < length vs → v ≡ get_or vs i v
      → old ++ (each_numbered reads at i (items_view (drop i vs))).faults ≡ total → new ≡ old ++ (reads (i + 1) (item_at at i) (view v)).faults
      → new ++ (each_numbered reads at (i + 1) (items_view (drop (i + 1) vs))).faults ≡ total
  goes_on new old i v vs lt is so_far h =
      grows new old (reads (i + 1) (item_at at i) (view v)).faults (each_numbered reads at (i + 1) (items_view (drop (i + 1) vs))).faults total h
      (rw (here vs i v lt is) at so_far)

  pub is_done : (new : List MetaFault) (i : ℕ) (vs : List Value) → length vs ≤ i
      → new ++ (each_numbered reads at i (items_view (drop i vs))).faults ≡ total → new ≡ total
  is_done new i vs le so_far = let none : drop i vs ≡ [] = drop_all i vs le in sym (append-nil new) ∙ (rw none at so_far)

-- the faults of the items of a list, one item after the other
module _ {X : Type 0} (f : X → List MetaFault) (total : List MetaFault) where
  pub each_more : (new old : List MetaFault) (i : ℕ) (x : X) (xs : List X) → i < length xs → x ≡ get_or xs i x
      → old ++ flat_map f (drop i xs) ≡ total → new ≡ old ++ f x → new ++ flat_map f (drop (i + 1) xs) ≡ total
  each_more new old i x xs lt is so_far h =
      grows new old (f x) (flat_map f (drop (i + 1) xs)) total h (rw (here xs i x lt is) at so_far)

  pub each_done : (new : List MetaFault) (i : ℕ) (xs : List X) → length xs ≤ i → new ++ flat_map f (drop i xs) ≡ total → new ≡ total
  each_done new i xs le so_far = let none : drop i xs ≡ [] = drop_all i xs le in sym (append-nil new) ∙ (rw none at so_far)

pub items_len_view : (vs : List Value) → items_len (items_view vs) ≡ length vs
items_len_view [] = refl
items_len_view (v ∷ vs) = let e = items_len_view vs in omega (arith, e)

-- A number of items within the limits is no fault.
pub count_none : (least most : ℕ) (at : List ℕ) (vs : List Value) → least ≤ length vs → length vs ≤ most → count_faults least most at (items_view vs) ≡ []
count_none least most at vs enough within =
    let e = items_len_view vs in
    let few : nat_lt (items_len (items_view vs)) least ≡ false = grind (arith, nat_tests) in
    let many : nat_lt most (items_len (items_view vs)) ≡ false = grind (arith, nat_tests) in
    rw (few, many) refl
