-- Reading the items of an array one after another, as a loop does.
use Rattle.std.proofs.Common.{◌≡◌, ℕ, ◌+◌, ◌<◌, ◌≤◌, List, [], ◌∷◌, ◌++◌, length, drop, sym, ap, subst, ◌∙◌, append_assoc, get_or, suc, add-one, drop-cons}
use Rattle.std.proofs.lemmas.List.{append-nil, drop_all}
use Rattle.serde_json.specs.Data.{Data}
use Rattle.serde_json.specs.View.{view, items_view}
use Rattle.serde_json.specs.declared.value.Value.{Value}
use Rattle.csvw_meta_core.specs.declared.fault.Refusal.{Refusal}
use Rattle.csvw_meta_core.specs.Pointer.{item_at}
use Rattle.csvw_meta_core.specs.Read.{Read, fine, both, each_numbered}
use Rattle.csvw_meta_core.specs.Reads.{Fails}
use Rattle.csvw_meta_core.proofs.ReadLemmas.{fails_first}

-- what was read before, and what is still read
abbrev pub with_front : {A : Type 0} → List A → Read (List A) → Read (List A)
with_front front r = record { faults = r.faults; value = front ++ r.value }

-- what is left begins with the item at i
pub here : (vs : List Value) (i : ℕ) (v : Value) → i < length vs → v ≡ get_or vs i v → drop i vs ≡ v ∷ drop (i + 1) vs
here vs i v lt e = rw add-one (drop-cons vs i v lt ∙ ap (λ x. x ∷ drop (suc i) vs) (sym e))

module _ {A : Type 0} (reads : ℕ → List ℕ → Data → Read A) (at : List ℕ) (total : Read (List A)) where
  pub goes_on : (front : List A) (i : ℕ) (v : Value) (vs : List Value) (x : A)
      → with_front front (each_numbered reads at i (items_view (v ∷ vs))) ≡ total → reads (i + 1) (item_at at i) (view v) ≡ fine x
      → with_front (front ++ x ∷ []) (each_numbered reads at (i + 1) (items_view vs)) ≡ total
  goes_on front i v vs x so_far e =
      let rest = each_numbered reads at (i + 1) (items_view vs) in
      let one : with_front front (both (λ y ys. y ∷ ys) (reads (i + 1) (item_at at i) (view v)) rest) ≡ with_front front (both (λ y ys. y ∷ ys) (fine x) rest) =
      ap (λ r. with_front front (both (λ y ys. y ∷ ys) r rest)) e in
      let two : with_front (front ++ x ∷ []) rest ≡ with_front front (both (λ y ys. y ∷ ys) (fine x) rest) =
      ap (λ (ys : List A). let r : Read (List A) = record { faults = rest.faults; value = ys } in r) (append_assoc front (x ∷ []) rest.value) in
      two ∙ sym one ∙ so_far

  pub ends : (front : List A) (i : ℕ) (v : Value) (vs : List Value) (e : Refusal)
      → with_front front (each_numbered reads at i (items_view (v ∷ vs))) ≡ total → Fails e (reads (i + 1) (item_at at i) (view v)).faults
      → Fails e total.faults
  ends front i v vs e so_far h =
      subst (λ (r : Read (List A)). Fails e r.faults) so_far (fails_first e _ (each_numbered reads at (i + 1) (items_view vs)).faults h)

  pub is_done : (front : List A) (i : ℕ) (vs : List Value) → length vs ≤ i → with_front front (each_numbered reads at i (items_view (drop i vs))) ≡ total
      → total ≡ fine front
  is_done front i vs le so_far =
      let none : drop i vs ≡ [] = drop_all i vs le in
      sym (rw none at so_far) ∙ ap fine (append-nil front)

  pub goes_on_at : (front : List A) (i : ℕ) (v : Value) (vs : List Value) (x : A) → i < length vs → v ≡ get_or vs i v
      → with_front front (each_numbered reads at i (items_view (drop i vs))) ≡ total → reads (i + 1) (item_at at i) (view v) ≡ fine x
      → with_front (front ++ x ∷ []) (each_numbered reads at (i + 1) (items_view (drop (i + 1) vs))) ≡ total
  goes_on_at front i v vs x lt e so_far h = goes_on front i v (drop (i + 1) vs) x (rw (here vs i v lt e) at so_far) h

  pub ends_at : (front : List A) (i : ℕ) (v : Value) (vs : List Value) (e : Refusal) → i < length vs → v ≡ get_or vs i v
      → with_front front (each_numbered reads at i (items_view (drop i vs))) ≡ total → Fails e (reads (i + 1) (item_at at i) (view v)).faults
      → Fails e total.faults
  ends_at front i v vs e lt is so_far h = ends front i v (drop (i + 1) vs) e (rw (here vs i v lt is) at so_far) h
