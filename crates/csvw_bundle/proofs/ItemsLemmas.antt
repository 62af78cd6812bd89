-- Tables that are read one after the other. The check doesn't find by itself what is left to read.
use Rattle.std.proofs.Common.{◌≡◌, ℕ, ◌+◌, ◌<◌, ◌≤◌, List, [], ◌∷◌, ◌++◌, length, drop, refl, sym, ap, subst, ◌∙◌, get_or, suc, add-one, drop-cons}
use Rattle.std.proofs.lemmas.List.{drop_all}
use Rattle.serde_json.specs.Data.{Items, no_items, item}
use Rattle.serde_json.specs.View.{view, items_view}
use Rattle.serde_json.specs.declared.value.Value.{Value}
use Rattle.url.specs.Parts.{Parts}
use Rattle.csvw_meta_core.specs.declared.fault.Refusal.{Refusal}
use Rattle.csvw_meta_core.specs.Pointer.{item_at}
use Rattle.csvw_meta_core.specs.Read.{Read, fine, both}
use Rattle.csvw_meta_core.specs.Reads.{Fails}
use Rattle.csvw_bundle.specs.declared.resource.Resource.{Resource}
use Rattle.csvw_bundle.specs.Bundles.{table, table_items}
use Rattle.csvw_bundle.proofs.ReadLemmas.{fails_first}

-- these items, and then those
abbrev pub before : List Value → Items → Items
before [] ds = ds
before (v ∷ vs) ds = item (view v) (before vs ds)

before_last : (vs : List Value) (v : Value) (ds : Items) → before (vs ++ v ∷ []) ds ≡ before vs (item (view v) ds)
before_last [] v ds = refl
before_last (x ∷ vs) v ds = ap (item (view x)) (before_last vs v ds)

before_none : (vs : List Value) → before vs no_items ≡ items_view vs
before_none [] = refl
before_none (v ∷ vs) = ap (item (view v)) (before_none vs)

-- what was read before, and what is still read
abbrev pub with_front : List Value → Read Items → Read Items
with_front front r = record { faults = r.faults; value = before front r.value }

here : (vs : List Value) (i : ℕ) (v : Value) → i < length vs → v ≡ get_or vs i v → drop i vs ≡ v ∷ drop (i + 1) vs
here vs i v lt e = rw add-one (drop-cons vs i v lt ∙ ap (λ x. x ∷ drop (suc i) vs) (sym e))

module _ (rs : List Resource) (base : Parts) (at : List ℕ) (total : Read Items) where
  abbrev left : ℕ → List Value → Read Items
  left i vs = table_items rs base at i (items_view vs)

  goes_on : (front : List Value) (i : ℕ) (v : Value) (vs : List Value) (x : Value) → with_front front (left i (v ∷ vs)) ≡ total
      → table rs base (item_at at i) (view v) ≡ fine (view x) → with_front (front ++ x ∷ []) (left (i + 1) vs) ≡ total
  goes_on front i v vs x so_far e =
      let rest = left (i + 1) vs in
      let one : with_front front (both item (table rs base (item_at at i) (view v)) rest) ≡ with_front front (both item (fine (view x)) rest) =
      ap (λ r. with_front front (both item r rest)) e in
      let two : with_front (front ++ x ∷ []) rest ≡ with_front front (both item (fine (view x)) rest) =
      ap (λ (ds : Items). let r : Read Items = record { faults = rest.faults; value = ds } in r) (before_last front x rest.value) in
      two ∙ sym one ∙ so_far

  pub goes_on_at : (front : List Value) (i : ℕ) (v : Value) (vs : List Value) (x : Value) → i < length vs → v ≡ get_or vs i v
      → with_front front (left i (drop i vs)) ≡ total → table rs base (item_at at i) (view v) ≡ fine (view x)
      → with_front (front ++ x ∷ []) (left (i + 1) (drop (i + 1) vs)) ≡ total
  goes_on_at front i v vs x lt e so_far h = goes_on front i v (drop (i + 1) vs) x (rw (here vs i v lt e) at so_far) h

  ends : (front : List Value) (i : ℕ) (v : Value) (vs : List Value) (e : Refusal) → with_front front (left i (v ∷ vs)) ≡ total
      → Fails e (table rs base (item_at at i) (view v)).faults → Fails e total.faults
  ends front i v vs e so_far h = subst (λ (r : Read Items). Fails e r.faults) so_far (fails_first e _ (left (i + 1) vs).faults h)

  pub ends_at : (front : List Value) (i : ℕ) (v : Value) (vs : List Value) (e : Refusal) → i < length vs → v ≡ get_or vs i v
      → with_front front (left i (drop i vs)) ≡ total → Fails e (table rs base (item_at at i) (view v)).faults → Fails e total.faults
  ends_at front i v vs e lt is so_far h = ends front i v (drop (i + 1) vs) e (rw (here vs i v lt is) at so_far) h

  pub is_done : (front : List Value) (i : ℕ) (vs : List Value) → length vs ≤ i → with_front front (left i (drop i vs)) ≡ total
      → total ≡ fine (items_view front)
  is_done front i vs le so_far =
      let none : drop i vs ≡ [] = drop_all i vs le in
      sym (rw none at so_far) ∙ ap fine (before_none front)
