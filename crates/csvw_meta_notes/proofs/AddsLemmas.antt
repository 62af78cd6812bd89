-- A fault of what is added next is one of all that is added.
use Rattle.std.proofs.Common.{◌≡◌, ℕ, ◌+◌, ◌<◌, List, ◌∷◌, ◌++◌, length, drop, get_or, Option}
use Rattle.std.proofs.Common.{sym, ap, subst, ◌∙◌, suc, add-one, drop-cons, append_assoc}
use Rattle.url.specs.Parts.{Parts}
use Rattle.serde_json.specs.View.{view, items_view}
use Rattle.serde_json.specs.declared.value.Value.{Value}
use Rattle.csvw_meta_core.specs.declared.fault.Refusal.{Refusal}
use Rattle.csvw_meta_core.specs.Pointer.{item_at}
use Rattle.csvw_meta_core.specs.Read.{Read, both}
use Rattle.csvw_meta_core.specs.Reads.{Fails}
use Rattle.csvw_meta_notes.specs.Adds.{with_front}
use Rattle.csvw_description.specs.declared.note.Note.{Note}
use Rattle.csvw_meta_notes.specs.Annotations.{noted, all_noted}
use Rattle.csvw_meta_notes.proofs.ReadLemmas.{fails_first}

pub stops : {A : Type 0} (front : List A) (r rest total : Read (List A)) → with_front front (both (λ x y. x ++ y) r rest) ≡ total
    → (e : Refusal) → Fails e r.faults → Fails e total.faults
stops {A = A} front r rest total so_far e h = subst (λ (q : Read (List A)). Fails e q.faults) so_far (fails_first e r.faults rest.faults h)

-- what is left begins with the item at i
pub here : (vs : List Value) (i : ℕ) (v : Value) → i < length vs → v ≡ get_or vs i v → drop i vs ≡ v ∷ drop (i + 1) vs
here vs i v lt e = rw add-one (drop-cons vs i v lt ∙ ap (λ x. x ∷ drop (suc i) vs) (sym e))

-- What has been added, and then what is left.
pub grows : {A : Type 0} (new old more rest total : List A) → new ≡ old ++ more → old ++ (more ++ rest) ≡ total → new ++ rest ≡ total
grows new old more rest total is so_far = rw (is, append_assoc) so_far

module _ (base : Parts) (language : Option (List ℕ)) (key at : List ℕ) (vs : List Value) (front : List Note) (total : Read (List Note)) (i : ℕ)
    (so_far : with_front front (all_noted base language key at i (items_view (drop i vs))) ≡ total) where
  pub items_stop : (v : Value) → i < length vs → v ≡ get_or vs i v → (e : Refusal) → Fails e (noted base language key (item_at at i) (view v)).faults
      → Fails e total.faults
  items_stop v lt is e h =
      stops front (noted base language key (item_at at i) (view v)) (all_noted base language key at (i + 1) (items_view (drop (i + 1) vs))) total
      (rw (here vs i v lt is) at so_far) e h
