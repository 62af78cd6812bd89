-- A fault of one part is a fault of the whole.
use Rattle.std.proofs.Common.{◌≡◌, List, ◌++◌, subst, sym, Result, Ok, Err}
use Rattle.std.specs.Prelude.{⊤}
use Rattle.std.specs.Result.{IsErrAnd}
use Rattle.std.proofs.lemmas.List.Elements.{Contains-append_left}
use Rattle.csvw_meta_core.specs.declared.fault.MetaFault.{MetaFault}
use Rattle.csvw_meta_core.specs.declared.fault.Refusal.{Refusal}
use Rattle.csvw_meta_core.specs.declared.fault.Refusal.TheVariants as refusal
use Rattle.csvw_meta_core.specs.Reads.{Fails, Reads}
use Rattle.csvw_meta_core.specs.Read.{Read, fine, both}

pub fails_first : (e : Refusal) (xs ys : List MetaFault) → Fails e xs → Fails e (xs ++ ys)
fails_first refusal.Memory xs ys h = tt
fails_first (refusal.Fault f) xs ys h = Contains-append_left xs ys f h

-- What a `?` returns is a fault of what is read.
pub refused : {A : Type 0} (result : Result A Refusal) (e : Refusal) (r : Read A) → IsErrAnd result (λ y. y ≡ e) → Fails e r.faults → Reads result r
refused (Ok a) e r h f = absurd h
refused (Err y) e r h f = subst (λ z. Fails z r.faults) (sym h) f

-- A fault after a part that has none is reported.
pub later : {A : Type 0} (e : Refusal) (r : Read A) (a : A) (ys : List MetaFault) → r ≡ fine a → Fails e ys → Fails e (r.faults ++ ys)
later {A = A} e r a ys is h = subst (λ (s : Read A). Fails e (s.faults ++ ys)) (sym is) h

-- Checks one by one: the rest decides where the first has no fault, and a fault of the first is told.
module _ (first rest total : Read ⊤) (so_far : both (λ _ r. r) first rest ≡ total) where
  pub goes_on : (u : ⊤) → first ≡ fine u → rest ≡ total
  goes_on u is = subst (λ (r : Read ⊤). both (λ _ s. s) r rest ≡ total) is so_far

  pub stops : (e : Refusal) → Fails e first.faults → Fails e total.faults
  stops e h = subst (λ (r : Read ⊤). Fails e r.faults) so_far (fails_first e first.faults rest.faults h)
