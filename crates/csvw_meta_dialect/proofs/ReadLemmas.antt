-- A fault of one part is a fault of the whole.
use Rattle.std.proofs.Common.{◌≡◌, List, [], ◌∷◌, ◌++◌, arith, subst, sym, Result, Ok, Err}
use Rattle.std.specs.Result.{IsErrAnd}
use Rattle.std.proofs.lemmas.List.Elements.{Contains-append_left}
use Rattle.csvw_meta_core.specs.declared.fault.MetaFault.{MetaFault}
use Rattle.csvw_meta_core.specs.declared.fault.Refusal.{Refusal}
use Rattle.csvw_meta_core.specs.declared.fault.Refusal.TheVariants as refusal
use Rattle.csvw_meta_core.specs.Reads.{Fails, Reads}
use Rattle.csvw_meta_core.specs.Read.{Read, fine, over_faults}

pub fails_first : (e : Refusal) (xs ys : List MetaFault) → Fails e xs → Fails e (xs ++ ys)
fails_first refusal.Memory xs ys h = tt
fails_first (refusal.Fault f) xs ys h = Contains-append_left xs ys f h

-- A fault of what has to be there first is told.
pub fails_over : {A B : Type 0} (e : Refusal) (dummy : B) (xs : List MetaFault) (a : A) (next : A → Read B)
    → Fails e xs → Fails e (over_faults dummy xs a next).faults
fails_over refusal.Memory dummy xs a next h = tt
fails_over (refusal.Fault f) dummy [] a next h = absurd (omega (arith, h.1))
fails_over (refusal.Fault f) dummy (x ∷ xs) a next h = h

-- What a `?` returns is told in what is read.
pub refused : {A : Type 0} (result : Result A Refusal) (e : Refusal) (r : Read A) → IsErrAnd result (λ y. y ≡ e) → Fails e r.faults → Reads result r
refused (Ok a) e r h f = absurd h
refused (Err y) e r h f = subst (λ z. Fails z r.faults) (sym h) f

-- A fault behind a part that has none is told.
pub later : {A : Type 0} (e : Refusal) (r : Read A) (a : A) (ys : List MetaFault) → r ≡ fine a → Fails e ys → Fails e (r.faults ++ ys)
later {A = A} e r a ys is h = subst (λ (s : Read A). Fails e (s.faults ++ ys)) (sym is) h
