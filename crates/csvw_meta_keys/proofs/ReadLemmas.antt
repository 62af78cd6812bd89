-- A fault of one part is a fault of the whole.
use Rattle.std.proofs.Common.{◌≡◌, List, ◌++◌, subst, sym, Result, Ok, Err}
use Rattle.std.specs.Result.{IsErrAnd}
use Rattle.std.proofs.lemmas.List.Elements.{Contains-append_left, Contains-append_right}
use Rattle.csvw_meta_core.specs.declared.fault.MetaFault.{MetaFault}
use Rattle.csvw_meta_core.specs.declared.fault.Refusal.{Refusal}
use Rattle.csvw_meta_core.specs.declared.fault.Refusal.TheVariants as refusal
use Rattle.csvw_meta_core.specs.Reads.{Fails, Reads}
use Rattle.csvw_meta_core.specs.Read.{Read, fine}

pub fails_first : (e : Refusal) (xs ys : List MetaFault) → Fails e xs → Fails e (xs ++ ys)
fails_first refusal.Memory xs ys h = tt
fails_first (refusal.Fault f) xs ys h = Contains-append_left xs ys f h

pub fails_last : (e : Refusal) (xs ys : List MetaFault) → Fails e ys → Fails e (xs ++ ys)
fails_last refusal.Memory xs ys h = tt
fails_last (refusal.Fault f) xs ys h = Contains-append_right xs ys f h

-- What a `?` returns is a fault of what is read.
pub refused : {A : Type 0} (result : Result A Refusal) (e : Refusal) (r : Read A) → IsErrAnd result (λ y. y ≡ e) → Fails e r.faults → Reads result r
refused (Ok a) e r h f = absurd h
refused (Err y) e r h f = subst (λ z. Fails z r.faults) (sym h) f

-- A fault after a part that has none is reported.
pub later : {A : Type 0} (e : Refusal) (r : Read A) (a : A) (ys : List MetaFault) → r ≡ fine a → Fails e ys → Fails e (r.faults ++ ys)
later {A = A} e r a ys is h = subst (λ (s : Read A). Fails e (s.faults ++ ys)) (sym is) h

-- The same if what comes after depends on the value of the part.
pub later_with : {A : Type 0} (e : Refusal) (r : Read A) (a : A) (ys : A → List MetaFault) → r ≡ fine a → Fails e (ys a) → Fails e (r.faults ++ ys r.value)
later_with {A = A} e r a ys is h = subst (λ (s : Read A). Fails e (s.faults ++ ys s.value)) (sym is) h
