-- A fault of one part is a fault of the whole.
use Rattle.std.proofs.Common.{◌≡◌, List, [], ◌∷◌, ◌++◌, arith, map, subst, sym, Result, Ok, Err}
use Rattle.std.specs.Result.{IsErrAnd}
use Rattle.std.proofs.lemmas.List.Elements.{Contains-append_left}
use Rattle.csvw_meta_core.specs.declared.fault.MetaFault.{MetaFault}
use Rattle.csvw_meta_core.specs.declared.fault.Refusal.{Refusal}
use Rattle.csvw_meta_core.specs.declared.fault.Refusal.TheVariants as refusal
use Rattle.csvw_meta_core.specs.Reads.{Fails, Reads}
use Rattle.csvw_meta_core.specs.Read.{Read, fine}
use Rattle.csvw_meta_datatype.specs.Whichever.{by_faults, of_any}

pub fails_first : (e : Refusal) (xs ys : List MetaFault) → Fails e xs → Fails e (xs ++ ys)
fails_first refusal.Memory xs ys h = tt
fails_first (refusal.Fault f) xs ys h = Contains-append_left xs ys f h

-- A fault of what must be there first is reported.
pub fails_by : {A B : Type 0} (e : Refusal) (values : List A) (dummy : B) (xs : List MetaFault) (a : A) (next : A → Read B)
    → Fails e xs → Fails e (by_faults values dummy xs a next).faults
fails_by refusal.Memory values dummy xs a next h = tt
fails_by (refusal.Fault f) values dummy [] a next h = absurd (omega (arith, h.1))
fails_by (refusal.Fault f) values dummy (x ∷ xs) a next h =
    Contains-append_left (x ∷ xs) (of_any (map (λ v. (next v).faults) values)) f h

-- What a `?` returns is a fault of what is read.
pub refused : {A : Type 0} (result : Result A Refusal) (e : Refusal) (r : Read A) → IsErrAnd result (λ y. y ≡ e) → Fails e r.faults → Reads result r
refused (Ok a) e r h f = absurd h
refused (Err y) e r h f = subst (λ z. Fails z r.faults) (sym h) f

-- A fault after a part that has none is reported.
pub later : {A : Type 0} (e : Refusal) (r : Read A) (a : A) (ys : List MetaFault) → r ≡ fine a → Fails e ys → Fails e (r.faults ++ ys)
later {A = A} e r a ys is h = subst (λ (s : Read A). Fails e (s.faults ++ ys)) (sym is) h
