-- What has no meaning without a value has the faults of the value, or is what is read by it. There is a group exactly if there is no fault.
use Rattle.std.proofs.Common.{◌≡◌, List, [], ◌∷◌, Contains, Some, None, Result, refl, subst, sym, arith}
use Rattle.csvw_meta_core.specs.declared.fault.MetaFault.{MetaFault}
use Rattle.csvw_meta_core.specs.declared.fault.Refusal.{Refusal}
use Rattle.csvw_meta_core.specs.declared.fault.Refusal.TheVariants as refusal
use Rattle.csvw_meta_core.specs.Fine.{Ensures}
use Rattle.csvw_meta_core.specs.Read.{Read, fine, over, over_faults}
use Rattle.csvw_meta_core.specs.Reads.{Fails, Reads}
use Rattle.csvw_meta.specs.IfRead.{if_read, unless}

pub none_in : {X : Type 0} (x : X) → Contains [] x → ⊥
none_in x c = let lt = c.1 in absurd (omega (arith, lt))

module _ {A B : Type 0} (dummy : B) (next : A → Read B) where
  fails_with : (e : Refusal) (faults : List MetaFault) (a : A) → Fails e faults → Fails e (over_faults dummy faults a next).faults
  fails_with refusal.Memory faults a h = tt
  fails_with (refusal.Fault f) [] a h = absurd (none_in f h)
  fails_with (refusal.Fault f) (g ∷ gs) a h = h

  -- a fault of the value
  pub fails_over : (e : Refusal) (r : Read A) → Fails e r.faults → Fails e (over dummy r next).faults
  fails_over e r h = fails_with e r.faults r.value h

  -- a value without faults
  pub reads_over : (result : Result B Refusal) (r : Read A) (a : A) → r ≡ fine a → Reads result (next a) → Reads result (over dummy r next)
  reads_over result r a is h = subst (λ (s : Read A). Reads result (over dummy s next)) (sym is) h

  fine_with : (P : B → Type 0) → ((a : A) → Ensures (next a) P) → (faults : List MetaFault) (a : A)
      → Ensures (over_faults dummy faults a next) P
  fine_with P each [] a h = each a h
  fine_with P each (f ∷ fs) a h = cc

  pub over_fine : (P : B → Type 0) → ((a : A) → Ensures (next a) P) → (r : Read A) → Ensures (over dummy r next) P
  over_fine P each r = fine_with P each r.faults r.value

-- ---- exactly if there is no fault

module _ {A : Type 0} where
  -- what is read without faults
  pub group_read : (r : Read A) (a : A) → r ≡ fine a → if_read r ≡ Some a
  group_read r a is = subst (λ (s : Read A). if_read s ≡ Some a) (sym is) refl

  none_unless : (faults : List MetaFault) (a b : A) (f : MetaFault) → unless faults a ≡ Some b → Contains faults f → ⊥
  none_unless [] a b f e c = none_in f c
  none_unless (g ∷ gs) a b f e c = cc

  pub none_if_read : (r : Read A) (b : A) (f : MetaFault) → if_read r ≡ Some b → Contains r.faults f → ⊥
  none_if_read r = none_unless r.faults r.value

  some_unless : (faults : List MetaFault) (a : A) → unless faults a ≡ None → (f : MetaFault) × Contains faults f
  some_unless [] a e = cc
  some_unless (f ∷ fs) a e = (f, (0, omega arith, refl))

  pub some_if_not_read : (r : Read A) → if_read r ≡ None → (f : MetaFault) × Contains r.faults f
  some_if_not_read r = some_unless r.faults r.value

  fine_unless : (P : A → Type 0) (faults : List MetaFault) (a b : A) → (faults ≡ [] → P a) → unless faults a ≡ Some b → P b
  fine_unless P [] a b p e = let same : a ≡ b = cc in subst P same (p refl)
  fine_unless P (f ∷ fs) a b p e = cc

  -- what holds of each value without faults holds of the one that is read
  pub fine_if_read : (P : A → Type 0) (r : Read A) → Ensures r P → (b : A) → if_read r ≡ Some b → P b
  fine_if_read P r p b = fine_unless P r.faults r.value b p
