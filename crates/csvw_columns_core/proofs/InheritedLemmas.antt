-- The first of four values.
use Rattle.std.proofs.Common.{◌≡◌, ◌∙◌, [], ◌∷◌, refl, ap, sym}
use Rattle.std.proofs.lemmas.Result.{IfOk-at_ok}
use Rattle.std.specs.Prelude.{Option, Some, None, Result, Ok, IfOk, unwrap_or}
use Rattle.csvw_columns_core.specs.Inherited.{first_of, first_present}

first_of-none : {A : Type 0} (x : Option A) → first_of x None ≡ x
first_of-none (Some x) = refl
first_of-none None = refl

pub first_of_four : {A : Type 0} (c s t g : Option A) → first_of c (first_of s (first_of t g)) ≡ first_present (c ∷ s ∷ t ∷ g ∷ [])
first_of_four c s t g = ap (λ x. first_of c (first_of s (first_of t x))) (sym (first_of-none g))

-- what was found of what is there, else the default
pub found_or_default : {A E : Type 0} (found : Result (Option A) E) (value : Option A) {answer : Result A E} {x default other : A}
    → answer ≡ Ok x → IfOk answer (λ x. (value : Option A) × (found ≡ Ok value) × (x ≡ unwrap_or value default))
    → IfOk found (λ v. v ≡ value) → default ≡ other → x ≡ unwrap_or value other
found_or_default {A} {E} found value {answer} {x} {default} {other} is known same e =
    let h : (v : Option A) × (found ≡ Ok v) × (x ≡ unwrap_or v default) =
    IfOk-at_ok (λ x. (v : Option A) × (found ≡ Ok v) × (x ≡ unwrap_or v default)) is known in
    h.2 ∙ ap (λ o. unwrap_or o default) (IfOk-at_ok (λ v. v ≡ value) h.1 same) ∙ ap (unwrap_or value) e
