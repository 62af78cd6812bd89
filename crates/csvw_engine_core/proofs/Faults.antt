-- The faults of cells when no cell is left.
use Rattle.std.proofs.Common.{◌≡◌, ◌⊎◌, List, [], ◌∷◌, ◌++◌, ◌∙◌, sym, ap, refl, append-nil, flat_map, inl, inr, length, arith}
use Rattle.std.specs.List.{zip}
use Rattle.csvw_fault.specs.declared.fault.Fault.{Fault}

none_left : {A B : Type 0} (xs : List A) (ys : List B) → (xs ≡ []) ⊎ (ys ≡ []) → zip xs ys ≡ []
none_left [] ys e = refl
none_left (x ∷ xs) [] e = refl
none_left (x ∷ xs) (y ∷ ys) (inl e) = cc
none_left (x ∷ xs) (y ∷ ys) (inr e) = cc

pub told_all : {A B : Type 0} (f : A × B → List Fault) (xs : List A) (ys : List B) (told all : List Fault) → (xs ≡ []) ⊎ (ys ≡ [])
    → told ++ flat_map f (zip xs ys) ≡ all → told ≡ all
told_all f xs ys told all none e = sym (append-nil told) ∙ (ap (λ z. told ++ flat_map f z) (sym (none_left xs ys none)) ∙ e)

pub no_items : {X : Type 0} (xs : List X) → length xs ≡ 0 → xs ≡ []
no_items [] e = refl
no_items (x ∷ xs) e = absurd (omega arith)
