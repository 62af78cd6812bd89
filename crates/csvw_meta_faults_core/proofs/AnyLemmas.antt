-- Whether one of two tests holds of an element of a list.
use Rattle.std.proofs.Common.{◌≡◌, List, [], ◌∷◌, Bool, true, false, ◌||◌, refl, sym, ap, ◌∙◌}
use Rattle.std.specs.List.{list_any}

true_is_not_false : false ≡ true → ⊥
true_is_not_false h = cc

swap : (a b c d : Bool) → ((a || b) || (c || d)) ≡ ((a || c) || (b || d))
swap true b c d = refl
swap false true true d = refl
swap false true false d = refl
swap false false true d = refl
swap false false false d = refl

pub any_or : {X : Type 0} (p q : X → Bool) (xs : List X) → list_any (λ x. p x || q x) xs ≡ (list_any p xs || list_any q xs)
any_or p q [] = refl
any_or p q (x ∷ xs) = ap (λ r. (p x || q x) || r) (any_or p q xs) ∙ swap (p x) (q x) (list_any p xs) (list_any q xs)

or_true : (a b : Bool) → a ≡ true → (a || b) ≡ true
or_true true b h = refl
or_true false b h = absurd (true_is_not_false h)

or_false : (a b : Bool) → a ≡ false → (a || b) ≡ b
or_false false b h = refl
or_false true b h = absurd (true_is_not_false (sym h))

-- the first test settles it
pub any_first : {X : Type 0} (p q : X → Bool) (xs : List X) → list_any p xs ≡ true → list_any (λ x. p x || q x) xs ≡ true
any_first p q xs h = any_or p q xs ∙ or_true (list_any p xs) (list_any q xs) h

-- the second test settles it
pub any_rest : {X : Type 0} (p q : X → Bool) (xs : List X) → list_any p xs ≡ false → list_any (λ x. p x || q x) xs ≡ list_any q xs
any_rest p q xs h = any_or p q xs ∙ or_false (list_any p xs) (list_any q xs) h
