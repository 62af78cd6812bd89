-- The words of a tag, seen through their references.
use Rattle.std.proofs.Common.{◌≡◌, ◌∙◌, ◌<◌, ◌≤◌, ◌+◌, ◌&&◌, sym, refl, Bor, List, [], ◌∷◌, ℕ, zero, suc, Bool, true, false, map, take, length}
use Rattle.std.proofs.Common.{get_or, take_all, arith, subst}
use Rattle.std.proofs.lemmas.List.Folds.{list_all-map, list_all_more}
use Rattle.std.specs.List.{list_all}

both_false : (a b : Bool) → b ≡ false → (a && b) ≡ false
both_false true b h = h
both_false false b h = refl

-- one that fails, fails the whole
pub list_all-false : {X : Type 0} (p : X → Bool) (xs : List X) (i : ℕ) (d : X) (b : Bool) → i < length xs → b ≡ p (get_or xs i d) → b ≡ false
    → list_all p xs ≡ false
list_all-false p [] i d b l e f = absurd (omega arith)
list_all-false p (y ∷ ys) zero d b l e f = let same : p y ≡ false = sym e ∙ f in rw same refl
list_all-false p (y ∷ ys) (suc i) d b l e f = both_false (p y) (list_all p ys) (list_all-false p ys i d b (omega arith) e f)

-- one more that passes
pub list_all-one_more : {X : Type 0} (p : X → Bool) (xs : List X) (i : ℕ) (d : X) (b : Bool) → i < length xs → b ≡ p (get_or xs i d) → b ≡ true
    → list_all p (take i xs) ≡ true → list_all p (take (i + 1) xs) ≡ true
list_all-one_more p xs i d b l e f h = list_all_more p xs i d l ∙ rw (h, ← e, f) refl

-- all of them
pub list_all-whole : {X : Type 0} (p : X → Bool) (xs : List X) (i : ℕ) → length xs ≤ i → list_all p (take i xs) ≡ true → list_all p xs ≡ true
list_all-whole p xs i l h = subst (λ ys. list_all p ys ≡ true) (take_all i xs l) h

pub list_all-now : (p : List ℕ → Bool) (words : List (Bor (List ℕ))) (b : Bool) → list_all (λ (w : Bor (List ℕ)). p w.now) words ≡ b
    → b ≡ list_all p (map (λ (w : Bor (List ℕ)). w.now) words)
list_all-now p words b h = sym h ∙ sym (list_all-map p (λ (w : Bor (List ℕ)). w.now) words)
