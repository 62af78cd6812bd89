-- What so many parts have, one after the other: items that each have one part are all items in another order.
use Rattle.std.proofs.Common.{◌≡◌, ◌∙◌, ℕ, zero, suc, ◌+◌, ◌<◌, ◌≤◌, Bool, true, false, cond, List, [], ◌∷◌, ◌++◌, refl, sym, ap, ap₂, subst, arith, inl, inr, append-nil, flat_map}
use Rattle.std.specs.Prelude.{filter, if◌then◌else◌, nat_eq}
use Rattle.std.specs.List.{All}
use Rattle.std.specs.List.Sorted.{IsPermutation}
use Rattle.std.proofs.Math.Nat.{eq-or-lt_of_le}
use Rattle.std.proofs.lemmas.Bool.Decides.{nat_tests}
use Rattle.std.proofs.lemmas.List.Elements.{All-head, All-tail}
use Rattle.std.proofs.lemmas.List.Sorted.{IsPermutation-cons, IsPermutation-refl, IsPermutation-trans}
use Rattle.csvw_join_laws.specs.AllParts.{numbers}
use Rattle.csvw_join_laws.proofs.Joins.{apart}

pub same_each : {X : Type 0} (f g : ℕ → List X) → ((k : ℕ) → f k ≡ g k) → (ks : List ℕ) → flat_map f ks ≡ flat_map g ks
same_each f g same [] = refl
same_each f g same (k ∷ ks) = ap₂ (λ a b. a ++ b) (same k) (same_each f g same ks)

chosen : {X : Type 0} (b : Bool) (xs : List X) → b ≡ true → (if b then xs else []) ≡ xs
chosen true xs is = refl
chosen false xs is = cc

dropped : {X : Type 0} (b : Bool) (xs : List X) → b ≡ false → (if b then xs else []) ≡ []
dropped true xs is = cc
dropped false xs is = refl

-- what only a part before these has
pub none_from : {X : Type 0} (j k n : ℕ) (xs : List X) → j < k → flat_map (λ i. if nat_eq j i then xs else []) (numbers k n) ≡ []
none_from j k zero xs less = refl
none_from j k (suc n) xs less =
    ap₂ (λ a b. a ++ b) (dropped (nat_eq j k) xs (grind (arith, nat_tests))) (none_from j (suc k) n xs (omega arith))

-- what only one of these parts has
pub one_from : {X : Type 0} (j k n : ℕ) (xs : List X) → k ≤ j → j < k + n → flat_map (λ i. if nat_eq j i then xs else []) (numbers k n) ≡ xs
one_from j k zero xs from below = absurd (omega arith)
one_from j k (suc n) xs from below =
    elim (eq-or-lt_of_le from) [
      | inl same ↦
          ap₂ (λ a b. a ++ b) (chosen (nat_eq j k) xs (grind (arith, nat_tests))) (none_from j (suc k) n xs (omega (arith, same))) ∙ append-nil xs
      | inr less ↦
          ap₂ (λ a b. a ++ b) (dropped (nat_eq j k) xs (grind (arith, nat_tests))) (one_from j (suc k) n xs (omega (arith, less)) (omega (arith, below)))
    ]

-- an item is in one of these parts
pub record HasPlace {X : Type 0} (test : ℕ → X → Bool) (k n : ℕ) (x : X) : Type 0 where
  pub at : ℕ
  pub from : k ≤ at
  pub below : at < k + n
  pub is : (i : ℕ) → test i x ≡ nat_eq at i

module _ {X : Type 0} (test : ℕ → X → Bool) (k n : ℕ) where
  first_apart : (b : Bool) (x : X) (xs : List X) → cond b (x ∷ xs) xs ≡ (if b then x ∷ [] else []) ++ xs
  first_apart true x xs = refl
  first_apart false x xs = refl

  -- the items of the parts are all items
  pub shared : (xs : List X) → All (HasPlace test k n) xs → IsPermutation (flat_map (λ i. filter (test i) xs) (numbers k n)) xs
  shared [] have = subst (λ l. IsPermutation l []) (sym (nothing (numbers k n))) (IsPermutation-refl [])
    where
      nothing : (ks : List ℕ) → flat_map (λ i. filter (test i) (let none : List X = [] in none)) ks ≡ []
      nothing [] = refl
      nothing (i ∷ ks) = nothing ks
  shared (x ∷ xs) have =
      let place = All-head (HasPlace test k n) x xs have in
      let one = λ (i : ℕ). if nat_eq place.at i then x ∷ [] else [] in
      let rest = λ (i : ℕ). filter (test i) xs in
      let parts = same_each (λ i. filter (test i) (x ∷ xs)) (λ i. one i ++ rest i)
      (λ i. first_apart (test i x) x (filter (test i) xs) ∙ ap (λ b. (if b then x ∷ [] else []) ++ filter (test i) xs) (place.is i)) (numbers k n) in
      let here = one_from place.at k n (x ∷ []) place.from place.below in
      subst (λ l. IsPermutation l (x ∷ xs)) (sym parts)
      (IsPermutation-trans _ _ _ (apart one rest (numbers k n))
      (subst (λ l. IsPermutation (l ++ flat_map rest (numbers k n)) (x ∷ xs)) (sym here)
      (IsPermutation-cons x _ _ (shared xs (All-tail (HasPlace test k n) x xs have)))))
