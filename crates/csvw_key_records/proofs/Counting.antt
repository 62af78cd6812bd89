-- Tests, counts and joined lists over a list, and over the list with one element more.
use Rattle.std.proofs.Common.{◌≡◌, ℕ, zero, suc, ◌+◌, Bool, true, false, ◌||◌, cond, List, [], ◌∷◌, ◌++◌, flat_map, refl, sym, ap, ap₂, ◌∙◌, append_assoc, add-one, add-zero, zero-add, arith}
use Rattle.std.specs.List.{All, count_by, list_any}
use Rattle.std.specs.List.Sorted.{IsPermutation}
use Rattle.std.proofs.lemmas.List.Elements.{All-head, All-tail}
use Rattle.std.proofs.lemmas.List.Folds.{list_any-append}
use Rattle.std.proofs.lemmas.List.Sorted.{IsPermutation-append_right, IsPermutation-cons, IsPermutation-middle, IsPermutation-refl, IsPermutation-sym, IsPermutation-trans}
use Rattle.std.proofs.lemmas.List.Sums.{sum_by-cons, sum_by_push}

or_false : (a b : Bool) → b ≡ false → (a || (b || false)) ≡ a
or_false true b none = refl
or_false false b none = ap (λ x. x || false) none

or_true : (a b : Bool) → a ≡ true → (a || b) ≡ a
or_true true b is = refl
or_true false b is = cc

first_true : (a b : Bool) → a ≡ true → (a || b) ≡ true
first_true true b is = refl
first_true false b is = cc

second_true : (a b : Bool) → b ≡ true → (a || b) ≡ true
second_true true b is = refl
second_true false b is = is

or_last : (a b : Bool) → b ≡ true → (a || (b || false)) ≡ true
or_last a b is = second_true a (b || false) (first_true b false is)

-- a number and 1 if the test passes
abbrev one_of : ℕ → Bool → ℕ
one_of n b = n + cond b 1 0

abbrev one_to : ℕ → Bool → ℕ
one_to n b = cond b 1 0 + n

one-add : (n : ℕ) → 1 + n ≡ suc n
one-add n = omega arith

module _ {X : Type 0} (p : X → Bool) (xs : List X) (y : X) where
  pub any_same : p y ≡ false → list_any p (xs ++ y ∷ []) ≡ list_any p xs
  any_same none = list_any-append p xs (y ∷ []) ∙ or_false (list_any p xs) (p y) none

  pub any_true : list_any p xs ≡ true → list_any p (xs ++ y ∷ []) ≡ list_any p xs
  any_true is = list_any-append p xs (y ∷ []) ∙ or_true (list_any p xs) (p y || false) is

  pub any_last : p y ≡ true → list_any p (xs ++ y ∷ []) ≡ true
  any_last is = list_any-append p xs (y ∷ []) ∙ or_last (list_any p xs) (p y) is

  pub count_same : p y ≡ false → count_by p (xs ++ y ∷ []) ≡ count_by p xs
  count_same none =
      let last = ap (one_of (count_by p xs)) none in
      sum_by_push (λ x. cond (p x) 1 0) xs y ∙ (last ∙ add-zero (count_by p xs))

  pub count_more : p y ≡ true → count_by p (xs ++ y ∷ []) ≡ suc (count_by p xs)
  count_more is =
      let last = ap (one_of (count_by p xs)) is in
      sum_by_push (λ x. cond (p x) 1 0) xs y ∙ (last ∙ add-one (count_by p xs))

module _ {X : Type 0} (p : X → Bool) where
  count_some : (x : X) (xs : List X) → p x ≡ true → count_by p (x ∷ xs) ≡ suc (count_by p xs)
  count_some x xs is =
      let all = sum_by-cons (λ x. cond (p x) 1 0) x xs in
      let first = ap (one_to (count_by p xs)) is in
      all ∙ (first ∙ one-add (count_by p xs))

  count_no : (x : X) (xs : List X) → p x ≡ false → count_by p (x ∷ xs) ≡ count_by p xs
  count_no x xs none =
      let all = sum_by-cons (λ x. cond (p x) 1 0) x xs in
      let first = ap (one_to (count_by p xs)) none in
      all ∙ (first ∙ zero-add (count_by p xs))

  pub count_none : (xs : List X) → All (λ q. p q ≡ false) xs → count_by p xs ≡ zero
  count_none [] none = refl
  count_none (x ∷ xs) none = count_no x xs (All-head (λ q. p q ≡ false) x xs none) ∙ count_none xs (All-tail (λ q. p q ≡ false) x xs none)

  pub any_of_count : (n : ℕ) (xs : List X) → count_by p xs ≡ suc n → list_any p xs ≡ true
  any_of_count n [] some = absurd (omega (arith, some))
  any_of_count n (x ∷ xs) some = of (p x) refl (λ is. any_of_count n xs (sym (count_no x xs is) ∙ some))
    where
      of : (b : Bool) → p x ≡ b → (p x ≡ false → list_any p xs ≡ true) → (p x || list_any p xs) ≡ true
      of true is later = first_true (p x) (list_any p xs) is
      of false is later = second_true (p x) (list_any p xs) (later is)

  pub any_weaker : (r : X → Bool) (xs : List X) → ((x : X) → p x ≡ true → r x ≡ true) → list_any p xs ≡ true → list_any r xs ≡ true
  any_weaker r [] weaker some = cc
  any_weaker r (x ∷ xs) weaker some =
      of (p x) refl (λ is. any_weaker r xs weaker (sym (ap (λ b. b || list_any p xs) is) ∙ some))
    where
      of : (b : Bool) → p x ≡ b → (p x ≡ false → list_any r xs ≡ true) → (r x || list_any r xs) ≡ true
      of true is later = first_true (r x) (list_any r xs) (weaker x is)
      of false is later = second_true (r x) (list_any r xs) (later is)

-- some copies of an item
abbrev pub copies : {A : Type 0} → ℕ → A → List A
copies zero d = []
copies (suc n) d = d ∷ copies n d

module _ {X A : Type 0} (f g : X → List A) where
  pub flat_same : (xs : List X) → All (λ q. g q ≡ f q) xs → flat_map g xs ≡ flat_map f xs
  flat_same [] same = refl
  flat_same (x ∷ xs) same = ap₂ (λ a b. a ++ b) (All-head (λ q. g q ≡ f q) x xs same) (flat_same xs (All-tail (λ q. g q ≡ f q) x xs same))

  -- the second function has one item more at each element that passes
  pub flat_more : (p : X → Bool) (d : A) (xs : List X) → All (λ q. p q ≡ false → g q ≡ f q) xs → All (λ q. p q ≡ true → (f q ≡ []) × (g q ≡ d ∷ [])) xs
      → IsPermutation (flat_map g xs) (flat_map f xs ++ copies (count_by p xs) d)
  flat_more p d [] same differs = IsPermutation-refl []
  flat_more p d (x ∷ xs) same differs =
      of (p x) refl (flat_more p d xs (All-tail (λ q. p q ≡ false → g q ≡ f q) x xs same) (All-tail (λ q. p q ≡ true → (f q ≡ []) × (g q ≡ d ∷ [])) x xs differs))
    where
      of : (b : Bool) → p x ≡ b → IsPermutation (flat_map g xs) (flat_map f xs ++ copies (count_by p xs) d)
          → IsPermutation (g x ++ flat_map g xs) ((f x ++ flat_map f xs) ++ copies (count_by p (x ∷ xs)) d)
      of true is others =
          let both = All-head (λ q. p q ≡ true → (f q ≡ []) × (g q ≡ d ∷ [])) x xs differs is in
          let none = both.0 in
          let one = both.1 in
          let count = count_some p x xs is in
          rw (none, one, count) (IsPermutation-trans (d ∷ flat_map g xs) (d ∷ (flat_map f xs ++ copies (count_by p xs) d))
          (flat_map f xs ++ d ∷ copies (count_by p xs) d)
          (IsPermutation-cons d (flat_map g xs) (flat_map f xs ++ copies (count_by p xs) d) others)
          (IsPermutation-sym (flat_map f xs ++ d ∷ copies (count_by p xs) d) (d ∷ (flat_map f xs ++ copies (count_by p xs) d))
          (IsPermutation-middle (flat_map f xs) d (copies (count_by p xs) d))))
      of false is others =
          let even = All-head (λ q. p q ≡ false → g q ≡ f q) x xs same is in
          let count = count_no p x xs is in
          rw (even, count, append_assoc) (IsPermutation-append_right (f x) (flat_map g xs) (flat_map f xs ++ copies (count_by p xs) d) others)
