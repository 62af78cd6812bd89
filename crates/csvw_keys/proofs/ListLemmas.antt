-- A list whose elements are replaced or added one after another.
use Rattle.std.proofs.Common.{◌≡◌, ◌≤◌, ◌<◌, ◌+◌, ℕ, List, [], ◌∷◌, ◌++◌, All, get_or, length, map, set, take}
use Rattle.std.proofs.Common.{sym, ap, ◌∙◌, subst, arith, Result, Ok, Err, OnOk}
use Rattle.std.proofs.Math.Seq.{map-set_same}
use Rattle.std.proofs.lemmas.List.{get_or-set_other, map_more}
use Rattle.std.proofs.lemmas.List.Elements.{All-get_or, All-set}

module _ {X : Type 0} (xs : List X) (i : ℕ) (d y : X) where
  pub same_map : {Y : Type 0} (f : X → Y) → f y ≡ f (get_or xs i d) → map f (set xs i y) ≡ map f xs
  same_map f e = map-set_same f xs i y d e

  pub kept : (P : X → Type 0) → i < length xs → (P (get_or xs i d) → P y) → All P xs → All P (set xs i y)
  kept P lt goes all = All-set P xs i y (goes (All-get_or P xs i d lt all)) all

  module _ (before : List X) (rest : (k : ℕ) (e : X) → i ≤ k → get_or xs k e ≡ get_or before k e) where
    pub still : (P : X → Type 0) → i < length before → All P before → P (get_or xs i d)
    still P lt all = subst P (sym (rest i d (omega arith))) (All-get_or P before i d lt all)

    pub rest_on : (k : ℕ) (e : X) → i + 1 ≤ k → get_or (set xs i y) k e ≡ get_or before k e
    rest_on k e le = get_or-set_other xs i k y e (λ same. omega (arith, same, le)) ∙ rest k e (omega (arith, le))

pub on_ok : {A E P Q : Type 0} (r : Result A E) → OnOk r P → (P → Q) → OnOk r Q
on_ok (Ok a) h f = f h
on_ok (Err e) h f = tt

-- what is made of one element more
pub map_longer : {A B : Type 0} (f : A → B) (xs : List A) (i : ℕ) (x : A) {ys more : List B} {y : B} → i < length xs → x ≡ get_or xs i x
    → ys ≡ map f (take i xs) → more ≡ ys ++ y ∷ [] → y ≡ f x → more ≡ map f (take (i + 1) xs)
map_longer f xs i x {ys} {more} {y} lt is so_far e one =
    e ∙ ap (λ l. l ++ y ∷ []) so_far ∙ ap (λ z. map f (take i xs) ++ z ∷ []) (one ∙ ap f is) ∙ sym (map_more f xs i x lt)
