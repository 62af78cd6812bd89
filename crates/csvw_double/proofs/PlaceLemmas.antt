-- Digits in two pieces: without the zeros at their start.
use Rattle.std.proofs.Common.{◌≡◌, ℕ, ◌==◌, ◌<◌, ◌≤◌, true, false, Bool, List, [], ◌∷◌, ◌++◌, length, arith, ap, refl, sym, if◌then◌else◌}
use Rattle.csvw_double.specs.Digits.{after_zeros, is_empty}

after_none : (xs ys : List ℕ) → after_zeros xs ≡ [] → after_zeros (xs ++ ys) ≡ after_zeros ys
after_none [] ys is = refl
after_none (c ∷ cs) ys is = go (c == 48) (after_none cs ys) is
  where
    go : (b : Bool) → (after_zeros cs ≡ [] → after_zeros (cs ++ ys) ≡ after_zeros ys) → (if b then after_zeros cs else c ∷ cs) ≡ []
        → (if b then after_zeros (cs ++ ys) else c ∷ cs ++ ys) ≡ after_zeros ys
    go true rest is = rest is
    go false rest is = cc

after_first : (d : ℕ) (ds xs ys : List ℕ) → after_zeros xs ≡ d ∷ ds → after_zeros (xs ++ ys) ≡ d ∷ ds ++ ys
after_first d ds [] ys is = cc
after_first d ds (c ∷ cs) ys is = go (c == 48) (after_first d ds cs ys) is
  where
    go : (b : Bool) → (after_zeros cs ≡ d ∷ ds → after_zeros (cs ++ ys) ≡ d ∷ ds ++ ys) → (if b then after_zeros cs else c ∷ cs) ≡ d ∷ ds
        → (if b then after_zeros (cs ++ ys) else c ∷ cs ++ ys) ≡ d ∷ ds ++ ys
    go true rest is = rest is
    go false rest is = ap (λ (zs : List ℕ). zs ++ ys) is

-- the first piece has zeros alone
pub after_empty : (xs ys zs : List ℕ) → zs ≡ after_zeros xs → length zs < 1 → after_zeros ys ≡ after_zeros (xs ++ ys)
after_empty xs ys [] is short = sym (after_none xs ys (sym is))
after_empty xs ys (z ∷ zs) is short = absurd (omega (arith, short))

-- the first piece has another digit
pub after_some : (xs ys zs : List ℕ) → zs ≡ after_zeros xs → 1 ≤ length zs → zs ++ ys ≡ after_zeros (xs ++ ys)
after_some xs ys [] is long = absurd (omega (arith, long))
after_some xs ys (z ∷ zs) is long = sym (after_first z zs xs ys (sym is))

pub not_empty : (xs ys : List ℕ) → 1 ≤ length xs → false ≡ is_empty (xs ++ ys)
not_empty [] ys long = absurd (omega (arith, long))
not_empty (x ∷ xs) ys long = refl
