-- Lists in which one element was replaced, and lists of the same length.
use Rattle.std.proofs.Common.{◌≡◌, ◌≢◌, ◌<◌, ◌+◌, ℕ, zero, suc, List, [], ◌∷◌, ◌++◌, sym, ap, ◌∙◌, arith, add-one, take, length, Some}
use Rattle.std.specs.Prelude.{slice_get, slice_set}
use Rattle.std.proofs.lemmas.Option.{slice_get-get_or, slice_get_within, get_or_from_slice_get}
use Rattle.std.proofs.lemmas.List.{get_or-set_same, get_or-set_other}
use Rattle.std.proofs.Math.ListN.{length-set}

-- the element at the place that was replaced
pub set_same : {X : Type 0} (xs : List X) (i : ℕ) (x y : X) → i < length xs → slice_get (slice_set xs i x) i ≡ Some y → y ≡ x
set_same xs i x y below e =
    sym (get_or_from_slice_get (slice_set xs i x) i y x e) ∙ get_or-set_same xs i x x below

-- and at other places
pub set_other : {X : Type 0} (xs : List X) (i j : ℕ) (x y : X) → j ≢ i → slice_get (slice_set xs i x) j ≡ Some y → slice_get xs j ≡ Some y
set_other xs i j x y apart e =
    let within : j < length (slice_set xs i x) = slice_get_within (slice_set xs i x) j y e in
    let same : length (slice_set xs i x) ≡ length xs = length-set xs i x in
    let here : j < length xs = omega arith in
    slice_get-get_or xs j y here ∙ ap Some (sym (get_or-set_other xs i j x y apart) ∙ get_or_from_slice_get (slice_set xs i x) j y y e)

pub set_there : {X : Type 0} (xs : List X) (i : ℕ) (x : X) → i < length xs → slice_get (slice_set xs i x) i ≡ Some x
set_there xs i x below =
    let same : length (slice_set xs i x) ≡ length xs = length-set xs i x in
    let here : i < length (slice_set xs i x) = omega arith in
    slice_get-get_or (slice_set xs i x) i x here ∙ ap Some (get_or-set_same xs i x x below)

pub set_stays : {X : Type 0} (xs : List X) (i j : ℕ) (x y : X) → j ≢ i → slice_get xs j ≡ Some y → slice_get (slice_set xs i x) j ≡ Some y
set_stays xs i j x y apart e =
    let within : j < length xs = slice_get_within xs j y e in
    let same : length (slice_set xs i x) ≡ length xs = length-set xs i x in
    let here : j < length (slice_set xs i x) = omega arith in
    slice_get-get_or (slice_set xs i x) j y here ∙ ap Some (get_or-set_other xs i j x y apart ∙ get_or_from_slice_get xs j y y e)

pub one_at : {X : Type 0} (xs : List X) (i : ℕ) (x y : X) → slice_get xs i ≡ Some x → slice_get xs i ≡ Some y → x ≡ y
one_at xs i x y e f = let k : Some x ≡ Some y = sym e ∙ f in cc

pub take_next : {X : Type 0} (xs : List X) (i : ℕ) (x : X) → slice_get xs i ≡ Some x → take (i + 1) xs ≡ take i xs ++ x ∷ []
take_next xs i x h = rw add-one (go xs i h)
  where
    go : (ys : List _) (k : ℕ) → slice_get ys k ≡ Some x → take (suc k) ys ≡ take k ys ++ x ∷ []
    go [] k e = cc
    go (y ∷ ys) zero e = let same : y ≡ x = cc in ap (λ z. z ∷ []) same
    go (y ∷ ys) (suc k) e = ap (λ zs. y ∷ zs) (go ys k e)
