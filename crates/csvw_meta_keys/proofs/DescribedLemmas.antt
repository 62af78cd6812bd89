-- One more item, at the end of the earlier items.
use Rattle.std.proofs.Common.{◌≡◌, ℕ, ◌+◌, ◌<◌, List, [], ◌∷◌, ◌++◌, length, take, get_or, map, flat_map, ap, sym, ◌∙◌, refl}
use Rattle.std.proofs.lemmas.Grind.{flat_map-append}
use Rattle.std.proofs.lemmas.List.{append-nil, map-append, take_more}

module _ {X : Type 0} (xs : List X) (i : ℕ) (x : X) (lt : i < length xs) (is : x ≡ get_or xs i x) where
  more : take (i + 1) xs ≡ take i xs ++ x ∷ []
  more = take_more xs i x lt ∙ ap (λ y. take i xs ++ y ∷ []) (sym is)

  pub map_more : {Y : Type 0} (f : X → Y) (ys : List Y) → ys ≡ map f (take i xs) → (y : Y) → y ≡ f x → ys ++ y ∷ [] ≡ map f (take (i + 1) xs)
  map_more f ys so_far y last = rw (more, map-append f (take i xs) (x ∷ []), so_far, last) refl

  pub flat_map_more : {Y : Type 0} (f : X → List Y) (ys : List Y) → ys ≡ flat_map f (take i xs) → ys ++ f x ≡ flat_map f (take (i + 1) xs)
  flat_map_more f ys so_far = rw (more, flat_map-append f (take i xs) (x ∷ []), so_far, append-nil (f x)) refl
