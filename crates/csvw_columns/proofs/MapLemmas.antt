-- What is made of each element of a list, one after the other.
use Rattle.std.proofs.Common.{◌≡◌, ◌∙◌, ℕ, ◌+◌, ◌<◌, List, [], ◌∷◌, ◌++◌, length, map, take, get_or, sym, ap}
use Rattle.std.proofs.lemmas.List.{flat_map_more, map_more, take_more}
use Rattle.std.specs.Prelude.{flat_map}

-- one element more
pub map_longer : {A B : Type 0} (f : A → B) (xs : List A) (i : ℕ) (x : A) {ys more : List B} {y : B} → i < length xs → x ≡ get_or xs i x
    → ys ≡ map f (take i xs) → more ≡ ys ++ y ∷ [] → y ≡ f x → more ≡ map f (take (i + 1) xs)
map_longer f xs i x {ys} {more} {y} lt is so_far e one =
    e ∙ ap (λ l. l ++ y ∷ []) so_far ∙ ap (λ z. map f (take i xs) ++ z ∷ []) (one ∙ ap f is) ∙ sym (map_more f xs i x lt)

-- the lists of one more element, after others
pub flat_longer : {A B : Type 0} (f : A → List B) (xs : List A) (i : ℕ) (x : A) (start : List B) {out more : List B} → i < length xs → x ≡ get_or xs i x
    → out ≡ start ++ flat_map f (take i xs) → more ≡ out ++ f x → more ≡ start ++ flat_map f (take (i + 1) xs)
flat_longer f xs i x start {out} {more} lt is so_far e =
    e ∙ ap (λ l. l ++ f x) so_far ∙ flat_map_more f start (take i xs) x ∙ ap (λ z. start ++ flat_map f (take i xs ++ z ∷ [])) is
    ∙ ap (λ l. start ++ flat_map f l) (sym (take_more xs i x lt))
