-- Sets that grow with a list of faults or of texts.
use Rattle.std.proofs.Common.{◌≡◌, ◌∙◌, ◌+◌, ◌<◌, ℕ, List, [], ◌∷◌, ◌++◌, ◌||◌, ◌&&◌, Bool, true, false, length, take, get_or, map, if◌then◌else◌}
use Rattle.std.proofs.Common.{refl, sym, ap, ap₂}
use Rattle.std.specs.List.{list_any}
use Rattle.std.proofs.lemmas.List.{append-nil}
use Rattle.std.proofs.lemmas.List.Folds.{list_any_more}

or_swap : (a b : Bool) → (a || b) ≡ (b || a)
or_swap true true = refl
or_swap true false = refl
or_swap false true = refl
or_swap false false = refl

-- one more item of a list
pub any_more : {X : Type 0} (q : X → Bool) (xs : List X) (i : ℕ) (x : X) (old new : Bool) → i < length xs → x ≡ get_or xs i x
    → old ≡ list_any q (take i xs) → new ≡ (q x || old) → new ≡ list_any q (take (i + 1) xs)
any_more q xs i x old new lt is so_far h =
    h ∙ (ap₂ (λ y b. q y || b) is so_far
    ∙ (or_swap (q (get_or xs i x)) (list_any q (take i xs)) ∙ sym (list_any_more q xs i x lt)))

any_append : {X : Type 0} (q : X → Bool) (xs : List X) (x : X) → list_any q (xs ++ x ∷ []) ≡ (q x || list_any q xs)
any_append q [] x = refl
any_append q (y ∷ ys) x = ap (λ b. q y || b) (any_append q ys x) ∙ turn (q y) (q x) (list_any q ys) where
  turn : (a b c : Bool) → (a || (b || c)) ≡ (b || (a || c))
  turn true true c = refl
  turn true false c = refl
  turn false true c = refl
  turn false false c = refl

map_append : {X Y : Type 0} (f : X → Y) (xs : List X) (x : X) → map f (xs ++ x ∷ []) ≡ map f xs ++ f x ∷ []
map_append f [] x = refl
map_append f (y ∷ ys) x = ap (λ zs. f y ∷ zs) (map_append f ys x)

-- one more item that may be kept
pub any_kept : {X Y : Type 0} (q : Y → Bool) (f : X → Y) (xs : List X) (x : X) (keep old new : Bool) → old ≡ list_any q (map f xs)
    → new ≡ ((keep && q (f x)) || old) → new ≡ list_any q (map f (xs ++ (if keep then x ∷ [] else [])))
any_kept q f xs x true old new so_far h =
    h ∙ (ap (λ b. q (f x) || b) so_far ∙ (sym (any_append q (map f xs) (f x)) ∙ ap (list_any q) (sym (map_append f xs x))))
any_kept q f xs x false old new so_far h = h ∙ (so_far ∙ ap (λ ys. list_any q (map f ys)) (sym (append-nil xs)))
