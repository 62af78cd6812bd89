-- A list of no items is empty.
use Rattle.std.proofs.Common.{◌≡◌, ◌≢◌, ◌==◌, Bool, true, false, List, [], ◌∷◌, length, refl, arith}
use Rattle.std.proofs.lemmas.Bool.Decides.{nat_tests}

pub empty : {X : Type 0} (xs : List X) (b : Bool) → b ≡ (length xs == 0) → b ≡ true → xs ≡ []
empty [] b is now = refl
empty (x ∷ xs) b is now = let no : (length (x ∷ xs) == 0) ≡ false = grind (arith, nat_tests) in cc

pub not_empty : {X : Type 0} (xs : List X) (b : Bool) → b ≡ (length xs == 0) → b ≡ false → xs ≢ []
not_empty xs b is now none = let all : (length xs == 0) ≡ true = rw none refl in cc
