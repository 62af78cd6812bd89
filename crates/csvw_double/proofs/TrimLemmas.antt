-- A zero at the end is left out, and what ends with another digit stays.
use Rattle.std.proofs.Common.{◌≡◌, ◌∙◌, ℕ, ◌==◌, ◌&&◌, true, false, Bool, List, [], ◌∷◌, ◌++◌, ap, refl, if◌then◌else◌}
use Rattle.csvw_double.specs.Digits.{before_zeros, is_empty}

-- a digit before what is left of the others
abbrev before : ℕ → List ℕ → List ℕ
before c rest = if c == 48 && is_empty rest then [] else c ∷ rest

pub zero_last : (cs : List ℕ) → before_zeros (cs ++ 48 ∷ []) ≡ before_zeros cs
zero_last [] = refl
zero_last (c ∷ cs) = ap (before c) (zero_last cs)

-- a digit before some others stays
stays : (b : Bool) (c d : ℕ) (rest : List ℕ) → (if b && is_empty (d ∷ rest) then [] else c ∷ d ∷ rest) ≡ c ∷ d ∷ rest
stays true c d rest = refl
stays false c d rest = refl

alone : (b : Bool) (c : ℕ) → b ≡ false → (if b && true then [] else c ∷ []) ≡ c ∷ []
alone false c is = refl
alone true c is = cc

pub other_last : (cs : List ℕ) (c : ℕ) → (c == 48) ≡ false → before_zeros (cs ++ c ∷ []) ≡ cs ++ c ∷ []
other_last [] c is = alone (c == 48) c is
other_last (d ∷ []) c is = ap (before d) (other_last [] c is) ∙ stays (d == 48) d c []
other_last (d ∷ e ∷ cs) c is = ap (before d) (other_last (e ∷ cs) c is) ∙ stays (d == 48) d e (cs ++ c ∷ [])
