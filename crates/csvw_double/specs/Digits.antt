-- Digits without the zeros around them.
use Rattle.std.specs.Prelude.{ℕ, ◌==◌, ◌&&◌, Bool, true, false, List, [], ◌∷◌, if◌then◌else◌}

-- without the zeros at the start
abbrev pub after_zeros : List ℕ → List ℕ
after_zeros [] = []
after_zeros (c ∷ cs) = if c == 48 then after_zeros cs else c ∷ cs

abbrev pub is_empty : List ℕ → Bool
is_empty [] = true
is_empty (c ∷ cs) = false

-- without the zeros at the end
abbrev pub before_zeros : List ℕ → List ℕ
before_zeros [] = []
before_zeros (c ∷ cs) = if c == 48 && is_empty (before_zeros cs) then [] else c ∷ before_zeros cs
