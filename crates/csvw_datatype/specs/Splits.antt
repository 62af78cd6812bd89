-- The parts of a text before and after a character.
use Rattle.std.specs.Prelude.{ℕ, ◌==◌, Option, Some, None, option_map, List, [], ◌∷◌, if◌then◌else◌}

-- the text before the first byte that is this one and the text after it, if there is one
abbrev pub parts_at : ℕ → List ℕ → Option (List ℕ × List ℕ)
parts_at c [] = None
parts_at c (b ∷ bs) = if b == c then Some ([], bs) else option_map (λ x. (b ∷ x.0, x.1)) (parts_at c bs)
