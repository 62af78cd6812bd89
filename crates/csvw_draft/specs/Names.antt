-- The names of columns that are made from titles.
use Rattle.std.specs.Prelude.{◌≡◌, ◌==◌, ◌||◌, not, ℕ, List, [], ◌∷◌, Bool, true}
use Rattle.std.specs.Char.{is_ascii_alphanumeric}
use Rattle.std.specs.List.{All}

-- a letter, a digit or `_`
abbrev pub is_made_of : ℕ → Bool
is_made_of b = is_ascii_alphanumeric b || b == 95

-- it doesn't begin with `_`
abbrev pub begins_well : List ℕ → Bool
begins_well [] = true
begins_well (b ∷ bs) = not (b == 95)

-- Letters, digits and `_`, of which `_` isn't the first. If it isn't empty, it is the name of a variable (RFC 6570, section 2.3) that may be
-- declared.
abbrev pub IsMade : List ℕ → Type 0
IsMade name = All (λ b. is_made_of b ≡ true) name × (begins_well name ≡ true)
