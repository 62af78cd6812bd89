-- Texts of one character.
use Rattle.std.specs.Prelude.{◌≡◌, ℕ, Option, Some, None, List, [], ◌∷◌}
use Rattle.std.specs.Str.{chars}

-- the text is this character alone
abbrev pub IsCharacter : List ℕ → ℕ → Type 0
IsCharacter text c = chars text ≡ c ∷ []

-- the character of a text, or a default if there is no text
abbrev pub IsCharacterOr : ℕ → Option (List ℕ) → ℕ → Type 0
IsCharacterOr default None c = c ≡ default
IsCharacterOr default (Some text) c = IsCharacter text c

-- the character of a text, or none if there is no text
abbrev pub IsOptionalCharacter : Option (List ℕ) → Option ℕ → Type 0
IsOptionalCharacter None o = o ≡ None
IsOptionalCharacter (Some text) None = ⊥
IsOptionalCharacter (Some text) (Some c) = IsCharacter text c
