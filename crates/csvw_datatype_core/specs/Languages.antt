-- The tags of languages (XML Schema 1.1 Part 2, section 3.4.3; RFC 5646, section 2.1).
use Rattle.std.specs.Prelude.{ℕ, ◌==◌, ◌&&◌, not, nat_lt, nat_le, Bool, if◌then◌else◌, List, [], ◌∷◌, length}
use Rattle.std.specs.List.{list_all, take_while}
use Rattle.std.specs.Char.{is_ascii_alphabetic, is_ascii_alphanumeric}

abbrev pub onto_first : ℕ → List (List ℕ) → List (List ℕ)
onto_first b [] = (b ∷ []) ∷ []
onto_first b (part ∷ parts) = (b ∷ part) ∷ parts

-- the parts of a text that "-" separates
abbrev pub subtags : List ℕ → List (List ℕ)
subtags [] = [] ∷ []
subtags (b ∷ bs) = if b == 45 then [] ∷ subtags bs else onto_first b (subtags bs)

-- one to eight letters and digits
abbrev pub is_subtag : List ℕ → Bool
is_subtag part = nat_lt 0 (length part) && nat_le (length part) 8 && list_all is_ascii_alphanumeric part

-- the part in front of the first "-"
abbrev pub primary : List ℕ → List ℕ
primary bs = take_while (λ b. not (b == 45)) bs

-- a tag has subtags, of which the first one has letters alone
abbrev pub is_language : List ℕ → Bool
is_language bs = list_all is_ascii_alphabetic (primary bs) && list_all is_subtag (subtags bs)
