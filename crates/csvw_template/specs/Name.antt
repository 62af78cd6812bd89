-- Names of variables, and lists of names with commas between them (RFC 6570, section 2.3): varname = varchar *( ["."] varchar ),
-- varchar = ALPHA / DIGIT / "_" / pct-encoded.
use Rattle.std.specs.Prelude.{◌≡◌, ℕ, ◌==◌, ◌||◌, ◌++◌, List, [], ◌∷◌, Bool, true, false}
use Rattle.std.specs.List.{flat_map, All}
use Rattle.csvw_text.specs.Class.{is_within, is_letter_char, is_digit_char}

-- a hexadecimal digit
abbrev pub is_hex : ℕ → Bool
is_hex b = is_digit_char b || is_within 65 70 b || is_within 97 102 b

-- a letter, a digit or `_`
abbrev pub is_name_byte : ℕ → Bool
is_name_byte b = is_letter_char b || is_digit_char b || b == 95

-- one byte of a name, or a triplet
abbrev pub IsVarchar : List ℕ → Type 0
IsVarchar [] = ⊥
IsVarchar (b ∷ []) = is_name_byte b ≡ true
IsVarchar (b ∷ h ∷ []) = ⊥
IsVarchar (b ∷ h ∷ l ∷ []) = (b ≡ 37) × (is_hex h ≡ true) × (is_hex l ≡ true)
IsVarchar (b ∷ h ∷ l ∷ c ∷ more) = ⊥

-- one more varchar, with a dot before it or without
abbrev pub further : Bool × List ℕ → List ℕ
further v = elim v.0 [ true ↦ 46 ∷ v.1 | false ↦ v.1 ]

pub record IsName (name : List ℕ) : Type 0 where
  pub first : List ℕ
  pub others : List (Bool × List ℕ)
  pub is_varchar : IsVarchar first
  pub are_varchars : All (λ (v : Bool × List ℕ). IsVarchar v.1) others
  pub spelled : name ≡ first ++ flat_map further others

-- one name or more
abbrev pub AreNames : List (List ℕ) → Type 0
AreNames [] = ⊥
AreNames (name ∷ names) = IsName name × All IsName names

-- a text after a comma
abbrev pub after_comma : List ℕ → List ℕ
after_comma text = 44 ∷ text

-- texts with commas between them
abbrev pub listed : List (List ℕ) → List ℕ
listed [] = []
listed (text ∷ texts) = text ++ flat_map after_comma texts
