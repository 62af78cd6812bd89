-- Laws of the spelling of keys.
use Rattle.std.specs.Prelude.{◌≡◌, ℕ, List, Bool, true, false, ◌||◌, nat_eq, nat_lt}
use Rattle.std.specs.List.{list_any}
use Rattle.csvw_keys.specs.declared.key.KeyCell.{KeyCell}
use Rattle.csvw_keys.specs.EqualKeys.{equal_keys}
use Rattle.csvw_row_keys.specs.Spelling.{spelling}

-- two keys have one spelling exactly if they are equal
pub record SpelledApart : Type 0 where
  pub apart : (a b : List KeyCell) → spelling a ≡ spelling b → equal_keys a b ≡ true
  pub alike : (a b : List KeyCell) → equal_keys a b ≡ true → spelling a ≡ spelling b

-- a control character, a comma or a quote
abbrev pub is_special : ℕ → Bool
is_special b = nat_lt b 32 || nat_eq b 34 || nat_eq b 44 || nat_eq b 127

-- no spelling has one
abbrev pub SpelledPlainly : Type 0
SpelledPlainly = (key : List KeyCell) → list_any is_special (spelling key) ≡ false
