-- The spelling of key cells: `spelling` (Metadata Vocabulary for Tabular Data, section 5.5). Each value ends with a semicolon. A letter before it
-- says its kind. The values of a list are in brackets.
use Rattle.std.specs.Prelude.{ℕ, suc, ◌+◌, ◌/◌, ◌%◌, nat_eq, nat_lt, List, [], ◌∷◌, ◌++◌, ℤ, pos, negsuc, Bool, true, false, ◌||◌, codes, flat_map, map, if◌then◌else◌}
use Rattle.std.specs.Int.Digits.{digits_of}
use Rattle.csvw_datatype.specs.declared.value.Value.{Value}
use Rattle.csvw_datatype.specs.declared.value.Value.TheVariants.{Text, Truth, Number, Day, Moment}
use Rattle.csvw_keys.specs.declared.key.KeyCell.{KeyCell}
use Rattle.csvw_keys.specs.declared.key.KeyCell.TheVariants.{Null, One, Many}

-- A byte of a text that is not spelled as itself: a control character, a space, a quote, a percent sign, a comma or a semicolon.
abbrev pub is_escaped : ℕ → Bool
is_escaped b = nat_lt b 33 || (nat_eq b 34 || (nat_eq b 37 || (nat_eq b 44 || (nat_eq b 59 || nat_eq b 127))))

abbrev pub hex_digit : ℕ → ℕ
hex_digit n = if nat_lt n 10 then 48 + n else 55 + n

-- such a byte is spelled by a percent sign and two hexadecimal digits
abbrev pub byte_spelling : ℕ → List ℕ
byte_spelling b = if is_escaped b then 37 ∷ hex_digit (b / 16) ∷ hex_digit (b % 16) ∷ [] else b ∷ []

-- the decimal digits of a number; 0 has none
abbrev pub digits_spelling : ℕ → List ℕ
digits_spelling n = map (λ d. 48 + d) (digits_of 10 n)

abbrev pub number_spelling : ℤ → List ℕ
number_spelling (pos n) = digits_spelling n
number_spelling (negsuc n) = codes "-" ++ digits_spelling (suc n)

-- the letter of a value's kind and what follows it
abbrev pub value_front : Value → List ℕ
value_front (Text text) = codes "s" ++ flat_map byte_spelling text
value_front (Truth true) = codes "b1"
value_front (Truth false) = codes "b0"
value_front (Number number) = codes "n" ++ number_spelling number
value_front (Day day) = codes "d" ++ number_spelling day
value_front (Moment moment) = codes "m" ++ number_spelling moment

abbrev pub value_spelling : Value → List ℕ
value_spelling value = value_front value ++ codes ";"

abbrev pub cell_spelling : KeyCell → List ℕ
cell_spelling Null = codes "-"
cell_spelling (One value) = value_spelling value
cell_spelling (Many values) = codes "[" ++ flat_map value_spelling values ++ codes "]"

abbrev pub spelling : List KeyCell → List ℕ
spelling key = flat_map cell_spelling key
