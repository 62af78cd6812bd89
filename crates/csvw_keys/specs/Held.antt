-- Keys as they are stored.
use Rattle.std.specs.Prelude.{ℕ, suc, ◌/◌, ◌%◌, ◌^◌, List, [], ◌∷◌, ◌++◌, length, drop, replicate, nat_le, ℤ, pos, negsuc, Bool, true, false, map, if◌then◌else◌}
use Rattle.csvw_annotate.specs.declared.row.Row.{Row}
use Rattle.csvw_datatype.specs.declared.value.Value.{Value}
use Rattle.csvw_datatype.specs.declared.value.Value.TheVariants as value
use Rattle.csvw_keys.specs.declared.held.HeldKey.{HeldKey}
use Rattle.csvw_keys.specs.declared.held_value.HeldValue.{HeldValue}
use Rattle.csvw_keys.specs.declared.held_value.TheConstants.{SHORT}
use Rattle.csvw_keys.specs.declared.held_value.HeldValue.TheVariants.{Null, Short, Text, Truth, Natural, Negative, Day, Moment, Cells}
use Rattle.csvw_keys.specs.declared.key.KeyCell.{KeyCell}
use Rattle.csvw_keys.specs.declared.key.KeyCell.TheVariants as cell
use Rattle.csvw_keys.specs.Key.{is_null_key, key_of}

-- a number by its sign and the halves of its size
abbrev pub held_number : ℤ → HeldValue
held_number (pos n) = Natural (n / 2 ^ 64) (n % 2 ^ 64)
held_number (negsuc n) = Negative (suc n / 2 ^ 64) (suc n % 2 ^ 64)

-- a text with zeros after it, so that it has the number of bytes of a short text
abbrev pub padded : List ℕ → List ℕ
padded text = text ++ drop (length text) (replicate SHORT 0)

-- a short text by its bytes and their number; a longer one stays as it is
abbrev pub held_text : List ℕ → HeldValue
held_text text = if nat_le (length text) SHORT then Short (padded text) (length text) else Text (record { value = text })

abbrev pub held_value : Value → HeldValue
held_value (value.Text text) = held_text text
held_value (value.Truth truth) = Truth truth
held_value (value.Number number) = held_number number
held_value (value.Day day) = Day day
held_value (value.Moment moment) = Moment moment

abbrev pub held_cell : KeyCell → HeldValue
held_cell cell.Null = Null
held_cell (cell.One value) = held_value value
held_cell (cell.Many values) = Cells (record { value = cell.Many values ∷ [] })

-- what is stored of these cells; a cell that is not a list is its value
abbrev pub held_cells : List KeyCell → HeldValue
held_cells [] = Cells (record { value = [] })
held_cells (c ∷ []) = held_cell c
held_cells (c ∷ d ∷ cells) = Cells (record { value = c ∷ d ∷ cells })

-- the key of these cells as it is stored
abbrev pub held : List KeyCell → HeldKey
held key = record { value = held_cells key }

-- the key of a row in these columns as it is stored
abbrev pub held_of : List ℕ → Row → HeldKey
held_of columns row = held (key_of columns row)

-- the keys of rows in these columns as they are stored
abbrev pub held_keys : List ℕ → List Row → List HeldKey
held_keys columns rows = map held (map (key_of columns) rows)

-- only null cells are stored
abbrev pub is_null_value : HeldValue → Bool
is_null_value Null = true
is_null_value (Cells cells) = is_null_key cells.value
is_null_value _ = false

-- each cell is null
abbrev pub is_null_held : HeldKey → Bool
is_null_held key = is_null_value key.value
