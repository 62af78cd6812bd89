-- The places of the columns of a table, by their names.
use Rattle.std.specs.Prelude.{◌≡◌, ℕ, List, String, Option, Some, None, bytes_eq, if◌then◌else◌}
use Rattle.std.specs.List.{position_from}
use Rattle.std.specs.Option.{option_or}
use Rattle.std.specs.HashMap.{HashMap, get_by_text}
use Rattle.csvw_columns_core.specs.declared.column.Column.{Column}

-- the place of the first column of this name
abbrev pub place_of : List Column → List ℕ → Option ℕ
place_of columns name = position_from (λ (c : Column). bytes_eq c.name name) 0 columns

-- the map has the place of each name, and no other
abbrev pub ArePlaces : {Y S : Type 0} → List Column → HashMap (String Y) ℕ S → Type 0
ArePlaces columns places = (name : List ℕ) → get_by_text places name ≡ place_of columns name

-- the map has this place for the name of the column, unless it has a place for the name already
abbrev pub AddsPlace : {Y S : Type 0} → HashMap (String Y) ℕ S → HashMap (String Y) ℕ S → Column → ℕ → Type 0
AddsPlace old new column place =
    (name : List ℕ) → get_by_text new name ≡ option_or (get_by_text old name) (if bytes_eq column.name name then Some place else None)
