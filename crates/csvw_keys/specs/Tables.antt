-- The rows so far of the tables of a group, by the numbers of the tables, from 1.
use Rattle.std.specs.Prelude.{ℕ, List, [], ◌∷◌, ◌++◌, nat_eq, if◌then◌else◌}
use Rattle.csvw_annotate.specs.declared.row.Row.{Row}

-- one more row of a table
abbrev pub with_row : (ℕ → List Row) → ℕ → Row → ℕ → List Row
with_row tables table row n = if nat_eq table n then tables n ++ row ∷ [] else tables n

-- more rows of a table
abbrev pub with_rows : (ℕ → List Row) → ℕ → List Row → ℕ → List Row
with_rows tables table more n = if nat_eq table n then tables n ++ more else tables n
