-- Names that are unique in their table (Metadata Vocabulary for Tabular Data, section 5.6, `name`).
use Rattle.std.specs.Prelude.{◌≢◌, ℕ, List, map, AllPairs}
use Rattle.csvw_columns_core.specs.declared.column.Column.{Column}

-- no two of them are equal
abbrev pub AllDistinct : List (List ℕ) → Type 0
AllDistinct names = AllPairs (λ x y. x ≢ y) names

-- no two columns have the same name
abbrev pub AreNamedApart : List Column → Type 0
AreNamedApart columns = AllDistinct (map (λ c. c.name) columns)
