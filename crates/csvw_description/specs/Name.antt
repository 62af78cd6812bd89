-- The names of columns (Metadata Vocabulary for Tabular Data, section 5.6, `name`).
use Rattle.std.specs.Prelude.{ℕ, ◌+◌, List, [], ◌∷◌, ◌++◌, codes, Option, Some, None}
use Rattle.std.specs.Fmt.{decimal}
use Rattle.csvw_iri.specs.Encoded.{percent_encoded}
use Rattle.csvw_description.specs.declared.column.ColumnDescription.{ColumnDescription}

-- the name of column n, from 1, if it has neither a name nor a title
abbrev pub numbered : ℕ → List ℕ
numbered n = codes "_col." ++ decimal n

-- its first title, percent-encoded, else `_col.` and its number
abbrev pub titled : ℕ → List (List ℕ) → List ℕ
titled n [] = numbered n
titled n (title ∷ titles) = percent_encoded title

-- its declared name, else that of its titles
abbrev pub named : ℕ → Option (List ℕ) → List (List ℕ) → List ℕ
named n (Some name) titles = name
named n None titles = titled n titles

-- the name of column n, from 1
abbrev pub name_of : ℕ → ColumnDescription → List ℕ
name_of n column = named n column.name column.titles

-- the names of columns, the first of which here has the index i
abbrev pub numbered_names : ℕ → List ColumnDescription → List (List ℕ)
numbered_names i [] = []
numbered_names i (c ∷ cs) = name_of (i + 1) c ∷ numbered_names (i + 1) cs
