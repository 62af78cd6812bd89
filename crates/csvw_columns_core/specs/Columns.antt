-- The number of fields of a row: one for each column that is not virtual (Metadata Vocabulary for Tabular Data, section 5.6,
-- `virtual`).
use Rattle.std.specs.Prelude.{ℕ, List, not}
use Rattle.std.specs.List.{count_by}
use Rattle.csvw_columns_core.specs.declared.column.Column.{Column}

-- the number of fields of a row: one for each column that isn't virtual (Metadata Vocabulary, section 5.6, `virtual`)
abbrev pub field_count : List Column → ℕ
field_count columns = count_by (λ c. not c.is_virtual) columns
