-- The columns that come from a header (Model for Tabular Data, section 8; Metadata Vocabulary for Tabular Data, section 5.6).
use Rattle.std.specs.Prelude.{ℕ, zero, suc, ◌==◌, false, not, List, [], ◌∷◌, ◌++◌, length, map, filter, Option, None, unwrap_or}
use Rattle.csvw_description.specs.declared.column.ColumnDescription.{ColumnDescription}
use Rattle.csvw_description.specs.Inherited.{no_inherited}
use Rattle.csvw_columns_core.specs.HeaderFits.{cell_at}
use Rattle.csvw_columns_core.specs.declared.header.HeaderRow.{HeaderRow}

-- a column that has these titles alone
abbrev pub titled_column : List (List ℕ) → ColumnDescription
titled_column titles = record { name = None; titles = titles; is_virtual = false; suppressed = false; is_row_title = false; inherited = no_inherited; warnings = [] }

-- the header cells of the column at this place that aren't empty
abbrev pub titles_at : List HeaderRow → ℕ → List (List ℕ)
titles_at rows i = filter (λ title. not (length title == 0)) (map (λ row. cell_at row i) rows)

-- the first so many columns, each with its header cells as titles
abbrev pub titled_columns : List HeaderRow → ℕ → List ColumnDescription
titled_columns rows zero = []
titled_columns rows (suc n) = titled_columns rows n ++ titled_column (titles_at rows n) ∷ []

-- as many as the first header row has cells; without header rows, as many as the first data row has fields
abbrev pub column_count : List HeaderRow → Option ℕ → ℕ
column_count [] width = unwrap_or width 0
column_count (row ∷ rows) width = length row.cells

-- the columns from a header
abbrev pub from_header : List HeaderRow → Option ℕ → List ColumnDescription
from_header rows width = titled_columns rows (column_count rows width)
