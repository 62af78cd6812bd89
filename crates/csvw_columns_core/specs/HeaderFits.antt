-- How a header fits the columns of its table (Metadata Vocabulary for Tabular Data, sections 5.6 and 6.4; Model for Tabular
-- Data, section 8).
use Rattle.std.specs.Prelude.{ℕ, ◌+◌, ◌==◌, ◌||◌, Bool, true, nat_lt, if◌then◌else◌, List, [], ◌∷◌, ◌++◌, length, map, bytes_eq, flat_map}
use Rattle.std.specs.List.{list_any, slice_index_or}
use Rattle.csvw_fault.specs.declared.fault.Fault.{Fault}
use Rattle.csvw_fault.specs.declared.fault.Code.{Code}
use Rattle.csvw_fault.specs.declared.fault.Code.TheVariants.{HeaderMissing, HeaderCount, HeaderMismatch}
use Rattle.csvw_fault.specs.declared.fault.Kind.TheVariants.{Error}
use Rattle.csvw_iri.specs.Encoded.{percent_encoded}
use Rattle.csvw_columns_core.specs.Columns.{field_count}
use Rattle.csvw_columns_core.specs.declared.column.Column.{Column}
use Rattle.csvw_columns_core.specs.declared.header.HeaderRow.{HeaderRow}

-- an error at a row and a column of a table
abbrev pub error_at : ℕ → ℕ → ℕ → Code → Fault
error_at table row column code = record { place = record { table = table; row = row; column = column }; code = code; kind = Error }

-- the cell of a header row at this place, from 0
abbrev pub cell_at : HeaderRow → ℕ → List ℕ
cell_at row i = slice_index_or row.cells i []

-- some header cell of the column at this place is one of these titles
abbrev pub has_title : List (List ℕ) → List HeaderRow → ℕ → Bool
has_title titles rows i = list_any (λ row. list_any (λ title. bytes_eq title (cell_at row i)) titles) rows

-- the header cells of the column at this place, each percent-encoded as a name is
abbrev pub encoded_cells : List HeaderRow → ℕ → List (List ℕ)
encoded_cells rows i = map (λ row. percent_encoded (cell_at row i)) rows

-- one of them is this name
abbrev pub has_name : List ℕ → List HeaderRow → ℕ → Bool
has_name name rows i = list_any (λ cell. bytes_eq cell name) (encoded_cells rows i)

-- A column without titles fits if it is virtual or has no name of its own, or by its name. A column with titles fits if it is virtual, or by one of them.
abbrev pub fits_alone : Column → List HeaderRow → ℕ → Bool
fits_alone c rows i = if c.is_named then has_name c.name rows i else true

abbrev pub fits : Column → List HeaderRow → ℕ → Bool
fits c rows i = c.is_virtual || (if length c.titles == 0 then fits_alone c rows i else has_title c.titles rows i)

-- each column that doesn't fit, at the last header row; the columns from place i on
abbrev pub mismatches_from : ℕ → ℕ → List HeaderRow → ℕ → List Column → List Fault
mismatches_from table source rows i [] = []
mismatches_from table source rows i (c ∷ cs) =
    (if fits c rows i then [] else error_at table source c.number HeaderMismatch ∷ []) ++ mismatches_from table source rows (i + 1) cs

-- each header row that does not have one cell for each column that isn't virtual
abbrev pub count_faults : ℕ → ℕ → List HeaderRow → List Fault
count_faults table count rows = flat_map (λ row. if length row.cells == count then [] else error_at table row.source 0 HeaderCount ∷ []) rows

-- the source number of the last row
abbrev pub last_source : List HeaderRow → ℕ
last_source [] = 0
last_source (row ∷ []) = row.source
last_source (row ∷ next ∷ rows) = last_source (next ∷ rows)

-- mismatches are reported only if each row has the right number of cells
abbrev pub mismatches : ℕ → List HeaderRow → List Column → List Fault → List Fault
mismatches table rows columns [] = mismatches_from table (last_source rows) rows 0 columns
mismatches table rows columns (fault ∷ faults) = fault ∷ faults

-- what is wrong with the header of a table that has so many header rows by its dialect
abbrev pub header_faults : ℕ → ℕ → List Column → List HeaderRow → List Fault
header_faults table wanted columns rows =
    if wanted == 0 then []
    else (if nat_lt (length rows) wanted then error_at table 0 0 HeaderMissing ∷ []
    else mismatches table rows columns (count_faults table (field_count columns) rows))
