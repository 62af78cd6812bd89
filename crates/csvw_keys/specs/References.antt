-- The rows that refer to no row, or to several: `reference_faults` (Model for Tabular Data, section 6.6; Metadata Vocabulary for
-- Tabular Data, section 5.5.2.1).
use Rattle.std.specs.Prelude.{ℕ, zero, suc, List, [], ◌∷◌, flat_map, map, count_by, if◌then◌else◌}
use Rattle.csvw_annotate.specs.declared.row.Row.{Row}
use Rattle.csvw_fault.specs.declared.fault.Code.TheVariants.{NoReferencedRow, ManyReferencedRows}
use Rattle.csvw_fault.specs.declared.fault.Fault.{Fault}
use Rattle.csvw_keys.specs.declared.key.KeyCell.{KeyCell}
use Rattle.csvw_keys.specs.EqualKeys.{equal_keys}
use Rattle.csvw_keys.specs.Key.{is_null_key, key_of}
use Rattle.csvw_keys.specs.Places.{fault_of}

-- a row that refers to others: its key cells, and its number in its source
pub record ReferringRow : Type 0 where
  pub key : List KeyCell
  pub source : ℕ

-- a row with these key cells refers to others, unless all of them are null
abbrev pub referring : List KeyCell → ℕ → List ReferringRow
referring key source = if is_null_key key then [] else record { key = key; source = source } ∷ []

-- the rows that refer to others by the cells of these columns
abbrev pub referring_of : List ℕ → List Row → List ReferringRow
referring_of columns rows = flat_map (λ row. referring (key_of columns row) row.source) rows

-- the faults of a row that refers to so many rows: it refers to none, or to several
abbrev pub fault_by_count : ℕ → List ℕ → ℕ → ℕ → List Fault
fault_by_count table columns source zero = fault_of NoReferencedRow table columns source ∷ []
fault_by_count table columns source (suc zero) = []
fault_by_count table columns source (suc (suc n)) = fault_of ManyReferencedRows table columns source ∷ []

-- the faults of a row that refers to rows of these keys
abbrev pub reference_fault : ℕ → List ℕ → List (List KeyCell) → ReferringRow → List Fault
reference_fault table columns keys row = fault_by_count table columns row.source (count_by (equal_keys row.key) keys)

-- A fault for each row whose key cells are not all null and that does not equal exactly one row of the referenced table in the referenced
-- columns.
abbrev pub reference_faults : ℕ → List ℕ → List Row → List ℕ → List Row → List Fault
reference_faults table columns rows referenced_columns referenced_rows =
    flat_map (reference_fault table columns (map (key_of referenced_columns) referenced_rows)) (referring_of columns rows)
