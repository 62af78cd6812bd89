-- The rows that have the primary key of an earlier row: `duplicate_faults` (Model for Tabular Data, section 6.6; Metadata
-- Vocabulary for Tabular Data, section 5.5).
use Rattle.std.specs.Prelude.{ℕ, List, [], ◌∷◌, ◌++◌, Bool, if◌then◌else◌}
use Rattle.std.specs.List.{list_any}
use Rattle.csvw_annotate.specs.declared.row.Row.{Row}
use Rattle.csvw_fault.specs.declared.fault.Code.TheVariants.{DuplicateKey}
use Rattle.csvw_fault.specs.declared.fault.Fault.{Fault}
use Rattle.csvw_keys.specs.declared.key.KeyCell.{KeyCell}
use Rattle.csvw_keys.specs.EqualKeys.{equal_keys}
use Rattle.csvw_keys.specs.Key.{key_of}
use Rattle.csvw_keys.specs.Places.{fault_of}

-- whether a key is in a list of keys
abbrev pub is_among : List KeyCell → List (List KeyCell) → Bool
is_among key keys = list_any (equal_keys key) keys

-- the faults of a row after rows with these keys
abbrev pub duplicate : ℕ → List ℕ → List (List KeyCell) → Row → List Fault
duplicate table columns before row =
    if is_among (key_of columns row) before then fault_of DuplicateKey table columns row.source ∷ [] else []

-- the faults of rows after rows with these keys
abbrev pub duplicates_behind : ℕ → List ℕ → List (List KeyCell) → List Row → List Fault
duplicates_behind table columns before [] = []
duplicates_behind table columns before (row ∷ rows) =
    duplicate table columns before row ++ duplicates_behind table columns (before ++ key_of columns row ∷ []) rows

-- a fault for each row of the table with an earlier row of equal key cells
abbrev pub duplicate_faults : ℕ → List ℕ → List Row → List Fault
duplicate_faults table columns rows = duplicates_behind table columns [] rows
