-- Laws of the records of rows.
use Rattle.std.specs.Prelude.{◌≡◌, ◌<◌, ℕ, List, [], ◌∷◌, All, drop, flat_map, map}
use Rattle.std.specs.List.Sorted.{IsPermutation}
use Rattle.csvw_annotate.specs.declared.row.Row.{Row}
use Rattle.csvw_key_records.specs.declared.record.KeyRecord.{KeyRecord}
use Rattle.csvw_key_records.specs.RecordFaults.{record_faults}
use Rattle.csvw_keys.specs.KeyRules.{KeyRule, key_faults}
use Rattle.csvw_records.specs.declared.dialect.Dialect.{Dialect}
use Rattle.csvw_records.specs.Files.{Row as FileRow, Body}
use Rattle.csvw_row_keys.specs.RowRecords.{records_of}

-- the tables whose rows are in parts, joined
abbrev pub all_of : List (ℕ → List Row) → ℕ → List Row
all_of parts n = flat_map (λ part. part n) parts

-- the records of all rows are those of the rows of the parts, in another order
abbrev pub JoinsRecords : Type 0
JoinsRecords = (rules : List KeyRule) (parts : List (ℕ → List Row)) → IsPermutation (records_of rules (all_of parts)) (flat_map (records_of rules) parts)

-- the source numbers of rows ascend
abbrev pub Ascends : List Row → Type 0
Ascends [] = Unit {0}
Ascends (row ∷ rows) = All (λ r. row.source < r.source) rows × Ascends rows

-- the faults of the records of whole tables are the key faults
abbrev pub FindsKeyFaults : Type 0
FindsKeyFaults =
    (rules : List KeyRule) (tables : ℕ → List Row) → ((n : ℕ) → Ascends (tables n)) → record_faults (records_of rules tables) ≡ key_faults rules tables

-- Rows of a table with the source numbers of the rows of a file ascend, also without the first rows, as header rows.
abbrev pub SourcesAscend : Type 0
SourcesAscend =
    (d : Dialect) (file : List FileRow) (headers : ℕ) (rows : List Row)
    → map (λ row. row.source) rows ≡ map (λ raw. raw.source) (drop headers (Body d file)) → Ascends rows

-- the records of all parts, in any order, have the key faults of whole tables
abbrev pub FindsFaultsOfParts : Type 0
FindsFaultsOfParts =
    (rules : List KeyRule) (parts : List (ℕ → List Row)) (records : List KeyRecord) → ((n : ℕ) → Ascends (all_of parts n))
    → IsPermutation (flat_map (records_of rules) parts) records → IsPermutation (key_faults rules (all_of parts)) (record_faults records)
