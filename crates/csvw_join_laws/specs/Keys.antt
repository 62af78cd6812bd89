-- The faults that all parts of a group find, with those of the joined records of their rows: `KeysJoin` (Metadata Vocabulary for Tabular
-- Data, sections 5.5.1 and 5.5.2; Model for Tabular Data, section 6.6).
use Rattle.std.specs.Prelude.{ℕ, ◌==◌, if◌then◌else◌, List, [], ◌++◌, flat_map}
use Rattle.std.specs.List.{zip}
use Rattle.std.specs.List.Sorted.{IsPermutation}
use Rattle.csvw_annotate.specs.declared.row.Row.{Row}
use Rattle.csvw_columns.specs.declared.plan.Plan.{Plan}
use Rattle.csvw_fault.specs.declared.fault.Fault.{Fault}
use Rattle.csvw_group_laws.specs.Annotated.{AreAnnotated, Table}
use Rattle.csvw_group_laws.specs.Violations.{violations}
use Rattle.csvw_key_records.specs.RecordFaults.{record_faults}
use Rattle.csvw_key_records.specs.declared.record.KeyRecord.{KeyRecord}
use Rattle.csvw_keys.specs.KeyRules.{rules_of}
use Rattle.csvw_row_keys.specs.RowRecords.{records_of}
use Rattle.csvw_join_laws.specs.Joining.{AreCutInto, TablePiece, piece_faults, pieces_of}

-- the rows of a piece, if it is of the table of a number
abbrev pub rows_if : ℕ → TablePiece → List Row
rows_if n p = if p.plan.number == n then p.rows else []

-- the rows of a part in the table of a number
abbrev pub rows_in : List TablePiece → ℕ → List Row
rows_in part n = flat_map (rows_if n) part

-- The records are those of the rows of all parts, in any order. The faults are the warnings of the metadata, the faults of the headers,
-- those of the cells of all parts, and those that the records show, in any order.
pub record AreFoundByParts (plan : Plan) (tables : List Table) (parts : List (List TablePiece)) (records : List KeyRecord) (faults : List Fault)
    : Type 0 where
  pub recorded : IsPermutation (flat_map (λ part. records_of (rules_of plan) (rows_in part)) parts) records
  pub joined : IsPermutation
      (((plan.warnings ++ flat_map (λ t. t.1.header_faults) (zip plan.tables tables)) ++ flat_map (flat_map piece_faults) parts) ++ record_faults records)
      faults

-- they are the violations of the group
abbrev pub KeysJoin : Type 0
KeysJoin =
    (plan : Plan) (texts : ℕ → List ℕ) (tables : List Table) (parts : List (List TablePiece)) (records : List KeyRecord) (faults : List Fault)
    → AreAnnotated plan.tables texts tables → AreCutInto (zip plan.tables tables) (pieces_of parts) → AreFoundByParts plan tables parts records faults
    → IsPermutation (violations plan tables) faults
