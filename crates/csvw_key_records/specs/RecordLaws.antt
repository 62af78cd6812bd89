-- Laws of records and their faults: `PermutesFaults`, `KeepsFaults`, `LinesAreUnique`.
use Rattle.std.specs.Prelude.{◌≡◌, List, ◌++◌, flat_map}
use Rattle.std.specs.List.{All}
use Rattle.std.specs.List.Sorted.{IsPermutation}
use Rattle.csvw_fault.specs.declared.fault.Fault.{Fault}
use Rattle.csvw_key_records.specs.declared.record.KeyRecord.{KeyRecord}
use Rattle.csvw_key_records.specs.RecordFaults.{record_faults}
use Rattle.csvw_key_records.specs.Records.{Fits, line_of}
use Rattle.csvw_key_records.specs.Sorted.{AreSorted}

-- the same records in another order have the same faults, in some order
abbrev pub PermutesFaults : Type 0
PermutesFaults = (xs ys : List KeyRecord) → IsPermutation xs ys → IsPermutation (record_faults xs) (record_faults ys)

-- the faults of the first ones of sorted records are faults of all of them
abbrev pub KeepsFaults : Type 0
KeepsFaults =
    (records more : List KeyRecord) → AreSorted (records ++ more)
    → (later : List Fault) × IsPermutation (record_faults (records ++ more)) (record_faults records ++ later)

-- records with the same lines are the same
abbrev pub LinesAreUnique : Type 0
LinesAreUnique = (xs ys : List KeyRecord) → All Fits xs → All Fits ys → flat_map line_of xs ≡ flat_map line_of ys → xs ≡ ys
