-- The faults of records of rows and keys, by counting: `record_faults` (Metadata Vocabulary for Tabular Data, sections 5.5 and 5.5.2.1;
-- Model for Tabular Data, section 6.6).
use Rattle.std.specs.Prelude.{ℕ, zero, suc, nat_eq, nat_lt, Bool, true, false, ◌&&◌, List, [], ◌∷◌, bytes_eq, count_by, flat_map, if◌then◌else◌}
use Rattle.std.specs.List.{list_any}
use Rattle.csvw_fault.specs.declared.fault.Code.{Code}
use Rattle.csvw_fault.specs.declared.fault.Code.TheVariants.{DuplicateKey, NoReferencedRow, ManyReferencedRows}
use Rattle.csvw_fault.specs.declared.fault.Fault.{Fault}
use Rattle.csvw_fault.specs.declared.fault.Kind.TheVariants.{Error}
use Rattle.csvw_fault.specs.declared.fault.Place.{Place}
use Rattle.csvw_key_records.specs.declared.record.KeyRecord.{KeyRecord}
use Rattle.csvw_key_records.specs.declared.record.Role.{Role}
use Rattle.csvw_key_records.specs.declared.record.Role.TheVariants.{Unique, Referenced, Refers}

-- two records are of the same rule and have the same key
abbrev pub same_key : KeyRecord → KeyRecord → Bool
same_key a b = nat_eq a.rule b.rule && bytes_eq a.key b.key

abbrev pub is_unique : Role → Bool
is_unique Unique = true
is_unique Referenced = false
is_unique Refers = false

abbrev pub is_referenced : Role → Bool
is_referenced Unique = false
is_referenced Referenced = true
is_referenced Refers = false

-- the second record is of an earlier row with the same primary key as the first
abbrev pub is_earlier : KeyRecord → KeyRecord → Bool
is_earlier r q = is_unique q.role && same_key r q && nat_lt q.place.row r.place.row

-- the second record is of a row that the first refers to
abbrev pub is_referred : KeyRecord → KeyRecord → Bool
is_referred r q = is_referenced q.role && same_key r q

abbrev pub fault_at : Code → Place → Fault
fault_at code place = record { place = place; code = code; kind = Error }

-- the faults of a row that refers to so many rows: it refers to none, or to several
abbrev pub fault_by_count : Place → ℕ → List Fault
fault_by_count place zero = fault_at NoReferencedRow place ∷ []
fault_by_count place (suc zero) = []
fault_by_count place (suc (suc n)) = fault_at ManyReferencedRows place ∷ []

-- the faults of a record of this role among all records
abbrev pub faults_by_role : List KeyRecord → KeyRecord → Role → List Fault
faults_by_role records r Unique = if list_any (is_earlier r) records then fault_at DuplicateKey r.place ∷ [] else []
faults_by_role records r Referenced = []
faults_by_role records r Refers = fault_by_count r.place (count_by (is_referred r) records)

abbrev pub faults_among : List KeyRecord → KeyRecord → List Fault
faults_among records r = faults_by_role records r r.role

-- A fault for each record of a row with an earlier row of the same primary key, and for each record of a row that does not refer to exactly
-- one row.
abbrev pub record_faults : List KeyRecord → List Fault
record_faults records = flat_map (faults_among records) records
