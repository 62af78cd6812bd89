-- What is known of the records of one key, and the faults that a further record makes certain (Metadata Vocabulary for Tabular Data,
-- sections 5.5 and 5.5.2.1).
use Rattle.std.specs.Prelude.{◌≡◌, ◌⊎◌, ◌<◌, ℕ, zero, suc, nat_eq, nat_lt, Bool, true, false, ◌&&◌, List, Option, None, Some, bytes_eq, count_by, if◌then◌else◌}
use Rattle.std.specs.List.{All}
use Rattle.csvw_fault.specs.declared.fault.Code.TheVariants.{DuplicateKey, NoReferencedRow, ManyReferencedRows}
use Rattle.csvw_fault.specs.declared.fault.Fault.{Fault}
use Rattle.csvw_fault.specs.declared.fault.Place.{Place}
use Rattle.csvw_key_records.specs.declared.group.Group.{Group}
use Rattle.csvw_key_records.specs.declared.group.Tally.{Tally}
use Rattle.csvw_key_records.specs.declared.group.Tally.TheVariants.{Zero, One, Many}
use Rattle.csvw_key_records.specs.declared.record.KeyRecord.{KeyRecord}
use Rattle.csvw_key_records.specs.declared.record.Role.{Role}
use Rattle.csvw_key_records.specs.declared.record.Role.TheVariants.{Unique, Referenced, Refers}
use Rattle.csvw_key_records.specs.RecordFaults.{fault_at, is_referenced, is_unique}

abbrev pub tally_of : ℕ → Tally
tally_of zero = Zero
tally_of (suc zero) = One
tally_of (suc (suc n)) = Many

-- one row more
abbrev pub more : Tally → Tally
more Zero = One
more One = Many
more Many = Many

-- of no records
abbrev pub empty_group : Group
empty_group = record { referenced = Zero; least = None }

-- the fault of a row that refers to so many rows
abbrev pub fault_by_tally : Tally → Place → Option Fault
fault_by_tally Zero place = Some (fault_at NoReferencedRow place)
fault_by_tally One place = None
fault_by_tally Many place = Some (fault_at ManyReferencedRows place)

-- the place of the first row so far, after a row at this place
abbrev pub least_after : Option Place → Place → Place
least_after None place = place
least_after (Some least) place = if nat_lt place.row least.row then place else least

-- the fault of the later one of the first row so far and a row at this place
abbrev pub duplicate : Option Place → Place → Option Fault
duplicate None place = None
duplicate (Some least) place = Some (fault_at DuplicateKey (if nat_lt place.row least.row then least else place))

-- a row at this place has the number of the first row so far
abbrev pub is_twin : Option Place → Place → Bool
is_twin None place = false
is_twin (Some least) place = nat_eq place.row least.row

-- after a record of this role and place
abbrev pub after : Group → Role → Place → Group
after group Unique place = record { referenced = group.referenced; least = Some (least_after group.least place) }
after group Referenced place = record { referenced = more group.referenced; least = group.least }
after group Refers place = group

-- the fault that such a record makes certain
abbrev pub certain : Group → Role → Place → Option Fault
certain group Unique place = duplicate group.least place
certain group Referenced place = None
certain group Refers place = fault_by_tally group.referenced place

-- such a record is of the first row so far, which has another record
abbrev pub repeats : Group → Role → Place → Bool
repeats group Unique place = is_twin group.least place
repeats group Referenced place = false
repeats group Refers place = false

-- the record is of a row with this primary key
abbrev pub has_unique : ℕ → List ℕ → KeyRecord → Bool
has_unique rule key q = is_unique q.role && (nat_eq rule q.rule && bytes_eq key q.key)

-- the record is of a row to which this key refers
abbrev pub has_referenced : ℕ → List ℕ → KeyRecord → Bool
has_referenced rule key q = is_referenced q.role && (nat_eq rule q.rule && bytes_eq key q.key)

-- the place is of a later row, or is this place
abbrev pub IsFrom : Place → Place → Type 0
IsFrom least place = (least.row < place.row) ⊎ (place ≡ least)

-- the place is that of the first row of these with a primary key, and no other one of them has its number
pub record IsLeast (rule : ℕ) (key : List ℕ) (records : List KeyRecord) (least : Place) : Type 0 where
  pub others : All (λ q. has_unique rule key q ≡ true → IsFrom least q.place) records
  pub once : count_by (λ q. has_unique rule key q && nat_eq q.place.row least.row) records ≡ suc zero

abbrev pub AreLeast : ℕ → List ℕ → List KeyRecord → Option Place → Type 0
AreLeast rule key records None = All (λ q. has_unique rule key q ≡ false) records
AreLeast rule key records (Some least) = IsLeast rule key records least

-- the group is what is known of a key among these records
pub record IsGroup (group : Group) (rule : ℕ) (key : List ℕ) (records : List KeyRecord) : Type 0 where
  pub tally : group.referenced ≡ tally_of (count_by (has_referenced rule key) records)
  pub least : AreLeast rule key records group.least
