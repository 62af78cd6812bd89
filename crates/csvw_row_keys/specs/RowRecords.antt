-- The records of rows and keys: `records_of` (Metadata Vocabulary for Tabular Data, sections 5.5 and 5.5.2.1).
use Rattle.std.specs.Prelude.{ℕ, suc, List, [], ◌∷◌, ◌++◌, flat_map, map, if◌then◌else◌}
use Rattle.csvw_annotate.specs.declared.row.Row.{Row}
use Rattle.csvw_key_records.specs.declared.record.KeyRecord.{KeyRecord}
use Rattle.csvw_key_records.specs.declared.record.Role.{Role}
use Rattle.csvw_key_records.specs.declared.record.Role.TheVariants as role
use Rattle.csvw_keys.specs.Key.{is_null_key, key_of}
use Rattle.csvw_keys.specs.KeyRules.{KeyRule, Unique, Refers, Recorded}
use Rattle.csvw_keys.specs.Places.{first_of}
use Rattle.csvw_row_keys.specs.Spelling.{spelling}

-- the record of a row of a table, which has this part in the key of a number: its place is the row and the first of the columns
abbrev pub record_of : ℕ → Role → ℕ → List ℕ → Row → KeyRecord
record_of rule part table columns row = record {
  rule = rule;
  key = spelling (key_of columns row);
  role = part;
  place = record { table = table; row = row.source; column = first_of columns };
}

-- the record of a row that refers to another, unless its key cells are all null
abbrev pub refers_records : ℕ → ℕ → List ℕ → Row → List KeyRecord
refers_records rule table columns row = if is_null_key (key_of columns row) then [] else record_of rule role.Refers table columns row ∷ []

-- the records of the key of a number: of a foreign key those of the rows that it refers to, then those of the rows that refer
abbrev pub rule_records : (ℕ → List Row) → ℕ → KeyRule → List KeyRecord
rule_records tables rule (Unique table columns) = map (record_of rule role.Unique table columns) (tables table)
rule_records tables rule (Refers table columns referenced_table referenced) =
    map (record_of rule role.Referenced referenced_table referenced) (tables referenced_table)
    ++ flat_map (refers_records rule table columns) (tables table)
rule_records tables rule (Recorded table columns) = []

-- the records of keys with numbers from this one on
abbrev pub records_from : (ℕ → List Row) → ℕ → List KeyRule → List KeyRecord
records_from tables rule [] = []
records_from tables rule (key ∷ keys) = rule_records tables rule key ++ records_from tables (suc rule) keys

-- the records of all keys, which are numbered from 1
abbrev pub records_of : List KeyRule → (ℕ → List Row) → List KeyRecord
records_of keys tables = records_from tables 1 keys
