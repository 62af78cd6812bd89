-- What is listed of the rows of tables for keys.
use Rattle.std.specs.Prelude.{ℕ, suc, List, [], ◌∷◌, ◌++◌, Bool, true, not, flat_map, if◌then◌else◌}
use Rattle.csvw_annotate.specs.declared.row.Row.{Row}
use Rattle.csvw_key_records.specs.declared.record.KeyRecord.{KeyRecord}
use Rattle.csvw_key_records.specs.declared.record.Role.{Role}
use Rattle.csvw_key_records.specs.declared.record.Role.TheVariants as role
use Rattle.csvw_key_records.specs.Records.{line_of}
use Rattle.csvw_keys.specs.declared.key.KeyCell.{KeyCell}
use Rattle.csvw_keys.specs.declared.recording.KeyedRow.{KeyedRow}
use Rattle.csvw_keys.specs.Key.{is_null_key}
use Rattle.csvw_keys.specs.KeyRules.{KeyRule, Unique, Refers, Recorded}
use Rattle.csvw_keys.specs.Places.{first_of}
use Rattle.csvw_keys.specs.RecordingBooks.{keyed_rows}
use Rattle.csvw_row_keys.specs.declared.listing.Listing.{Listing}
use Rattle.csvw_row_keys.specs.Spelling.{spelling}

-- what is listed for the key of a number
abbrev pub listings_for : ℕ → KeyRule → List Listing
listings_for rule (Unique table columns) = record { rule = rule; role = role.Unique; table = table; columns = columns } ∷ []
listings_for rule (Refers table columns referenced_table referenced) =
    record { rule = rule; role = role.Referenced; table = referenced_table; columns = referenced }
    ∷ record { rule = rule; role = role.Refers; table = table; columns = columns } ∷ []
listings_for rule (Recorded table columns) = []

-- what is listed for keys with numbers from this one on
abbrev pub listings_from : ℕ → List KeyRule → List Listing
listings_from rule [] = []
listings_from rule (key ∷ keys) = listings_for rule key ++ listings_from (suc rule) keys

-- a row with this key is listed; one that refers to others is, unless its key cells are all null
abbrev pub is_listed : Role → List KeyCell → Bool
is_listed role.Unique key = true
is_listed role.Referenced key = true
is_listed role.Refers key = not (is_null_key key)

-- the record of a row in a list
abbrev pub listed_record : Listing → KeyedRow → KeyRecord
listed_record listing row = record {
  rule = listing.rule;
  key = spelling row.key;
  role = listing.role;
  place = record { table = listing.table; row = row.source; column = first_of listing.columns };
}

abbrev pub listed_records : Listing → KeyedRow → List KeyRecord
listed_records listing row = if is_listed listing.role row.key then listed_record listing row ∷ [] else []

-- the lines of a row in a list
abbrev pub row_lines : Listing → KeyedRow → List ℕ
row_lines listing row = flat_map line_of (listed_records listing row)

-- the records of a list
abbrev pub listing_records : (ℕ → List Row) → Listing → List KeyRecord
listing_records tables listing = flat_map (listed_records listing) (keyed_rows listing.columns (tables listing.table))

-- the lines of a list
abbrev pub listing_lines : (ℕ → List Row) → Listing → List ℕ
listing_lines tables listing = flat_map (row_lines listing) (keyed_rows listing.columns (tables listing.table))
