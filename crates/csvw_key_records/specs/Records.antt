-- The line of a record of a row and a key: `line_of`. A file of records is records of CSV (RFC 4180).
use Rattle.std.specs.Prelude.{◌≡◌, ℕ, ◌<◌, ◌^◌, ◌==◌, List, ◌∷◌, ◌++◌, codes, decimal, false}
use Rattle.std.specs.List.{list_any}
use Rattle.csvw_fault.specs.declared.fault.Place.{Place}
use Rattle.csvw_key_records.specs.declared.record.KeyRecord.{KeyRecord}
use Rattle.csvw_key_records.specs.declared.record.Role.{Role}
use Rattle.csvw_key_records.specs.declared.record.Role.TheVariants.{Unique, Referenced, Refers}

abbrev pub role_name : Role → List ℕ
role_name Unique = codes "unique"
role_name Referenced = codes "referenced"
role_name Refers = codes "refers"

-- the front of a line: the number of the key and the spelling of the key cells, each with a comma
abbrev pub front : ℕ → List ℕ → List ℕ
front rule key = decimal rule ++ codes "," ++ key ++ codes ","

abbrev pub front_of : KeyRecord → List ℕ
front_of r = front r.rule r.key

-- the rest of a line: the role, and the place of the row
abbrev pub tail : Role → Place → List ℕ
tail role place =
    role_name role ++ codes "," ++ decimal place.table ++ codes "," ++ decimal place.row ++ codes "," ++ decimal place.column ++ codes "\n"

abbrev pub tail_of : KeyRecord → List ℕ
tail_of r = tail r.role r.place

-- the line of a record
unfoldable pub line_of : KeyRecord → List ℕ
line_of r = front_of r ++ tail_of r

-- a key has no comma and no line feed
pub record IsKey (key : List ℕ) : Type 0 where
  pub comma : list_any (λ b. b == 44) key ≡ false
  pub line_feed : list_any (λ b. b == 10) key ≡ false

-- a number, the byte that ends it and what follows
abbrev pub cell : ℕ → ℕ → List ℕ → List ℕ
cell n end rest = decimal n ++ end ∷ rest

-- a role, the comma that ends it and what follows
abbrev pub role_field : Role → List ℕ → List ℕ
role_field role rest = role_name role ++ 44 ∷ rest

-- the rule and the key of a line
pub record IsFront (rule : ℕ) (key : List ℕ) : Type 0 where
  pub fits : rule < 2 ^ 32
  pub is_key : IsKey key

-- the numbers of a place fit their types
pub record FitsPlace (place : Place) : Type 0 where
  pub table : place.table < 2 ^ 32
  pub row : place.row < 2 ^ 64
  pub column : place.column < 2 ^ 32

-- the numbers of a record fit their types, and its key is on its line
pub record Fits (r : KeyRecord) : Type 0 where
  pub front : IsFront r.rule r.key
  pub place : FitsPlace r.place
