-- The keys and row titles of a schema of a document, and their faults: `keys` (Metadata Vocabulary for Tabular Data, section 5.5).
use Rattle.std.specs.Prelude.{ℕ, List, [], Option, codes}
use Rattle.serde_json.specs.Data.{Data}
use Rattle.url.specs.Parts.{Parts}
use Rattle.csvw_fault.specs.declared.fault.Place.{Place}
use Rattle.csvw_meta_core.specs.declared.profile.Profile.{Profile}
use Rattle.csvw_meta_core.specs.Read.{Read, fine, ◌>>=◌, property}
use Rattle.csvw_meta_keys.specs.declared.keys.KeysFound.{KeysFound}
use Rattle.csvw_meta_keys.specs.ColumnNames.{column_names, row_titles}
use Rattle.csvw_meta_keys.specs.ForeignKeys.{foreign_keys}

-- the keys of a schema with this `@id`, if it has one
unfoldable pub keys : Profile → Parts → Place → Option (List ℕ) → List ℕ → Data → Read KeysFound
keys profile base place id at d = do
  primary ← property column_names [] at d (codes "primaryKey")
  titles ← property (row_titles profile) [] at d (codes "rowTitles")
  foreign ← property (foreign_keys profile base place) [] at d (codes "foreignKeys")
  fine (record { id = id; primary = primary; row_titles = titles; foreign = foreign })
