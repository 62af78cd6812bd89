-- The keys of a schema as a description has them: names and URLs without their pointers (Metadata Vocabulary for Tabular Data,
-- section 5.5).
use Rattle.std.specs.Prelude.{ℕ, List, map, flat_map, option_map, unwrap_or}
use Rattle.csvw_description.specs.declared.foreign_key.ForeignKey.{ForeignKey}
use Rattle.csvw_fault.specs.declared.fault.Fault.{Fault}
use Rattle.csvw_meta_keys.specs.declared.column_names.KeyName.{KeyName}
use Rattle.csvw_meta_keys.specs.declared.foreign_key.ForeignKeyFound.{ForeignKeyFound}
use Rattle.csvw_meta_keys.specs.declared.naming.Target.{Target}
use Rattle.csvw_meta_keys.specs.declared.reference.NamedTable.{NamedTable}
use Rattle.csvw_meta_keys.specs.Naming.{named}

abbrev pub names_of : List KeyName → List (List ℕ)
names_of key = map (λ k. k.name) key

-- The URL of the table that a reference names among these. If there is no such table, the reference's own URL takes its place.
abbrev pub table_url : List Target → NamedTable → List ℕ
table_url targets table = unwrap_or (option_map (λ t. t.url) (named targets table)) table.url

-- a foreign key among these tables
abbrev pub described : List Target → ForeignKeyFound → ForeignKey
described targets key = record { columns = names_of key.columns; resource = table_url targets key.table; referenced = names_of key.referenced }

abbrev pub all_warnings : List ForeignKeyFound → List Fault
all_warnings keys = flat_map (λ k. k.warnings) keys
