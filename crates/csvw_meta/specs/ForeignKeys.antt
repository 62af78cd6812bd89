-- The foreign keys of schemas, once the tables of the group are known: `linked`, `linked_table` (Metadata Vocabulary for Tabular Data, section
-- 5.5.2.1).
use Rattle.std.specs.Prelude.{List, Option, Some, None, map}
use Rattle.csvw_description.specs.declared.schema.Schema.{Schema}
use Rattle.csvw_description.specs.declared.table.TableDescription.{TableDescription}
use Rattle.csvw_meta_keys.specs.declared.keys.KeysFound.{KeysFound}
use Rattle.csvw_meta_keys.specs.declared.naming.Target.{Target}
use Rattle.csvw_meta_keys.specs.Described.{described}
use Rattle.csvw_meta.specs.declared.table.TableFound.{TableFound}

-- the schema with its foreign keys, each of which has the URL of the table that it names among these
abbrev pub with_foreign_keys : List Target → KeysFound → Schema → Schema
with_foreign_keys targets keys schema = record schema { foreign_keys = map (described targets) keys.foreign }

-- the same if there is a schema, with these keys
abbrev pub linked : List Target → Option Schema → Option KeysFound → Option Schema
linked targets None keys = None
linked targets (Some schema) None = Some schema
linked targets (Some schema) (Some keys) = Some (with_foreign_keys targets keys schema)

-- the table with the foreign keys of its own schema
abbrev pub linked_table : List Target → TableFound → TableDescription
linked_table targets found = record found.table { schema = linked targets found.table.schema found.keys }
