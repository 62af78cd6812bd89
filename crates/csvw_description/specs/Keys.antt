-- The columns and tables that the keys of a schema name: `KeysResolve` (Metadata Vocabulary for Tabular Data, sections 5.5.1 and
-- 5.5.2).
use Rattle.std.specs.Prelude.{◌≡◌, ℕ, List, [], length, All, Contains, Option, Some, None}
use Rattle.csvw_iri.specs.Link.{iri_of}
use Rattle.csvw_description.specs.declared.description.Description.{Description}
use Rattle.csvw_description.specs.declared.foreign_key.ForeignKey.{ForeignKey}
use Rattle.csvw_description.specs.declared.schema.Schema.{Schema}
use Rattle.csvw_description.specs.declared.table.TableDescription.{TableDescription}
use Rattle.csvw_description.specs.Name.{numbered_names}

-- the names of the columns that a schema declares
abbrev pub declared_names : Option Schema → List (List ℕ)
declared_names None = []
declared_names (Some schema) = numbered_names 0 schema.columns

-- a table's own schema, else that of its group
abbrev pub own_or : Option Schema → Option Schema → Option Schema
own_or None group = group
own_or (Some schema) group = Some schema

-- each of the names of a key is one of these
abbrev pub AreAmong : List (List ℕ) → List (List ℕ) → Type 0
AreAmong names key = All (λ name. Contains names name) key

-- The foreign key refers to the table by its URL. The table declares the referenced columns. There are as many of them as referring columns.
pub record IsReferenced (group : Description) (key : ForeignKey) (table : TableDescription) : Type 0 where
  pub is_there : Contains group.tables table
  pub url : iri_of table.url ≡ key.resource
  pub columns : AreAmong (declared_names (own_or table.schema group.schema)) key.referenced
  pub sides : length key.columns ≡ length key.referenced

-- A foreign key from columns of these names: the columns are there, and so are the table and the columns that it refers to.
pub record IsForeignKey (group : Description) (own : List (List ℕ)) (key : ForeignKey) : Type 0 where
  pub columns : AreAmong own key.columns
  pub referenced : (table : TableDescription) × IsReferenced group key table

-- The keys of a schema of the group name columns of the schema. Its foreign keys name tables of the group and their columns.
pub record KeysResolve (group : Description) (schema : Schema) : Type 0 where
  pub primary_key : AreAmong (numbered_names 0 schema.columns) schema.primary_key
  pub foreign_keys : All (IsForeignKey group (numbered_names 0 schema.columns)) schema.foreign_keys
