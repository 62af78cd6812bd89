-- The descriptions that documents without faults have, by which tables can be planned: `IsPlannable` (Metadata Vocabulary for
-- Tabular Data, sections 5.3 to 5.9). Limits, dialects, datatypes, names and keys are kept.
use Rattle.std.specs.Prelude.{◌≢◌, ◌≤◌, ℕ, length, map, All, AllPairs, IfSome}
use Rattle.csvw_records.specs.declared.dialect.Dialect.{Dialect}
use Rattle.csvw_records.specs.Lawful.{IsLawful}
use Rattle.csvw_datatype.specs.Sound.{IsSound}
use Rattle.csvw_iri.specs.Link.{iri_of}
use Rattle.csvw_description.specs.declared.description.Description.{Description}
use Rattle.csvw_description.specs.declared.inherited.Inherited.{Inherited}
use Rattle.csvw_description.specs.declared.schema.Schema.{Schema}
use Rattle.csvw_description.specs.declared.table.TableDescription.{TableDescription}
use Rattle.csvw_description.specs.Keys.{KeysResolve}
use Rattle.csvw_description.specs.Name.{numbered_names}
use Rattle.csvw_description.specs.declared.limits.TheConstants.{COLUMN_LIMIT, TABLE_LIMIT}

-- at most so many tables
abbrev pub table_limit : ℕ
table_limit = TABLE_LIMIT

-- at most so many columns of a table are declared, and at most so many are skipped
abbrev pub column_limit : ℕ
column_limit = COLUMN_LIMIT

-- texts can be read by the dialect, and it skips no more columns than the limit
pub record IsFitDialect (dialect : Dialect) : Type 0 where
  pub lawful : IsLawful dialect
  pub skipped : dialect.skip_columns ≤ column_limit

-- the datatype, if there is one, is sound
abbrev pub HasSound : Inherited → Type 0
HasSound inherited = IfSome inherited.datatype IsSound

-- no more columns than the limit, each with a name of its own, and sound datatypes
pub record IsFitSchema (schema : Schema) : Type 0 where
  pub limit : length schema.columns ≤ column_limit
  pub inherited : HasSound schema.inherited
  pub datatypes : All (λ c. HasSound c.inherited) schema.columns
  pub names : AllPairs (λ x y. x ≢ y) (numbered_names 0 schema.columns)

pub record IsFitTable (table : TableDescription) : Type 0 where
  pub dialect : IfSome table.dialect IsFitDialect
  pub inherited : HasSound table.inherited
  pub schema : IfSome table.schema IsFitSchema

-- The parts of the group and of each of its tables are fit. There are no more tables than the limit. Each has a URL of its own. The columns and tables that
-- the keys of each schema name are there.
pub record IsPlannable (description : Description) : Type 0 where
  pub dialect : IfSome description.dialect IsFitDialect
  pub inherited : HasSound description.inherited
  pub schema : IfSome description.schema IsFitSchema
  pub limit : length description.tables ≤ table_limit
  pub tables : All IsFitTable description.tables
  pub urls : AllPairs (λ x y. x ≢ y) (map (λ t. iri_of t.url) description.tables)
  pub keys : IfSome description.schema (KeysResolve description)
  pub table_keys : All (λ t. IfSome t.schema (KeysResolve description)) description.tables
