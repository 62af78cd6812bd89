-- The code of a fault of a description, and what the description then breaks: `IsFreeOf` (Metadata Vocabulary for Tabular Data,
-- sections 5.3 to 5.9).
use Rattle.std.specs.Prelude.{◌≢◌, ◌≤◌, length, All, AllPairs, IfSome}
use Rattle.csvw_records.specs.declared.dialect.Dialect.{Dialect}
use Rattle.csvw_records.specs.Lawful.{IsLawful}
use Rattle.csvw_description.specs.Name.{numbered_names}
use Rattle.csvw_description.specs.Plannable.{table_limit, column_limit, HasSound}
use Rattle.csvw_description.specs.declared.description.Description.{Description}
use Rattle.csvw_description.specs.declared.inherited.Inherited.{Inherited}
use Rattle.csvw_description.specs.declared.schema.Schema.{Schema}
use Rattle.csvw_description.specs.declared.table.TableDescription.{TableDescription}
use Rattle.csvw_meta_core.specs.declared.fault.MetaCode.{MetaCode}
use Rattle.csvw_meta_core.specs.declared.fault.MetaCode.TheVariants.{BadDialect, BadDatatype, DuplicateName, BadReference, TooMany}
use Rattle.csvw_columns.specs.Keys.{AreResolved}
use Rattle.csvw_columns.specs.PlanOf.{plan_of}

-- a dialect skips no more columns than the limit, and can be used to read texts
abbrev pub DialectIsFreeOf : MetaCode → Dialect → Type 0
DialectIsFreeOf TooMany dialect = dialect.skip_columns ≤ column_limit
DialectIsFreeOf BadDialect dialect = IsLawful dialect
DialectIsFreeOf other dialect = Unit {0}

-- the parts of a datatype fit together
abbrev pub InheritedIsFreeOf : MetaCode → Inherited → Type 0
InheritedIsFreeOf BadDatatype inherited = HasSound inherited
InheritedIsFreeOf other inherited = Unit {0}

-- a schema has no more columns than the limit, the parts of its datatypes fit together, and its columns have names of their own
abbrev pub SchemaIsFreeOf : MetaCode → Schema → Type 0
SchemaIsFreeOf TooMany schema = length schema.columns ≤ column_limit
SchemaIsFreeOf BadDatatype schema = HasSound schema.inherited × All (λ c. HasSound c.inherited) schema.columns
SchemaIsFreeOf DuplicateName schema = AllPairs (λ x y. x ≢ y) (numbered_names 0 schema.columns)
SchemaIsFreeOf other schema = Unit {0}

-- the table has none of these defects
pub record TableIsFreeOf (code : MetaCode) (table : TableDescription) : Type 0 where
  pub dialect : IfSome table.dialect (DialectIsFreeOf code)
  pub inherited : InheritedIsFreeOf code table.inherited
  pub schema : IfSome table.schema (SchemaIsFreeOf code)

-- a group has no more tables than the limit
abbrev pub CountIsFreeOf : MetaCode → Description → Type 0
CountIsFreeOf TooMany d = length d.tables ≤ table_limit
CountIsFreeOf other d = Unit {0}

-- the group and each of its tables have none of these defects
pub record GroupIsFreeOf (code : MetaCode) (d : Description) : Type 0 where
  pub count : CountIsFreeOf code d
  pub dialect : IfSome d.dialect (DialectIsFreeOf code)
  pub inherited : InheritedIsFreeOf code d.inherited
  pub schema : IfSome d.schema (SchemaIsFreeOf code)
  pub tables : All (TableIsFreeOf code) d.tables

-- what the keys name exists
abbrev pub KeysAreFreeOf : MetaCode → Description → Type 0
KeysAreFreeOf BadReference d = All AreResolved (plan_of d).tables
KeysAreFreeOf other d = Unit {0}

pub record IsFreeOf (code : MetaCode) (d : Description) : Type 0 where
  pub group : GroupIsFreeOf code d
  pub keys : KeysAreFreeOf code d
