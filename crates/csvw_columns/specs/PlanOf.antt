-- The plan of a group of tables: `plan_of` (Metadata Vocabulary for Tabular Data, sections 5.3 to 5.7; Model for Tabular Data,
-- sections 4.1 and 4.2).
use Rattle.std.specs.Prelude.{◌≡◌, ℕ, ◌+◌, ◌&&◌, List, [], ◌∷◌, map, Option, true, unwrap_or}
use Rattle.std.proofs.Common.{refl, ap, ◌∙◌}
use Rattle.std.proofs.lemmas.Bool.{eq-eqb}
use Rattle.csvw_records.specs.declared.dialect.Dialect.{Dialect}
use Rattle.csvw_records.specs.Lawful.{default_dialect}
use Rattle.csvw_iri.specs.Link.{iri_of}
use Rattle.csvw_description.specs.Unknown.{unknown}
use Rattle.csvw_description.specs.declared.description.Description.{Description}
use Rattle.csvw_description.specs.declared.inherited.Inherited.{Inherited}
use Rattle.csvw_description.specs.declared.schema.Schema.{Schema}
use Rattle.csvw_description.specs.declared.table.TableDescription.{TableDescription}
use Rattle.csvw_description.specs.Inherited.{no_inherited}
use Rattle.csvw_columns_core.specs.Inherited.{first_of}
use Rattle.csvw_columns_core.specs.SchemaColumns.{declared_columns}
use Rattle.csvw_description.specs.Name.{numbered_names}
use Rattle.csvw_columns.specs.Keys.{numbers_of, foreign_key}
use Rattle.csvw_columns.specs.Numbered.{are_numbered}
use Rattle.csvw_columns.specs.declared.references.Keys.{Keys}
use Rattle.csvw_columns.specs.declared.references.Targets.{Targets}
use Rattle.csvw_columns.specs.declared.plan.Plan.{Plan}
use Rattle.csvw_columns.specs.declared.plan.TablePlan.{TablePlan}

-- the table's own dialect, else that of its group, else the default (Metadata Vocabulary for Tabular Data, section 5.9)
abbrev pub dialect_of : Option Dialect → Option Dialect → Dialect
dialect_of table group = unwrap_or (first_of table group) default_dialect

-- a schema that declares nothing
abbrev pub no_schema : Schema
no_schema = record { columns = []; primary_key = []; foreign_keys = []; inherited = no_inherited; warnings = [] }

-- the table's own schema, else that of its group, else none
abbrev pub schema_of : Option Schema → Option Schema → Schema
schema_of table group = unwrap_or (first_of table group) no_schema

-- what the foreign keys of a group refer to: the URLs of its tables, and the names of the columns that each table declares
abbrev pub targets_of : Description → Targets
targets_of d = record {
  urls = map (λ t. iri_of t.url) d.tables;
  names = map (λ t. numbered_names 0 (schema_of t.schema d.schema).columns) d.tables;
}

-- the keys of a table that declares the columns of this schema
abbrev pub keys_of : Targets → Schema → Keys
keys_of targets schema = record {
  primary = numbers_of (numbered_names 0 schema.columns) schema.primary_key;
  foreign = map (foreign_key targets.urls targets.names (numbered_names 0 schema.columns)) schema.foreign_keys;
}

-- the plan of table n, with its dialect and its schema
abbrev pub planned : Targets → Inherited → ℕ → TableDescription → Dialect → Schema → TablePlan
planned targets group n table dialect schema = record {
  number = n;
  url = table.url;
  id = table.id;
  suppressed = table.suppressed;
  dialect = dialect;
  declared = declared_columns (iri_of table.url) dialect.skip_columns schema.inherited table.inherited group schema.columns;
  schema = schema.inherited;
  table = table.inherited;
  group = group;
  primary_key = (keys_of targets schema).primary;
  foreign_keys = (keys_of targets schema).foreign;
  notes = table.notes;
}

abbrev pub table_plan : Targets → Description → ℕ → TableDescription → TablePlan
table_plan targets group n table = planned targets group.inherited n table (dialect_of table.dialect group.dialect) (schema_of table.schema group.schema)

-- the plans of the tables from number n on
abbrev pub table_plans : Targets → Description → ℕ → List TableDescription → List TablePlan
table_plans targets group n [] = []
table_plans targets group n (table ∷ tables) = table_plan targets group n table ∷ table_plans targets group (n + 1) tables

-- the plans have these numbers
pub plans_numbered : (targets : Targets) (group : Description) (n : ℕ) (tables : List TableDescription)
    → are_numbered n (table_plans targets group n tables) ≡ true
plans_numbered targets group n [] = refl
plans_numbered targets group n (table ∷ tables) =
    ap (λ b. b && are_numbered (n + 1) (table_plans targets group (n + 1) tables)) (eq-eqb n n refl) ∙ plans_numbered targets group (n + 1) tables

abbrev pub plan_of : Description → Plan
plan_of d = record {
  id = d.id;
  notes = d.notes;
  tables = table_plans (targets_of d) d 1 d.tables;
  warnings = unknown d;
  numbered = plans_numbered (targets_of d) d 1 d.tables;
}
