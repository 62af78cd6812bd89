-- What is fit has none of the defects that a fault reports.
use Rattle.std.specs.Prelude.{Option, Some, None, IfSome}
use Rattle.std.proofs.lemmas.List.Elements.{All-weaker}
use Rattle.csvw_records.specs.declared.dialect.Dialect.{Dialect}
use Rattle.csvw_description.specs.Plannable.{IsFitDialect, HasSound, IsFitSchema, IsFitTable}
use Rattle.csvw_description.specs.declared.description.Description.{Description}
use Rattle.csvw_description.specs.declared.inherited.Inherited.{Inherited}
use Rattle.csvw_description.specs.declared.schema.Schema.{Schema}
use Rattle.csvw_description.specs.declared.table.TableDescription.{TableDescription}
use Rattle.csvw_meta_core.specs.declared.fault.MetaCode.{MetaCode}
use Rattle.csvw_meta_core.specs.declared.fault.MetaCode.TheVariants.{BadDialect, BadDatatype, DuplicateName, BadReference, TooMany}
use Rattle.csvw_columns.specs.Fit.{IsFitGroup}
use Rattle.csvw_columns.specs.FreeOf.{DialectIsFreeOf, InheritedIsFreeOf, SchemaIsFreeOf, TableIsFreeOf, CountIsFreeOf, KeysAreFreeOf, IsFreeOf}
use Rattle.csvw_columns.specs.Plannable.{CanBePlanned}

if_some : {A : Type 0} {P Q : A → Type 0} → ((x : A) → P x → Q x) → (o : Option A) → IfSome o P → IfSome o Q
if_some f (Some x) h = f x h
if_some f None h = tt

free_dialect : (code : MetaCode) (dialect : Dialect) → IsFitDialect dialect → DialectIsFreeOf code dialect
free_dialect TooMany dialect h = h.skipped
free_dialect BadDialect dialect h = h.lawful
free_dialect other dialect h = tt

free_inherited : (code : MetaCode) (inherited : Inherited) → HasSound inherited → InheritedIsFreeOf code inherited
free_inherited BadDatatype inherited h = h
free_inherited other inherited h = tt

free_schema : (code : MetaCode) (schema : Schema) → IsFitSchema schema → SchemaIsFreeOf code schema
free_schema TooMany schema h = h.limit
free_schema BadDatatype schema h = (h.inherited, h.datatypes)
free_schema DuplicateName schema h = h.names
free_schema other schema h = tt

free_table : (code : MetaCode) (table : TableDescription) → IsFitTable table → TableIsFreeOf code table
free_table code table h = record {
  dialect = if_some (free_dialect code) table.dialect h.dialect;
  inherited = free_inherited code table.inherited h.inherited;
  schema = if_some (free_schema code) table.schema h.schema;
}

free_count : (code : MetaCode) (d : Description) → IsFitGroup d → CountIsFreeOf code d
free_count TooMany d h = h.limit
free_count other d h = tt

free_keys : (code : MetaCode) (d : Description) → CanBePlanned d → KeysAreFreeOf code d
free_keys BadReference d h = h.keys
free_keys other d h = tt

pub free : (d : Description) (code : MetaCode) → CanBePlanned d → IsFreeOf code d
free d code h = record {
  group = record {
    count = free_count code d h.fit;
    dialect = if_some (free_dialect code) d.dialect h.fit.dialect;
    inherited = free_inherited code d.inherited h.fit.inherited;
    schema = if_some (free_schema code) d.schema h.fit.schema;
    tables = All-weaker IsFitTable (TableIsFreeOf code) (free_table code) d.tables h.fit.tables;
  };
  keys = free_keys code d h;
}
