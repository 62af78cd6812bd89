-- What the checks over several values need of a document: `bare_column`, `bare_schema` and others. They are the values without what
-- these checks don't look at.
use Rattle.std.specs.Prelude.{[], map, false, None, option_map, unwrap_or}
use Rattle.csvw_description.specs.declared.column.ColumnDescription.{ColumnDescription}
use Rattle.csvw_description.specs.declared.schema.Schema.{Schema}
use Rattle.csvw_description.specs.Inherited.{no_inherited}
use Rattle.csvw_meta_core.specs.Links.{no_url}
use Rattle.csvw_meta.specs.declared.schema.SchemaFound.{SchemaFound}
use Rattle.csvw_meta.specs.declared.table.TableFound.{TableFound}
use Rattle.csvw_meta_faults_parts.specs.BareKeys.{bare_keys}
use Rattle.csvw_meta_faults.specs.declared.seen.TableSeen.{TableSeen}

-- ---- columns: their names, their titles, and whether they are virtual

abbrev pub bare_column : ColumnDescription → ColumnDescription
bare_column c =
    record { name = c.name; titles = c.titles; is_virtual = c.is_virtual; suppressed = false; is_row_title = false; inherited = no_inherited; warnings = [] }

-- ---- schemas: their columns

abbrev pub bare_schema : Schema → Schema
bare_schema s =
    record { columns = map bare_column s.columns; primary_key = []; foreign_keys = []; inherited = no_inherited; warnings = [] }

abbrev pub bare_found : SchemaFound → SchemaFound
bare_found s = record { schema = bare_schema s.schema; keys = bare_keys s.keys }

-- ---- tables: their URLs, their schemas and the keys of these

abbrev pub bare_table : TableFound → TableFound
bare_table t = record {
  table = record {
    url = t.table.url;
    id = None;
    dialect = None;
    schema = option_map bare_schema t.table.schema;
    suppressed = false;
    inherited = no_inherited;
    notes = [];
    warnings = [];
  };
  keys = option_map bare_keys t.keys;
}

-- a table as it is seen; if its URL can't be read, another stands in
abbrev pub as_table : TableSeen → TableFound
as_table t = record {
  table = record {
    url = unwrap_or t.url no_url;
    id = None;
    dialect = None;
    schema = t.schema;
    suppressed = false;
    inherited = no_inherited;
    notes = [];
    warnings = [];
  };
  keys = t.keys;
}
