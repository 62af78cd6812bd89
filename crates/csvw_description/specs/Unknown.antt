-- The warnings of a document, one for each property that is ignored: `unknown` (Metadata Vocabulary for Tabular Data, section
-- 4.1).
use Rattle.std.specs.Prelude.{List, [], ◌++◌, flat_map, Option, Some, None}
use Rattle.csvw_fault.specs.declared.fault.Fault.{Fault}
use Rattle.csvw_description.specs.declared.schema.Schema.{Schema}
use Rattle.csvw_description.specs.declared.table.TableDescription.{TableDescription}
use Rattle.csvw_description.specs.declared.description.Description.{Description}

-- those of a schema and of its columns
abbrev pub in_schema : Option Schema → List Fault
in_schema None = []
in_schema (Some schema) = schema.warnings ++ flat_map (λ c. c.warnings) schema.columns

abbrev pub in_table : TableDescription → List Fault
in_table table = table.warnings ++ in_schema table.schema

-- those of the group, then those of each table
abbrev pub unknown : Description → List Fault
unknown d = (d.warnings ++ in_schema d.schema) ++ flat_map in_table d.tables
