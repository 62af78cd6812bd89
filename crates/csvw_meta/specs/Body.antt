-- The properties that groups and tables have in common (Metadata Vocabulary for Tabular Data, sections 5.3 and 5.4).
use Rattle.std.specs.Prelude.{ℕ, List, ◌++◌, Option, Some, None, codes}
use Rattle.serde_json.specs.Data.{Data}
use Rattle.csvw_fault.specs.declared.fault.Fault.{Fault}
use Rattle.csvw_meta_core.specs.Read.{Read, fine, ◌>>=◌, under, optional}
use Rattle.csvw_meta.specs.declared.body.Body.{Body}
use Rattle.csvw_meta.specs.declared.body.DialectGiven.{DialectGiven}
use Rattle.csvw_meta_core.specs.declared.context.Context.{Context}
use Rattle.csvw_meta_dialect.specs.declared.dialect.DialectFound.{DialectFound}
use Rattle.csvw_meta_inherited.specs.declared.inherited.InheritedFound.{InheritedFound}
use Rattle.csvw_meta.specs.declared.schema.SchemaFound.{SchemaFound}
use Rattle.csvw_meta_dialect.specs.Dialect.{dialect}
use Rattle.csvw_meta_inherited.specs.Inherited.{inherited}
use Rattle.csvw_meta.specs.Schema.{schema}

-- the warnings on a dialect, then those on its object
abbrev pub split : List Fault → Option DialectFound → DialectGiven
split warnings None = record { dialect = None; warnings = warnings }
split warnings (Some found) = record { dialect = Some found.dialect; warnings = found.warnings ++ warnings }

unfoldable pub given_dialect : Context → ℕ → List Fault → List ℕ → Data → Read DialectGiven
given_dialect context table warnings at d = under (split warnings) (optional (dialect context table) at d (codes "dialect"))

-- the schema and its keys, if there is one, with the inherited properties
abbrev pub body_of : Option SchemaFound → InheritedFound → Body
body_of None found = record { schema = None; keys = None; inherited = found.inherited; warnings = found.warnings }
body_of (Some schema) found =
    record { schema = Some schema.schema; keys = Some schema.keys; inherited = found.inherited; warnings = found.warnings }

unfoldable pub body : Context → ℕ → List ℕ → Data → Read Body
body context table at d = do
  found ← inherited context table 0 at d
  schema ← optional (schema context table) at d (codes "tableSchema")
  fine (body_of schema found)
