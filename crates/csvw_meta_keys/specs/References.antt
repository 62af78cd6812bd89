-- The `reference` of a foreign key of a document, and its faults: `reference` (Metadata Vocabulary for Tabular Data, section
-- 5.5.2.1).
use Rattle.std.specs.Prelude.{ℕ, List, [], ◌∷◌, ◌++◌, Bool, true, false, Option, Some, None, is_some, codes}
use Rattle.serde_json.specs.Data.{Data}
use Rattle.serde_json.specs.Find.{as_str, get}
use Rattle.url.specs.Parts.{Parts}
use Rattle.csvw_iri.specs.Link.{iri_of, resolved}
use Rattle.csvw_fault.specs.declared.fault.Place.{Place}
use Rattle.csvw_meta_core.specs.Read.{Read, fine, faulty, ◌>>=◌, under, needed, property, on_kind, on_object}
use Rattle.csvw_meta_core.specs.Links.{told, url}
use Rattle.csvw_meta_core.specs.declared.fault.MetaCode.TheVariants.{BadProperty, NotSupported}
use Rattle.csvw_meta_core.specs.declared.profile.Profile.{Profile}
use Rattle.csvw_meta_core.specs.declared.profile.Profile.TheVariants.{Core, W3c}
use Rattle.csvw_meta_core.specs.declared.others.CommonProperty.TheVariants.{Refused}
use Rattle.csvw_meta_core.specs.Others.{others}
use Rattle.csvw_meta_keys.specs.declared.reference.ReferenceFound.{ReferenceFound}
use Rattle.csvw_meta_keys.specs.declared.reference.NamedBy.TheVariants.{Url, Schema}
use Rattle.csvw_meta_keys.specs.declared.reference.NamedTable.{NamedTable}
use Rattle.csvw_meta_keys.specs.ColumnNames.{column_names}

abbrev pub reference_names : List (List ℕ)
reference_names = codes "resource" ∷ codes "schemaReference" ∷ codes "columnReference" ∷ []

-- the table of this URL, which is at the pointer
abbrev pub table_of_url : List ℕ → Parts → NamedTable
table_of_url at table = record { by = Url; url = iri_of table; at = at }

-- the table whose schema has this `@id`, which is at the pointer
abbrev pub table_of_schema : List ℕ → List ℕ → NamedTable
table_of_schema at id = record { by = Schema; url = id; at = at }

-- `resource`: the URL of a table
abbrev pub resource : Parts → List ℕ → Data → Read NamedTable
resource base at d = under (table_of_url at) (url base at d)

-- The value in place of one that can't be read. Its place is that of the fault.
abbrev pub no_resource : List ℕ → NamedTable
no_resource at = record { by = Url; url = []; at = at }

-- The `@id` of a schema. Its fragment belongs to it.
abbrev pub schema_id : Parts → List ℕ → Data → Read (List ℕ)
schema_id base at d = on_kind at d [] (as_str d) (λ s. told at [] (resolved base s))

-- `schemaReference`: the `@id` of the schema of a table. The flag says whether the reference has a `resource`, and then it must not have a
-- `schemaReference`. The profile Core does not support the property.
abbrev pub schema_reference : Profile → Parts → Bool → List ℕ → Data → Read (Option NamedTable)
schema_reference Core base beside at d = faulty NotSupported at None
schema_reference W3c base true at d = faulty BadProperty at None
schema_reference W3c base false at d = under (λ id. Some (table_of_schema at id)) (schema_id base at d)

abbrev pub has_resource : Data → Bool
has_resource d = is_some (get (codes "resource") d)

-- the table that a reference names by its `schemaReference`, if that counts
abbrev pub schema_named : Profile → Parts → List ℕ → Data → Read (Option NamedTable)
schema_named profile base at d = property (schema_reference profile base (has_resource d)) None at d (codes "schemaReference")

-- The table that a reference names: by its schema if it does, else by its `resource`.
abbrev pub table_named : Parts → Option NamedTable → List ℕ → Data → Read NamedTable
table_named base (Some table) at d = fine table
table_named base None at d = needed (resource base) (no_resource at) at d (codes "resource")

unfoldable pub reference_of : Profile → Parts → Place → List ℕ → Data → Read ReferenceFound
reference_of profile base place at d = do
  schema ← schema_named profile base at d
  warnings ← others (reference_names ++ []) Refused place at d
  table ← table_named base schema at d
  columns ← needed column_names [] at d (codes "columnReference")
  fine (record { table = table; columns = columns; warnings = warnings })

abbrev pub no_reference : List ℕ → ReferenceFound
no_reference at = record { table = no_resource at; columns = []; warnings = [] }

abbrev pub reference : Profile → Parts → Place → List ℕ → Data → Read ReferenceFound
reference profile base place at d = on_object at d (no_reference at) (reference_of profile base place at d)
