-- The tables and columns that the keys of a group's schemas name: `reference_faults` (Metadata Vocabulary for Tabular Data,
-- sections 5.5.1 and 5.5.2).
use Rattle.std.specs.Prelude.{ℕ, ◌+◌, ◌&&◌, ◌||◌, not, List, [], ◌∷◌, ◌++◌, Bool, true, false, Option, Some, None, bytes_eq, codes, map}
use Rattle.std.specs.Prelude.{flat_map, if◌then◌else◌}
use Rattle.std.specs.List.{list_any}
use Rattle.csvw_iri.specs.Link.{iri_of}
use Rattle.csvw_description.specs.declared.schema.Schema.{Schema}
use Rattle.csvw_description.specs.Keys.{declared_names, own_or}
use Rattle.csvw_meta_core.specs.declared.fault.MetaFault.{MetaFault}
use Rattle.csvw_meta_core.specs.Pointer.{below, item_at}
use Rattle.csvw_meta_core.specs.Rules.{could_read, hides_property, is_at}
use Rattle.csvw_meta_keys.specs.declared.keys.KeysFound.{KeysFound}
use Rattle.csvw_meta_keys.specs.declared.naming.Target.{Target}
use Rattle.csvw_meta_keys.specs.declared.reference.NamedBy.{NamedBy}
use Rattle.csvw_meta_keys.specs.declared.reference.NamedBy.TheVariants as by
use Rattle.csvw_meta_keys.specs.Naming.{all_known, is_id, Known, key_faults}
use Rattle.csvw_meta.specs.declared.body.Body.{Body}
use Rattle.csvw_meta.specs.declared.group.GroupFound.{GroupFound}
use Rattle.csvw_meta.specs.declared.table.TableFound.{TableFound}
use Rattle.csvw_meta.specs.NamesRead.{hides_declared}

-- the `@id` of a schema, if it has one: of a table's own schema or, without one, of that of its group
abbrev pub id_or : Option KeysFound → Option KeysFound → Option (List ℕ)
id_or (Some keys) group = keys.id
id_or None (Some keys) = keys.id
id_or None None = None

-- a table to which keys may refer, in a group of this schema
abbrev pub target : Body → TableFound → Target
target group found = record {
  url = iri_of found.table.url;
  schema = id_or found.keys group.keys;
  names = declared_names (own_or found.table.schema group.schema);
}

abbrev pub targets : GroupFound → List Target
targets group = map (target group.body) group.tables

-- ---- what could be read

-- the place of the table of an index, in the group at this pointer, or as the document itself
abbrev pub table_at : Bool → List ℕ → ℕ → List ℕ
table_at true at i = item_at (below at (codes "tables")) i
table_at false at i = at

-- the place of an object's schema
abbrev pub schema_at : List ℕ → List ℕ
schema_at at = below at (codes "tableSchema")

-- a fault that hides some name which the schema of the object at this pointer declares
abbrev pub hides_names : List ℕ → Option Schema → MetaFault → Bool
hides_names at None f = false
hides_names at (Some schema) f = hides_declared (schema_at at) schema.columns f

-- the same for a table's own schema or, without one, that of the group at another pointer
abbrev pub hides_own_or : List ℕ → Option Schema → List ℕ → Option Schema → MetaFault → Bool
hides_own_or at (Some schema) group_at group f = hides_names at (Some schema) f
hides_own_or at None group_at group f = hides_names group_at group f

-- a fault that hides the URL of one of these tables, the first of which has the index i
abbrev pub hides_url : (ℕ → List ℕ) → ℕ → List TableFound → MetaFault → Bool
hides_url place i [] f = false
hides_url place i (t ∷ ts) f = hides_property (place i) (codes "url") f || hides_url place (i + 1) ts f

-- A fault that hides the names of the first table of the URL. It hides the URL of an earlier table, the URL of the table itself, or one of
-- those names.
abbrev pub hides_target : (ℕ → List ℕ) → List ℕ → Option Schema → List ℕ → ℕ → List TableFound → MetaFault → Bool
hides_target place at group url i [] f = false
hides_target place at group url i (t ∷ ts) f =
    hides_property (place i) (codes "url") f
    || (if bytes_eq (iri_of t.table.url) url then hides_own_or (place i) t.table.schema at group f
    else hides_target place at group url (i + 1) ts f)

-- the place of a table's own schema or, without one, of that of the group at the second pointer
abbrev pub own_schema_at : List ℕ → List ℕ → Option Schema → List ℕ
own_schema_at at group_at (Some schema) = schema_at at
own_schema_at at group_at None = schema_at group_at

-- a fault that hides the `@id` of the schema of the table at the first pointer, in the group at the second one
abbrev pub hides_own_id : List ℕ → List ℕ → TableFound → MetaFault → Bool
hides_own_id at group_at t f = is_at at f || hides_property (own_schema_at at group_at t.table.schema) (codes "@id") f

-- the same of one of these tables, the first of which has the index i
abbrev pub hides_id : (ℕ → List ℕ) → List ℕ → ℕ → List TableFound → MetaFault → Bool
hides_id place at i [] f = false
hides_id place at i (t ∷ ts) f = hides_own_id (place i) at t f || hides_id place at (i + 1) ts f

-- A fault that hides the names of the table whose schema has the `@id`. It hides the `@id` of some schema, or one of those names.
abbrev pub hides_sole : (ℕ → List ℕ) → List ℕ → Body → List ℕ → ℕ → List TableFound → MetaFault → Bool
hides_sole place at group id i [] f = false
hides_sole place at group id i (t ∷ ts) f =
    hides_own_id (place i) at t f
    || ((is_id id (id_or t.keys group.keys) && hides_own_or (place i) t.table.schema at group.schema f) || hides_sole place at group id (i + 1) ts f)

-- a fault that hides what references name some table of the group at the pointer by
abbrev pub hides_by : NamedBy → (ℕ → List ℕ) → List ℕ → List TableFound → MetaFault → Bool
hides_by by.Url place at ts f = hides_url place 0 ts f
hides_by by.Schema place at ts f = hides_id place at 0 ts f

-- a fault that hides the names of the table that is named by its URL, or by the `@id` of its schema
abbrev pub hides_named : NamedBy → (ℕ → List ℕ) → List ℕ → GroupFound → List ℕ → MetaFault → Bool
hides_named by.Url place at group url f = hides_target place at group.body.schema url 0 group.tables f
hides_named by.Schema place at group id f = hides_sole place at group.body id 0 group.tables f

-- a fault that hides a side of the foreign key at this pointer
abbrev pub hides_side : List ℕ → MetaFault → Bool
hides_side at f = hides_property at (codes "columnReference") f || hides_property (below at (codes "reference")) (codes "columnReference") f

-- What could be read of the names in the keys of the schema of the object at the first pointer, in the group at the second one. The faults
-- of the group show it.
abbrev pub known : (ℕ → List ℕ) → List ℕ → List MetaFault → GroupFound → List ℕ → Option Schema → Known
known place at faults group own schema = record {
  own = not (list_any (hides_names own schema) faults);
  tables = λ by. not (list_any (λ f. is_at (below at (codes "tables")) f || hides_by by place at group.tables f) faults);
  names = λ table. not (list_any (hides_named table.by place at group table.url) faults);
  at = could_read faults;
  sides = λ at. not (list_any (hides_side at) faults);
}

-- ---- what is wrong

-- what is wrong with the keys of a schema, in a group of these tables
abbrev pub schema_faults : Known → List Target → Option Schema → Option KeysFound → List MetaFault
schema_faults known targets schema None = []
schema_faults known targets schema (Some keys) = key_faults known (declared_names schema) targets keys

-- what is wrong with the keys of each table's own schema, if the first of the tables has the index i
abbrev pub table_faults : (ℕ → Option Schema → Known) → List Target → ℕ → List TableFound → List MetaFault
table_faults known targets i [] = []
table_faults known targets i (t ∷ ts) =
    schema_faults (known i t.table.schema) targets t.table.schema t.keys ++ table_faults known targets (i + 1) ts

-- The keys of the group's schema are checked once, whether tables use it or not. The group is at the pointer, and its tables are where
-- `place` says. The faults are those of its parts.
abbrev pub reference_faults : (ℕ → List ℕ) → List ℕ → List MetaFault → GroupFound → List MetaFault
reference_faults place at faults group =
    schema_faults (known place at faults group at group.body.schema) (targets group) group.body.schema group.body.keys
    ++ table_faults (λ i schema. known place at faults group (place i) schema) (targets group) 0 group.tables

-- the same for tables and a group that could be read completely
abbrev pub known_table_faults : List Target → List TableFound → List MetaFault
known_table_faults targets tables = flat_map (λ t. schema_faults all_known targets t.table.schema t.keys) tables

abbrev pub known_faults : List Target → GroupFound → List MetaFault
known_faults targets group = schema_faults all_known targets group.body.schema group.body.keys ++ known_table_faults targets group.tables
