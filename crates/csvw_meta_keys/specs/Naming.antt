-- The check that what keys and row titles name exists: `key_faults` (Metadata Vocabulary for Tabular Data, sections 5.5, 5.5.1 and
-- 5.5.2).
use Rattle.std.specs.Prelude.{ℕ, nat_eq, List, [], ◌∷◌, ◌++◌, Bool, true, false, bytes_eq, length, flat_map, Option, Some, None, if◌then◌else◌}
use Rattle.std.specs.List.{list_any}
use Rattle.csvw_meta_core.specs.declared.fault.MetaCode.TheVariants.{BadReference}
use Rattle.csvw_meta_core.specs.declared.fault.MetaFault.{MetaFault}
use Rattle.csvw_meta_keys.specs.declared.column_names.KeyName.{KeyName}
use Rattle.csvw_meta_keys.specs.declared.foreign_key.ForeignKeyFound.{ForeignKeyFound}
use Rattle.csvw_meta_keys.specs.declared.keys.KeysFound.{KeysFound}
use Rattle.csvw_meta_keys.specs.declared.naming.Target.{Target}
use Rattle.csvw_meta_keys.specs.declared.reference.NamedBy.{NamedBy}
use Rattle.csvw_meta_keys.specs.declared.reference.NamedBy.TheVariants.{Url, Schema}
use Rattle.csvw_meta_keys.specs.declared.reference.NamedTable.{NamedTable}

-- Which of the names in a schema's keys, and of the things that they name, could be read.
pub record Known : Type 0 where
  -- the names of all columns of the schema
  pub own : Bool
  -- what references name a table by, of all tables of the group: their URLs, or the `@id`s of their schemas
  pub tables : NamedBy → Bool
  -- which table a reference names, and the names of all its columns
  pub names : NamedTable → Bool
  -- the value at a pointer
  pub at : List ℕ → Bool
  -- both sides of the foreign key at a pointer
  pub sides : List ℕ → Bool

-- all of them
abbrev pub all_known : Known
all_known = record { own = true; tables = λ by. true; names = λ table. true; at = λ at. true; sides = λ at. true }

-- faults that are reported only if what is checked could be read
abbrev pub told_if : Bool → List MetaFault → List MetaFault
told_if true faults = faults
told_if false faults = []

abbrev pub bad_reference : List ℕ → MetaFault
bad_reference at = record { code = BadReference; pointer = at }

abbrev pub has_name : List (List ℕ) → List ℕ → Bool
has_name names name = list_any (λ n. bytes_eq n name) names

-- If a name of a key isn't one of these, the fault is at the name.
abbrev pub name_fault : Known → List (List ℕ) → KeyName → List MetaFault
name_fault known names k = told_if (known.at k.at) (if has_name names k.name then [] else bad_reference k.at ∷ [])

abbrev pub name_faults : Known → List (List ℕ) → List KeyName → List MetaFault
name_faults known names key = flat_map (name_fault known names) key

-- the first of the tables that has the URL
abbrev pub target_of : List Target → List ℕ → Option Target
target_of [] url = None
target_of (t ∷ ts) url = if bytes_eq t.url url then Some t else target_of ts url

-- this is the `@id`
abbrev pub is_id : List ℕ → Option (List ℕ) → Bool
is_id id None = false
is_id id (Some own) = bytes_eq own id

-- the schema of the table has the `@id`
abbrev pub has_schema : List ℕ → Target → Bool
has_schema id t = is_id id t.schema

-- the table whose schema has the `@id`, if there is exactly one
abbrev pub sole_of : List Target → List ℕ → Option Target
sole_of [] id = None
sole_of (t ∷ ts) id = if has_schema id t then (if list_any (has_schema id) ts then None else Some t) else sole_of ts id

-- the table that a reference names among these, by its URL or by its schema
abbrev pub named_by : NamedBy → List Target → List ℕ → Option Target
named_by Url targets url = target_of targets url
named_by Schema targets url = sole_of targets url

abbrev pub named : List Target → NamedTable → Option Target
named targets table = named_by table.by targets table.url

-- If the sides are not equally long, the fault is at the key.
abbrev pub side_faults : Known → ForeignKeyFound → List MetaFault
side_faults known key =
    told_if (known.sides key.at) (if nat_eq (length key.columns) (length key.referenced) then [] else bad_reference key.at ∷ [])

-- The names that are not columns of the table that is found.
abbrev pub referred_faults : Known → ForeignKeyFound → Target → List MetaFault
referred_faults known key target = told_if (known.names key.table) (name_faults known target.names key.referenced)

-- What is wrong with a foreign key from columns of these names to the table that is found. If there is none, or more than one of the schema,
-- that is the only fault, and it is at the `resource` or the `schemaReference`.
abbrev pub faults_to : Known → List (List ℕ) → ForeignKeyFound → Option Target → List MetaFault
faults_to known own key None = told_if (known.tables key.table.by) (bad_reference key.table.at ∷ [])
faults_to known own key (Some target) =
    told_if known.own (name_faults known own key.columns) ++ (referred_faults known key target ++ side_faults known key)

-- A foreign key is checked if its `resource` or its `schemaReference` could be read.
abbrev pub foreign_faults : Known → List (List ℕ) → List Target → ForeignKeyFound → List MetaFault
foreign_faults known own targets key = told_if (known.at key.table.at) (faults_to known own key (named targets key.table))

-- The names of the primary key and then of the row titles that are not columns of these names.
abbrev pub own_faults : Known → List (List ℕ) → KeysFound → List MetaFault
own_faults known own keys = told_if known.own (name_faults known own keys.primary) ++ told_if known.own (name_faults known own keys.row_titles)

-- what is wrong with the keys and row titles of a schema with columns of these names, in a group of these tables
abbrev pub key_faults : Known → List (List ℕ) → List Target → KeysFound → List MetaFault
key_faults known own targets keys =
    own_faults known own keys ++ flat_map (foreign_faults known own targets) keys.foreign
