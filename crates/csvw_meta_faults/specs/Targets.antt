-- What the check of references between tables needs of each table: `seen_targets`, `known_in` (Metadata Vocabulary for Tabular
-- Data, sections 5.5.1 and 5.5.2).
use Rattle.std.specs.Prelude.{ℕ, ◌+◌, ◌&&◌, ◌||◌, not, List, [], ◌∷◌, ◌++◌, Bool, true, Option, Some, None, bytes_eq, codes, is_some, map, if◌then◌else◌}
use Rattle.std.specs.List.{list_any}
use Rattle.csvw_iri.specs.Link.{iri_of}
use Rattle.csvw_description.specs.Keys.{declared_names}
use Rattle.csvw_meta_core.specs.declared.fault.MetaFault.{MetaFault}
use Rattle.csvw_meta_core.specs.Rules.{could_read, hides_property}
use Rattle.csvw_meta_keys.specs.declared.keys.KeysFound.{KeysFound}
use Rattle.csvw_meta_keys.specs.declared.naming.Target.{Target}
use Rattle.csvw_meta_keys.specs.declared.reference.NamedBy.{NamedBy}
use Rattle.csvw_meta_keys.specs.declared.reference.NamedBy.TheVariants.{Url, Schema}
use Rattle.csvw_meta_keys.specs.Naming.{is_id, Known, key_faults}
use Rattle.csvw_meta.specs.References.{hides_names, hides_own_id, hides_side, id_or}
use Rattle.csvw_meta.specs.declared.table.TableFound.{TableFound}
use Rattle.csvw_meta_faults.specs.declared.references.Scene.{Scene}
use Rattle.csvw_meta_faults.specs.declared.seen.GroupSeen.{GroupSeen}
use Rattle.csvw_meta_faults.specs.declared.seen.TableSeen.{TableSeen}
use Rattle.csvw_meta_faults.specs.declared.targets.TargetSeen.{TargetSeen}

-- ---- tables

-- What is seen of the table at the first pointer, in a group at the second one whose schema has these keys. The document has these faults.
abbrev pub seen_target : List ℕ → List ℕ → Option KeysFound → List MetaFault → TableFound → TargetSeen
seen_target at group_at keys faults t = record {
  url = iri_of t.table.url;
  id = id_or t.keys keys;
  names = declared_names t.table.schema;
  has_schema = is_some t.table.schema;
  url_hidden = list_any (hides_property at (codes "url")) faults;
  id_hidden = list_any (hides_own_id at group_at t) faults;
  names_hidden = list_any (hides_names at t.table.schema) faults;
}

-- the same of each table, the first of which has the index i
abbrev pub seen_targets : (ℕ → List ℕ) → List ℕ → Option KeysFound → List MetaFault → ℕ → List TableFound → List TargetSeen
seen_targets place at keys faults i [] = []
seen_targets place at keys faults i (t ∷ ts) = seen_target (place i) at keys faults t ∷ seen_targets place at keys faults (i + 1) ts

-- a table to which keys may refer, in a group whose schema declares these names
abbrev pub as_target : List (List ℕ) → TargetSeen → Target
as_target group t = record { url = t.url; schema = t.id; names = if t.has_schema then t.names else group }

-- ---- what could be read

-- The names of the first of the tables with the URL could be read, and the URLs of the tables up to it. `group` says of the group's schema
-- whether a fault hides its names.
abbrev pub names_known : Bool → List TargetSeen → List ℕ → Bool
names_known group [] url = true
names_known group (t ∷ ts) url =
    not (t.url_hidden || (if bytes_eq t.url url then (if t.has_schema then t.names_hidden else group) else not (names_known group ts url)))

-- The `@id`s of the schemas of all tables could be read, and so could the names of each table whose schema has this one.
abbrev pub sole_known : Bool → List TargetSeen → List ℕ → Bool
sole_known group [] id = true
sole_known group (t ∷ ts) id =
    not (t.id_hidden || ((is_id id t.id && (if t.has_schema then t.names_hidden else group)) || not (sole_known group ts id)))

-- the same for the table that is named by its URL, or by the `@id` of its schema
abbrev pub named_known : NamedBy → Bool → List TargetSeen → List ℕ → Bool
named_known Url group ts url = names_known group ts url
named_known Schema group ts id = sole_known group ts id

-- which of two flags is that of what names a table
abbrev pub flag_of : NamedBy → Bool → Bool → Bool
flag_of Url urls ids = urls
flag_of Schema urls ids = ids

-- `own` says whether the names could be read of the schema that has the keys.
abbrev pub known_in : Scene → Bool → Known
known_in scene own = record {
  own = own;
  tables = λ by. flag_of by scene.urls_known scene.ids_known;
  names = λ table. named_known table.by scene.group_hidden scene.targets.now table.url;
  at = could_read scene.marks.now.faults.now;
  sides = λ at. not (list_any (hides_side at) scene.marks.now.faults.now);
}

-- ---- what is wrong

abbrev pub targets_in : Scene → List Target
targets_in scene = map (as_target scene.group_names.now) scene.targets.now

-- what is wrong with the keys of a schema with columns of these names, if it has keys
abbrev pub faults_of_keys : Known → List (List ℕ) → List Target → Option KeysFound → List MetaFault
faults_of_keys known own targets None = []
faults_of_keys known own targets (Some keys) = key_faults known own targets keys

-- the same of each table's own schema
abbrev pub faults_of_tables : (Bool → Known) → List Target → List TargetSeen → List TableSeen → List MetaFault
faults_of_tables known targets [] ts = []
faults_of_tables known targets (s ∷ ss) [] = []
faults_of_tables known targets (s ∷ ss) (t ∷ ts) =
    faults_of_keys (known (not s.names_hidden)) s.names targets t.keys ++ faults_of_tables known targets ss ts

-- the same of the group's schema, and then of each table's own one
unfoldable pub faults_of_group : Scene → GroupSeen → List MetaFault
faults_of_group scene group =
    faults_of_keys (known_in scene (not scene.group_hidden)) scene.group_names.now (targets_in scene) group.keys
    ++ faults_of_tables (known_in scene) (targets_in scene) scene.targets.now group.tables
