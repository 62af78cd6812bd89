-- The check of what keys name doesn't look at what is left out of what is seen of a group.
use mathlib.Core.Path.{fun_ext}
use Rattle.std.proofs.Common.{◌≡◌, ◌∙◌, ℕ, ◌+◌, ◌&&◌, ◌||◌, not, List, [], ◌∷◌, ◌++◌, Bool, Option, Some, None, bytes_eq, codes, flat_map, if◌then◌else◌}
use Rattle.std.proofs.Common.{map, option_map, refl, ap, ap₂}
use Rattle.std.specs.List.{list_any}
use Rattle.csvw_iri.specs.Link.{iri_of}
use Rattle.csvw_description.specs.Keys.{declared_names, own_or}
use Rattle.csvw_description.specs.declared.column.ColumnDescription.{ColumnDescription}
use Rattle.csvw_description.specs.declared.schema.Schema.{Schema}
use Rattle.csvw_meta_core.specs.declared.fault.MetaFault.{MetaFault}
use Rattle.csvw_meta_core.specs.Pointer.{below, item_at}
use Rattle.csvw_meta_core.specs.Rules.{could_read, hides_property, is_at}
use Rattle.csvw_meta_keys.specs.Naming.{Known, faults_to, foreign_faults, is_id, key_faults, named, own_faults, told_if}
use Rattle.csvw_meta_keys.specs.declared.reference.NamedBy.{NamedBy}
use Rattle.csvw_meta_keys.specs.declared.reference.NamedBy.TheVariants.{Url, Schema as BySchema}
use Rattle.csvw_meta_keys.specs.declared.reference.NamedTable.{NamedTable}
use Rattle.csvw_meta_keys.specs.declared.foreign_key.ForeignKeyFound.{ForeignKeyFound}
use Rattle.csvw_meta_keys.specs.declared.keys.KeysFound.{KeysFound}
use Rattle.csvw_meta_keys.specs.declared.naming.Target.{Target}
use Rattle.csvw_meta.specs.NamesRead.{hides_name, hides_one}
use Rattle.csvw_meta.specs.References.{hides_names, hides_own_or, hides_side, hides_target, hides_url, known, reference_faults, schema_at, schema_faults}
use Rattle.csvw_meta.specs.References.{hides_by, hides_id, hides_named, hides_own_id, hides_sole, id_or, own_schema_at, table_faults, target, targets}
use Rattle.csvw_meta.specs.declared.group.GroupFound.{GroupFound}
use Rattle.csvw_meta.specs.declared.table.TableFound.{TableFound}
use Rattle.csvw_meta_faults.specs.Seen.{bare_column, bare_schema, bare_table}
use Rattle.csvw_meta_faults.specs.SeenGroup.{bare_group}
use Rattle.csvw_meta_faults.proofs.ColumnsLemmas.{bare_names}
use Rattle.csvw_meta_faults_parts.specs.BareKeys.{bare_key, bare_keys}

-- ---- what could be read

bare_one : (at : List ℕ) (i : ℕ) (cs : List ColumnDescription) (f : MetaFault) → hides_one at i (map bare_column cs) f ≡ hides_one at i cs f
bare_one at i [] f = refl
bare_one at i (c ∷ cs) f = ap (λ b. hides_name (item_at at i) c f || b) (bare_one at (i + 1) cs f)

bare_hides : (at : List ℕ) (s : Option Schema) (f : MetaFault) → hides_names at (option_map bare_schema s) f ≡ hides_names at s f
bare_hides at None f = refl
bare_hides at (Some s) f =
    ap (λ b. is_at (schema_at at) f || (is_at (below (schema_at at) (codes "columns")) f || b))
    (bare_one (below (schema_at at) (codes "columns")) 0 s.columns f)

bare_own_or : (at : List ℕ) (t : Option Schema) (group_at : List ℕ) (g : Option Schema) (f : MetaFault)
    → hides_own_or at (option_map bare_schema t) group_at (option_map bare_schema g) f ≡ hides_own_or at t group_at g f
bare_own_or at None group_at g f = bare_hides group_at g f
bare_own_or at (Some s) group_at g f = bare_hides at (Some s) f

bare_url : (place : ℕ → List ℕ) (i : ℕ) (ts : List TableFound) (f : MetaFault) → hides_url place i (map bare_table ts) f ≡ hides_url place i ts f
bare_url place i [] f = refl
bare_url place i (t ∷ ts) f = ap (λ b. hides_property (place i) (codes "url") f || b) (bare_url place (i + 1) ts f)

bare_hidden : (place : ℕ → List ℕ) (at : List ℕ) (g : Option Schema) (url : List ℕ) (i : ℕ) (ts : List TableFound) (f : MetaFault)
    → hides_target place at (option_map bare_schema g) url i (map bare_table ts) f ≡ hides_target place at g url i ts f
bare_hidden place at g url i [] f = refl
bare_hidden place at g url i (t ∷ ts) f =
    ap₂ (λ x y. hides_property (place i) (codes "url") f || (if bytes_eq (iri_of t.table.url) url then x else y))
    (bare_own_or (place i) t.table.schema at g f) (bare_hidden place at g url (i + 1) ts f)

-- ---- the same by schemas

bare_ids : (t g : Option KeysFound) → id_or (option_map bare_keys t) (option_map bare_keys g) ≡ id_or t g
bare_ids (Some t) g = refl
bare_ids None (Some g) = refl
bare_ids None None = refl

bare_own_id : (at group_at : List ℕ) (t : TableFound) (s : Option Schema) (f : MetaFault)
    → (is_at at f || hides_property (own_schema_at at group_at (option_map bare_schema s)) (codes "@id") f)
    ≡ (is_at at f || hides_property (own_schema_at at group_at s) (codes "@id") f)
bare_own_id at group_at t None f = refl
bare_own_id at group_at t (Some s) f = refl

bare_id : (place : ℕ → List ℕ) (at : List ℕ) (i : ℕ) (ts : List TableFound) (f : MetaFault)
    → hides_id place at i (map bare_table ts) f ≡ hides_id place at i ts f
bare_id place at i [] f = refl
bare_id place at i (t ∷ ts) f = ap₂ (λ x y. x || y) (bare_own_id (place i) at t t.table.schema f) (bare_id place at (i + 1) ts f)

bare_sole : (place : ℕ → List ℕ) (at : List ℕ) (g : GroupFound) (id : List ℕ) (i : ℕ) (ts : List TableFound) (f : MetaFault)
    → hides_sole place at (bare_group g).body id i (map bare_table ts) f ≡ hides_sole place at g.body id i ts f
bare_sole place at g id i [] f = refl
bare_sole place at g id i (t ∷ ts) f =
    let own = hides_own_or (place i) (option_map bare_schema t.table.schema) at (option_map bare_schema g.body.schema) f in
    let rest = hides_sole place at (bare_group g).body id (i + 1) (map bare_table ts) f in
    ap₂ (λ x o. x || ((is_id id o && own) || rest)) (bare_own_id (place i) at t t.table.schema f) (bare_ids t.keys g.body.keys)
    ∙ ap₂ (λ x y. hides_own_id (place i) at t f || ((is_id id (id_or t.keys g.body.keys) && x) || y)) (bare_own_or (place i) t.table.schema at g.body.schema f)
    (bare_sole place at g id (i + 1) ts f)

bare_by : (by : NamedBy) (place : ℕ → List ℕ) (at : List ℕ) (ts : List TableFound) (f : MetaFault)
    → hides_by by place at (map bare_table ts) f ≡ hides_by by place at ts f
bare_by Url place at ts f = bare_url place 0 ts f
bare_by BySchema place at ts f = bare_id place at 0 ts f

bare_named : (by : NamedBy) (place : ℕ → List ℕ) (at : List ℕ) (g : GroupFound) (url : List ℕ) (f : MetaFault)
    → hides_named by place at (bare_group g) url f ≡ hides_named by place at g url f
bare_named Url place at g url f = bare_hidden place at g.body.schema url 0 g.tables f
bare_named BySchema place at g id f = bare_sole place at g id 0 g.tables f

with_faults : List MetaFault → Bool → (NamedBy → Bool) → (NamedTable → Bool) → Known
with_faults faults own tables names =
    record { own = own; tables = tables; names = names; at = could_read faults; sides = λ at. not (list_any (hides_side at) faults) }

bare_known : (place : ℕ → List ℕ) (at : List ℕ) (faults : List MetaFault) (g : GroupFound) (own : List ℕ) (s : Option Schema)
    → known place at faults (bare_group g) own (option_map bare_schema s) ≡ known place at faults g own s
unfolding with_faults
bare_known place at faults g own s =
    let own_is = ap (λ p. not (list_any p faults)) (fun_ext (bare_hides own s)) in
    let tables_is : (by : NamedBy)
    → not (list_any (λ f. is_at (below at (codes "tables")) f || hides_by by place at (map bare_table g.tables) f) faults)
    ≡ not (list_any (λ f. is_at (below at (codes "tables")) f || hides_by by place at g.tables f) faults) =
    λ by. ap (λ p. not (list_any p faults)) (fun_ext (λ f. ap (λ b. is_at (below at (codes "tables")) f || b) (bare_by by place at g.tables f))) in
    let names_is : (table : NamedTable)
    → not (list_any (hides_named table.by place at (bare_group g) table.url) faults)
    ≡ not (list_any (hides_named table.by place at g table.url) faults) =
    λ table. ap (λ p. not (list_any p faults)) (fun_ext (bare_named table.by place at g table.url)) in
    ap₂ (λ o u. with_faults faults o u (λ table. not (list_any (hides_named table.by place at (bare_group g) table.url) faults))) own_is (fun_ext tables_is)
    ∙ ap (λ n. with_faults faults (known place at faults g own s).own (known place at faults g own s).tables n) (fun_ext names_is)

-- ---- what keys name

bare_declared : (s : Option Schema) → declared_names (option_map bare_schema s) ≡ declared_names s
bare_declared None = refl
bare_declared (Some s) = bare_names 0 s.columns

own_declared : (t g : Option Schema) → declared_names (own_or (option_map bare_schema t) (option_map bare_schema g)) ≡ declared_names (own_or t g)
own_declared None g = bare_declared g
own_declared (Some s) g = bare_declared (Some s)

bare_target : (g : GroupFound) (t : TableFound) → target (bare_group g).body (bare_table t) ≡ target g.body t
bare_target g t =
    ap₂ (λ id ns. record { url = iri_of t.table.url; schema = id; names = ns }) (bare_ids t.keys g.body.keys) (own_declared t.table.schema g.body.schema)

bare_targets : (g : GroupFound) (ts : List TableFound) → map (target (bare_group g).body) (map bare_table ts) ≡ map (target g.body) ts
bare_targets g [] = refl
bare_targets g (t ∷ ts) = ap₂ (λ x rest. x ∷ rest) (bare_target g t) (bare_targets g ts)

bare_to : (known : Known) (own : List (List ℕ)) (k : ForeignKeyFound) (o : Option Target) → faults_to known own (bare_key k) o ≡ faults_to known own k o
bare_to known own k None = refl
bare_to known own k (Some t) = refl

bare_each : (known : Known) (own : List (List ℕ)) (ts : List Target) (ks : List ForeignKeyFound)
    → flat_map (foreign_faults known own ts) (map bare_key ks) ≡ flat_map (foreign_faults known own ts) ks
bare_each known own ts [] = refl
bare_each known own ts (k ∷ ks) =
    ap₂ (λ x y. told_if (known.at k.table.at) x ++ y) (bare_to known own k (named ts k.table)) (bare_each known own ts ks)

bare_schema_faults : (known : Known) (ts : List Target) (s : Option Schema) (ks : Option KeysFound)
    → schema_faults known ts (option_map bare_schema s) (option_map bare_keys ks) ≡ schema_faults known ts s ks
bare_schema_faults known ts s None = refl
bare_schema_faults known ts s (Some ks) =
    ap (λ own. key_faults known own ts (bare_keys ks)) (bare_declared s)
    ∙ ap (λ fs. own_faults known (declared_names s) ks ++ fs) (bare_each known (declared_names s) ts ks.foreign)

module _ (place : ℕ → List ℕ) (at : List ℕ) (faults : List MetaFault) (g : GroupFound) where
  bare_at : (ts : List Target) (own : List ℕ) (s : Option Schema) (ks : Option KeysFound)
      → schema_faults (known place at faults (bare_group g) own (option_map bare_schema s)) ts (option_map bare_schema s) (option_map bare_keys ks)
      ≡ schema_faults (known place at faults g own s) ts s ks
  bare_at ts own s ks =
      ap (λ k. schema_faults k ts (option_map bare_schema s) (option_map bare_keys ks)) (bare_known place at faults g own s)
      ∙ bare_schema_faults (known place at faults g own s) ts s ks

  bare_tables : (targets : List Target) (i : ℕ) (ts : List TableFound)
      → table_faults (λ j s. known place at faults (bare_group g) (place j) s) targets i (map bare_table ts)
      ≡ table_faults (λ j s. known place at faults g (place j) s) targets i ts
  bare_tables targets i [] = refl
  bare_tables targets i (t ∷ ts) = ap₂ (λ x y. x ++ y) (bare_at targets (place i) t.table.schema t.keys) (bare_tables targets (i + 1) ts)

  pub bare_references : reference_faults place at faults (bare_group g) ≡ reference_faults place at faults g
  bare_references =
      ap (λ ts. schema_faults (known place at faults (bare_group g) at (option_map bare_schema g.body.schema)) ts
      (option_map bare_schema g.body.schema) (option_map bare_keys g.body.keys)
      ++ table_faults (λ j s. known place at faults (bare_group g) (place j) s) ts 0 (map bare_table g.tables))
      (bare_targets g g.tables)
      ∙ ap₂ (λ x y. x ++ y) (bare_at (targets g) at g.body.schema g.body.keys) (bare_tables (targets g) 0 g.tables)
