-- What is seen of the tables of a group says what keys may name, and what of it could be read.
use mathlib.Core.Path.{fun_ext}
use Rattle.std.proofs.Common.{◌≡◌, ◌∙◌, ℕ, ◌+◌, ◌<◌, ◌≤◌, ◌&&◌, ◌||◌, not, List, [], ◌∷◌, ◌++◌, Bool, true, false, Option, Some, None, bytes_eq, codes}
use Rattle.std.proofs.Common.{if◌then◌else◌, map, is_some, refl, sym, ap, ap₂, arith, length, drop, get_or, append_assoc}
use Rattle.std.specs.List.{list_any}
use Rattle.std.proofs.lemmas.List.{append-nil, drop_all}
use Rattle.csvw_iri.specs.Link.{iri_of}
use Rattle.csvw_description.specs.Keys.{declared_names, own_or}
use Rattle.csvw_description.specs.declared.schema.Schema.{Schema}
use Rattle.csvw_meta_core.specs.declared.fault.MetaFault.{MetaFault}
use Rattle.csvw_meta_core.specs.Pointer.{below}
use Rattle.csvw_meta_core.specs.Rules.{could_read, hides_property, is_at}
use Rattle.csvw_meta_keys.specs.Naming.{is_id, Known}
use Rattle.csvw_meta_keys.specs.declared.reference.NamedBy.{NamedBy}
use Rattle.csvw_meta_keys.specs.declared.reference.NamedBy.TheVariants.{Url, Schema as BySchema}
use Rattle.csvw_meta_keys.specs.declared.reference.NamedTable.{NamedTable}
use Rattle.csvw_meta.specs.declared.body.Body.{Body}
use Rattle.csvw_meta_keys.specs.declared.keys.KeysFound.{KeysFound}
use Rattle.csvw_meta_keys.specs.declared.naming.Target.{Target}
use Rattle.csvw_meta.specs.References.{hides_names, hides_own_or, hides_side, hides_target, hides_url, known, reference_faults, schema_faults, table_faults}
use Rattle.csvw_meta.specs.References.{hides_by, hides_id, hides_named, hides_own_id, hides_sole, id_or, target, targets}
use Rattle.csvw_meta.specs.declared.table.TableFound.{TableFound}
use Rattle.csvw_meta_faults.specs.Seen.{as_table}
use Rattle.csvw_meta_faults.specs.SeenGroup.{as_group}
use Rattle.csvw_meta_faults.specs.Targets.{as_target, faults_of_group, faults_of_keys, faults_of_tables, flag_of, named_known, names_known, seen_target}
use Rattle.csvw_meta_faults.specs.Targets.{seen_targets, sole_known}
use Rattle.csvw_meta_faults.specs.declared.references.Scene.{Scene}
use Rattle.csvw_meta_faults.specs.declared.seen.GroupSeen.{GroupSeen}
use Rattle.csvw_meta_faults.specs.declared.seen.TableSeen.{TableSeen}
use Rattle.csvw_meta_faults.specs.declared.targets.TargetSeen.{TargetSeen}
use Rattle.csvw_meta_faults.proofs.AnyLemmas.{any_or}
use Rattle.csvw_meta_faults.proofs.ItemsLemmas.{here}

-- ---- tests of faults

pub any_none : (p : MetaFault → Bool) (fs : List MetaFault) → ((f : MetaFault) → p f ≡ false) → list_any p fs ≡ false
any_none p [] each = refl
any_none p (f ∷ fs) each = ap₂ (λ a b. a || b) (each f) (any_none p fs each)

any_same : (p q : MetaFault → Bool) (fs : List MetaFault) → ((f : MetaFault) → p f ≡ q f) → list_any p fs ≡ list_any q fs
any_same p q [] each = refl
any_same p q (f ∷ fs) each = ap₂ (λ a b. a || b) (each f) (any_same p q fs each)

any_if : (b : Bool) (p q : MetaFault → Bool) (fs : List MetaFault)
    → list_any (λ f. if b then p f else q f) fs ≡ (if b then list_any p fs else list_any q fs)
any_if true p q fs = any_same (λ f. if true then p f else q f) p fs (λ f. refl)
any_if false p q fs = any_same (λ f. if false then p f else q f) q fs (λ f. refl)

not_not : (b : Bool) → not (not b) ≡ b
not_not true = refl
not_not false = refl

any_and : (b : Bool) (p : MetaFault → Bool) (fs : List MetaFault) → list_any (λ f. b && p f) fs ≡ (b && list_any p fs)
any_and true p fs = any_same (λ f. true && p f) p fs (λ f. refl)
any_and false p fs = any_none (λ f. false && p f) fs (λ f. refl)

module _ (place : ℕ → List ℕ) (at : List ℕ) (faults : List MetaFault) (group : Body) where
  abbrev hidden_group : Bool
  hidden_group = list_any (hides_names at group.schema) faults

  abbrev all_seen : ℕ → List TableFound → List TargetSeen
  all_seen i ts = seen_targets place at group.keys faults i ts

  own_any : (own : List ℕ) (s : Option Schema)
      → (if is_some s then list_any (hides_names own s) faults else hidden_group) ≡ list_any (hides_own_or own s at group.schema) faults
  own_any own None = any_same (hides_names at group.schema) (hides_own_or own None at group.schema) faults (λ f. refl)
  own_any own (Some s) = any_same (hides_names own (Some s)) (hides_own_or own (Some s) at group.schema) faults (λ f. refl)

  names_any : (url : List ℕ) (i : ℕ) (ts : List TableFound)
      → names_known hidden_group (all_seen i ts) url ≡ not (list_any (hides_target place at group.schema url i ts) faults)
  names_any url i [] = sym (ap not (any_none (hides_target place at group.schema url i []) faults (λ f. refl)))
  names_any url i (t ∷ ts) =
      let same = bytes_eq (iri_of t.table.url) url in
      let own = hides_own_or (place i) t.table.schema at group.schema in
      let rest = hides_target place at group.schema url (i + 1) ts in
      let url_any = hides_property (place i) (codes "url") in
      let rest_is : not (names_known hidden_group (all_seen (i + 1) ts) url) ≡ list_any rest faults =
      ap not (names_any url (i + 1) ts) ∙ not_not (list_any rest faults) in
      ap not
      (ap₂ (λ x y. list_any url_any faults || (if same then x else y)) (own_any (place i) t.table.schema) rest_is
      ∙ (ap (λ x. list_any url_any faults || x) (sym (any_if same own rest faults))
      ∙ (sym (any_or url_any (λ f. if same then own f else rest f) faults)
      ∙ any_same (λ f. url_any f || (if same then own f else rest f)) (hides_target place at group.schema url i (t ∷ ts)) faults (λ f. refl))))

  sole_any : (id : List ℕ) (i : ℕ) (ts : List TableFound)
      → sole_known hidden_group (all_seen i ts) id ≡ not (list_any (hides_sole place at group id i ts) faults)
  sole_any id i [] = sym (ap not (any_none (hides_sole place at group id i []) faults (λ f. refl)))
  sole_any id i (t ∷ ts) =
      let same = is_id id (id_or t.keys group.keys) in
      let own = hides_own_or (place i) t.table.schema at group.schema in
      let rest = hides_sole place at group id (i + 1) ts in
      let id_any = hides_own_id (place i) at t in
      let rest_is : not (sole_known hidden_group (all_seen (i + 1) ts) id) ≡ list_any rest faults =
      ap not (sole_any id (i + 1) ts) ∙ not_not (list_any rest faults) in
      ap not
      (ap₂ (λ x y. list_any id_any faults || ((same && x) || y)) (own_any (place i) t.table.schema) rest_is
      ∙ (ap (λ x. list_any id_any faults || (x || list_any rest faults)) (sym (any_and same own faults))
      ∙ (ap (λ x. list_any id_any faults || x) (sym (any_or (λ f. same && own f) rest faults))
      ∙ (sym (any_or id_any (λ f. (same && own f) || rest f) faults)
      ∙ any_same (λ f. id_any f || ((same && own f) || rest f)) (hides_sole place at group id i (t ∷ ts)) faults (λ f. refl)))))

module _ (place : ℕ → List ℕ) (at : List ℕ) (keys : Option KeysFound) (faults : List MetaFault) where
  urls_any : (i : ℕ) (ts : List TableFound)
      → list_any (λ t. t.url_hidden) (seen_targets place at keys faults i ts) ≡ list_any (hides_url place i ts) faults
  urls_any i [] = sym (any_none (hides_url place i []) faults (λ f. refl))
  urls_any i (t ∷ ts) =
      ap (λ b. list_any (hides_property (place i) (codes "url")) faults || b) (urls_any (i + 1) ts)
      ∙ (sym (any_or (hides_property (place i) (codes "url")) (hides_url place (i + 1) ts) faults)
      ∙ any_same (λ f. hides_property (place i) (codes "url") f || hides_url place (i + 1) ts f) (hides_url place i (t ∷ ts)) faults (λ f. refl))

  ids_any : (i : ℕ) (ts : List TableFound)
      → list_any (λ t. t.id_hidden) (seen_targets place at keys faults i ts) ≡ list_any (hides_id place at i ts) faults
  ids_any i [] = sym (any_none (hides_id place at i []) faults (λ f. refl))
  ids_any i (t ∷ ts) =
      ap (λ b. list_any (hides_own_id (place i) at t) faults || b) (ids_any (i + 1) ts)
      ∙ (sym (any_or (hides_own_id (place i) at t) (hides_id place at (i + 1) ts) faults)
      ∙ any_same (λ f. hides_own_id (place i) at t f || hides_id place at (i + 1) ts f) (hides_id place at i (t ∷ ts)) faults (λ f. refl))

  all_known_is : (ts : List TableFound) (by : NamedBy)
      → flag_of by (not (list_any (is_at (below at (codes "tables"))) faults || list_any (λ t. t.url_hidden) (seen_targets place at keys faults 0 ts)))
      (not (list_any (is_at (below at (codes "tables"))) faults || list_any (λ t. t.id_hidden) (seen_targets place at keys faults 0 ts)))
      ≡ not (list_any (λ f. is_at (below at (codes "tables")) f || hides_by by place at ts f) faults)
  all_known_is ts Url =
      ap (λ b. not (list_any (is_at (below at (codes "tables"))) faults || b)) (urls_any 0 ts)
      ∙ ap not (sym (any_or (is_at (below at (codes "tables"))) (hides_url place 0 ts) faults))
  all_known_is ts BySchema =
      ap (λ b. not (list_any (is_at (below at (codes "tables"))) faults || b)) (ids_any 0 ts)
      ∙ ap not (sym (any_or (is_at (below at (codes "tables"))) (hides_id place at 0 ts) faults))

  -- ---- one table after another, as a loop does

  module _ (ts : List TableSeen) (total : List TargetSeen) where
    pub targets_more : (front : List TargetSeen) (i : ℕ) (t : TableSeen) (x : TargetSeen) → i < length ts → t ≡ get_or ts i t
        → front ++ seen_targets place at keys faults i (map as_table (drop i ts)) ≡ total → x ≡ seen_target (place i) at keys faults (as_table t)
        → (front ++ x ∷ []) ++ seen_targets place at keys faults (i + 1) (map as_table (drop (i + 1) ts)) ≡ total
    targets_more front i t x lt is so_far e =
        append_assoc front (x ∷ []) (seen_targets place at keys faults (i + 1) (map as_table (drop (i + 1) ts)))
        ∙ (ap (λ y. front ++ y ∷ seen_targets place at keys faults (i + 1) (map as_table (drop (i + 1) ts))) e ∙ (rw (here ts i t lt is) at so_far))

    pub targets_done : (front : List TargetSeen) (i : ℕ) → length ts ≤ i → front ++ seen_targets place at keys faults i (map as_table (drop i ts)) ≡ total
        → front ≡ total
    targets_done front i le so_far = let none : drop i ts ≡ [] = drop_all i ts le in sym (append-nil front) ∙ (rw none at so_far)

  pub length_targets : (i : ℕ) (ts : List TableSeen) → length (seen_targets place at keys faults i (map as_table ts)) ≡ length ts
  length_targets i [] = refl
  length_targets i (t ∷ ts) = let e = length_targets (i + 1) ts in omega (arith, e)

-- ---- the tables that keys may name

own_names : (s g : Option Schema) → (if is_some s then declared_names s else declared_names g) ≡ declared_names (own_or s g)
own_names None g = refl
own_names (Some s) g = refl

targets_are : (place : ℕ → List ℕ) (at : List ℕ) (faults : List MetaFault) (g : Body) (i : ℕ) (ts : List TableFound)
    → map (as_target (declared_names g.schema)) (seen_targets place at g.keys faults i ts) ≡ map (target g) ts
targets_are place at faults g i [] = refl
targets_are place at faults g i (t ∷ ts) =
    ap₂ (λ ns rest. record { url = iri_of t.table.url; schema = id_or t.keys g.keys; names = ns } ∷ rest) (own_names t.table.schema g.schema)
    (targets_are place at faults g (i + 1) ts)

keys_are : (k : Known) (targets : List Target) (s : Option Schema) (keys : Option KeysFound)
    → faults_of_keys k (declared_names s) targets keys ≡ schema_faults k targets s keys
keys_are k targets s None = refl
keys_are k targets s (Some keys) = refl

-- ---- the whole group

seen_known : List MetaFault → Bool → (NamedBy → Bool) → (NamedTable → Bool) → Known
seen_known faults own tables names =
    record { own = own; tables = tables; names = names; at = could_read faults; sides = λ at. not (list_any (hides_side at) faults) }

-- what names tables, and which names they have
abbrev of_tables : Bool → Bool → NamedBy → Bool
of_tables urls ids by = flag_of by urls ids

abbrev of_names : Bool → List TargetSeen → NamedTable → Bool
of_names hidden seen table = named_known table.by hidden seen table.url

module _ (place : ℕ → List ℕ) (at : List ℕ) (faults : List MetaFault) (g : GroupSeen) where
  abbrev own_body : Body
  own_body = (as_group g).body

  abbrev seen : List TargetSeen
  seen = seen_targets place at g.keys faults 0 (map as_table g.tables)

  abbrev hidden : Bool
  hidden = list_any (hides_names at g.schema) faults

  abbrev all_urls : Bool
  all_urls = not (list_any (is_at (below at (codes "tables"))) faults || list_any (λ t. t.url_hidden) seen)

  abbrev all_ids : Bool
  all_ids = not (list_any (is_at (below at (codes "tables"))) faults || list_any (λ t. t.id_hidden) seen)

  abbrev seen_in : Bool → Known
  seen_in own = seen_known faults own (of_tables all_urls all_ids) (of_names hidden seen)

  named_any : (by : NamedBy) (url : List ℕ) → named_known by hidden seen url ≡ not (list_any (hides_named by place at (as_group g) url) faults)
  named_any Url url = names_any place at faults own_body url 0 (map as_table g.tables)
  named_any BySchema id = sole_any place at faults own_body id 0 (map as_table g.tables)

  known_is : (own : List ℕ) (s : Option Schema) → seen_in (not (list_any (hides_names own s) faults)) ≡ known place at faults (as_group g) own s
  unfolding seen_known
  known_is own s =
      ap₂ (λ u n. seen_known faults (not (list_any (hides_names own s) faults)) u n)
      (fun_ext (all_known_is place at g.keys faults (map as_table g.tables))) (fun_ext (λ table. named_any table.by table.url))

  keys_of : (own : List ℕ) (s : Option Schema) (ts : List Target) (keys : Option KeysFound)
      → faults_of_keys (seen_in (not (list_any (hides_names own s) faults))) (declared_names s) ts keys
      ≡ schema_faults (known place at faults (as_group g) own s) ts s keys
  keys_of own s ts keys =
      ap (λ k. faults_of_keys k (declared_names s) ts keys) (known_is own s) ∙ keys_are (known place at faults (as_group g) own s) ts s keys

  tables_of : (targets : List Target) (i : ℕ) (ts : List TableSeen)
      → faults_of_tables seen_in targets (seen_targets place at g.keys faults i (map as_table ts)) ts
      ≡ table_faults (λ j s. known place at faults (as_group g) (place j) s) targets i (map as_table ts)
  tables_of targets i [] = refl
  tables_of targets i (t ∷ ts) = ap₂ (λ x y. x ++ y) (keys_of (place i) t.schema targets t.keys) (tables_of targets (i + 1) ts)

  seen_faults : List MetaFault
  seen_faults =
      faults_of_keys (seen_in (not hidden)) (declared_names g.schema) (map (as_target (declared_names g.schema)) seen) g.keys
      ++ faults_of_tables seen_in (map (as_target (declared_names g.schema)) seen) seen g.tables

  seen_are : seen_faults ≡ reference_faults place at faults (as_group g)
  unfolding seen_faults
  seen_are =
      ap (λ ts. faults_of_keys (seen_in (not hidden)) (declared_names g.schema) ts g.keys ++ faults_of_tables seen_in ts seen g.tables)
      (targets_are place at faults own_body 0 (map as_table g.tables))
      ∙ ap₂ (λ x y. x ++ y) (keys_of at g.schema (targets (as_group g)) g.keys) (tables_of (targets (as_group g)) 0 g.tables)

-- the faults of a scene, by its parts
by_parts : List MetaFault → List TargetSeen → List (List ℕ) → Bool → (NamedBy → Bool) → GroupSeen → List MetaFault
by_parts faults seen names hidden tables g =
    faults_of_keys (seen_known faults (not hidden) tables (of_names hidden seen)) names (map (as_target names) seen) g.keys
    ++ faults_of_tables (λ own. seen_known faults own tables (of_names hidden seen)) (map (as_target names) seen) seen g.tables

scene_parts : (scene : Scene) (g : GroupSeen)
    → faults_of_group scene g
    ≡ by_parts scene.marks.now.faults.now scene.targets.now scene.group_names.now scene.group_hidden (of_tables scene.urls_known scene.ids_known) g
unfolding by_parts seen_known faults_of_group
scene_parts scene g = refl

-- whether none of these tables is hidden, by a flag of each
none_hidden : (TargetSeen → Bool) → List ℕ → List MetaFault → List TargetSeen → Bool
none_hidden flag at faults ts = not (list_any (is_at (below at (codes "tables"))) faults || list_any flag ts)

pub scene_faults : (scene : Scene) (g : GroupSeen) (place : ℕ → List ℕ) (at : List ℕ) (faults : List MetaFault) → scene.marks.now.faults.now ≡ faults
    → scene.targets.now ≡ seen_targets place at g.keys faults 0 (map as_table g.tables) → scene.group_names.now ≡ declared_names g.schema
    → scene.group_hidden ≡ list_any (hides_names at g.schema) faults
    → scene.urls_known ≡ not (list_any (is_at (below at (codes "tables"))) faults || list_any (λ t. t.url_hidden) scene.targets.now)
    → scene.ids_known ≡ not (list_any (is_at (below at (codes "tables"))) faults || list_any (λ t. t.id_hidden) scene.targets.now)
    → faults_of_group scene g ≡ reference_faults place at faults (as_group g)
unfolding by_parts seen_faults none_hidden
scene_faults scene g place at faults same targets_same names_same hidden_same urls_same ids_same =
    let seen_now = seen_targets place at g.keys faults 0 (map as_table g.tables) in
    let hidden_now = list_any (hides_names at g.schema) faults in
    let urls_now = none_hidden (λ t. t.url_hidden) at faults seen_now in
    let ids_now = none_hidden (λ t. t.id_hidden) at faults seen_now in
    let urls_are : scene.urls_known ≡ urls_now = urls_same ∙ ap (none_hidden (λ t. t.url_hidden) at faults) targets_same in
    let ids_are : scene.ids_known ≡ ids_now = ids_same ∙ ap (none_hidden (λ t. t.id_hidden) at faults) targets_same in
    scene_parts scene g
    ∙ (ap₂ (λ fs ts. by_parts fs ts scene.group_names.now scene.group_hidden (of_tables scene.urls_known scene.ids_known) g) same targets_same
    ∙ (ap₂ (λ ns h. by_parts faults seen_now ns h (of_tables scene.urls_known scene.ids_known) g) names_same hidden_same
    ∙ (ap₂ (λ u i. by_parts faults seen_now (declared_names g.schema) hidden_now (of_tables u i) g) urls_are ids_are ∙ seen_are place at faults g)))
