-- The columns and tables that the keys of a group without faults name exist.
use Rattle.std.proofs.Common.{◌≡◌, ◌∙◌, ◌+◌, ℕ, List, [], ◌∷◌, ◌++◌, suc, Bool, true, false, Option, Some, None, ap, refl, sym, subst, arith, length, map}
use Rattle.std.proofs.Common.{flat_map, nat_eq, if◌then◌else◌, IfSome, All, Contains, bytes_eq, ◌||◌, option_map, unwrap_or}
use Rattle.std.specs.List.{list_any}
use Rattle.std.proofs.lemmas.List.{length-map}
use Rattle.std.proofs.lemmas.List.Elements.{All-nil, All-cons, All-head, All-tail}
use Rattle.std.proofs.lemmas.Slice.Eq.{bytes_eq-Decides}
use Rattle.csvw_iri.specs.Link.{iri_of}
use Rattle.csvw_description.specs.declared.schema.Schema.{Schema}
use Rattle.csvw_description.specs.declared.table.TableDescription.{TableDescription}
use Rattle.csvw_description.specs.Keys.{AreAmong, declared_names, IsForeignKey, IsReferenced, KeysResolve, own_or}
use Rattle.csvw_description.specs.Name.{numbered_names}
use Rattle.csvw_meta_core.specs.declared.fault.MetaFault.{MetaFault}
use Rattle.csvw_meta_keys.specs.declared.column_names.KeyName.{KeyName}
use Rattle.csvw_meta_keys.specs.declared.foreign_key.ForeignKeyFound.{ForeignKeyFound}
use Rattle.csvw_meta_keys.specs.declared.keys.KeysFound.{KeysFound}
use Rattle.csvw_meta_keys.specs.Described.{names_of, described}
use Rattle.csvw_meta_keys.specs.Naming.{all_known, bad_reference, faults_to, foreign_faults, has_name, key_faults, name_fault, name_faults, own_faults}
use Rattle.csvw_meta_keys.specs.Naming.{has_schema, named, named_by, side_faults, sole_of, target_of}
use Rattle.csvw_meta_keys.specs.declared.naming.Target.{Target}
use Rattle.csvw_meta_keys.specs.declared.reference.NamedBy.{NamedBy}
use Rattle.csvw_meta_keys.specs.declared.reference.NamedBy.TheVariants.{Url, Schema as BySchema}
use Rattle.csvw_meta_core.specs.Fine.{none_in_both}
use Rattle.csvw_meta.specs.declared.body.Body.{Body}
use Rattle.csvw_meta.specs.declared.table.TableFound.{TableFound}
use Rattle.csvw_meta.specs.ForeignKeys.{linked, linked_table, with_foreign_keys}
use Rattle.csvw_meta.specs.declared.group.GroupFound.{GroupFound}
use Rattle.csvw_meta.specs.Group.{description_of}
use Rattle.csvw_meta.specs.References.{schema_faults, table_faults, target, targets}
use Rattle.csvw_meta.proofs.FitSchema.{Describes}

-- ---- names

-- one that is further back
later : {X : Type 0} (x y : X) (xs : List X) → Contains xs y → Contains (x ∷ xs) y
later x y xs is = (suc is.0, omega (arith, is.1), is.2)

first : {X : Type 0} (x : X) (xs : List X) → Contains (x ∷ xs) x
first x xs = (0, omega arith, refl)

among : (names : List (List ℕ)) (name : List ℕ) → has_name names name ≡ true → Contains names name
among [] name h = cc
among (n ∷ ns) name h =
    elim (bytes_eq n name) as (λ b. (b ≡ true → n ≡ name) → (b || has_name ns name) ≡ true → Contains (n ∷ ns) name) [
      | true ↦ λ same g. subst (Contains (n ∷ ns)) (same refl) (first n ns)
      | false ↦ λ same g. later n name ns (among ns name g)
    ]
    (bytes_eq-Decides n name).0 h

none_told : (b : Bool) (fault : MetaFault) → (if b then [] else fault ∷ []) ≡ [] → b ≡ true
none_told true fault h = refl
none_told false fault h = cc

-- an empty list has no fault
not_empty : {A : Type 0} (fault : MetaFault) (faults : List MetaFault) → fault ∷ faults ≡ [] → A
not_empty fault faults h = cc

all_among : (names : List (List ℕ)) (key : List KeyName) → name_faults all_known names key ≡ [] → AreAmong names (names_of key)
all_among names [] h = All-nil (λ name. Contains names name)
all_among names (k ∷ ks) h =
    let parts = none_in_both (name_fault all_known names k) (name_faults all_known names ks) h in
    All-cons (λ name. Contains names name) k.name (names_of ks)
    (among names k.name (none_told (has_name names k.name) (bad_reference k.at) parts.0)) (all_among names ks parts.1)

-- ---- tables

-- one of these tables is the target, and it is described among them
abbrev IsFound : (TableFound → TableDescription) → Body → List TableFound → Target → Type 0
IsFound describes group tables to = (t : TableFound) × (Contains (map describes tables) (describes t) × (target group t ≡ to))

none_is_some : {X A : Type 0} (x : X) → None ≡ Some x → A
none_is_some x is = cc

some_is : {X : Type 0} (x y : X) → Some x ≡ Some y → x ≡ y
some_is x y is = cc

module _ (describes : TableFound → TableDescription) (group : Body) where
  further : (t : TableFound) (ts : List TableFound) (to : Target) → IsFound describes group ts to → IsFound describes group (t ∷ ts) to
  further t ts to found = (found.0, (later (describes t) (describes found.0) (map describes ts) found.1.0, found.1.1))

  here : (t : TableFound) (ts : List TableFound) (to : Target) → Some (target group t) ≡ Some to → IsFound describes group (t ∷ ts) to
  here t ts to is = (t, (first (describes t) (map describes ts), some_is (target group t) to is))

  by_url : (ts : List TableFound) (url : List ℕ) (to : Target) → target_of (map (target group) ts) url ≡ Some to → IsFound describes group ts to
  by_url [] url to is = none_is_some to is
  by_url (t ∷ ts) url to is =
      elim (bytes_eq (iri_of t.table.url) url) as
      (λ b. (if b then Some (target group t) else target_of (map (target group) ts) url) ≡ Some to → IsFound describes group (t ∷ ts) to) [
        | true ↦ here t ts to
        | false ↦ λ g. further t ts to (by_url ts url to g)
      ]
      is

  unrepeated : (b : Bool) (t : TableFound) (ts : List TableFound) (to : Target) → (if b then None else Some (target group t)) ≡ Some to
      → IsFound describes group (t ∷ ts) to
  unrepeated true t ts to is = none_is_some to is
  unrepeated false t ts to is = here t ts to is

  by_schema : (ts : List TableFound) (id : List ℕ) (to : Target) → sole_of (map (target group) ts) id ≡ Some to → IsFound describes group ts to
  by_schema [] id to is = none_is_some to is
  by_schema (t ∷ ts) id to is =
      let repeated = list_any (has_schema id) (map (target group) ts) in
      elim (has_schema id (target group t)) as
      (λ b. (if b then (if repeated then None else Some (target group t)) else sole_of (map (target group) ts) id) ≡ Some to
      → IsFound describes group (t ∷ ts) to) [
        | true ↦ unrepeated repeated t ts to
        | false ↦ λ g. further t ts to (by_schema ts id to g)
      ]
      is

  by_either : (by : NamedBy) (ts : List TableFound) (url : List ℕ) (to : Target)
      → named_by by (map (target group) ts) url ≡ Some to → IsFound describes group ts to
  by_either Url ts url to is = by_url ts url to is
  by_either BySchema ts url to is = by_schema ts url to is

-- a table that is named without a fault, and what the key says of it
abbrev IsNamed : List (List ℕ) → ForeignKeyFound → Option Target → Type 0
IsNamed own key found = (to : Target) × ((found ≡ Some to) × (faults_to all_known own key (Some to) ≡ []))

is_named : (own : List (List ℕ)) (key : ForeignKeyFound) (found : Option Target) → faults_to all_known own key found ≡ [] → IsNamed own key found
is_named own key None h = not_empty (bad_reference key.table.at) [] h
is_named own key (Some to) h = (to, (refl, h))

-- ---- the schemas of tables

linked_names : (targets : List Target) (table group : Option Schema) (own others : Option KeysFound)
    → declared_names (own_or (linked targets table own) (linked targets group others)) ≡ declared_names (own_or table group)
linked_names targets (Some s) group None others = refl
linked_names targets (Some s) group (Some k) others = refl
linked_names targets None None own others = refl
linked_names targets None (Some s) own None = refl
linked_names targets None (Some s) own (Some k) = refl

-- ---- groups

-- if there is a schema, it has the primary key that is found in it
abbrev pub DescribesAny : Option Schema → Option KeysFound → Type 0
DescribesAny None keys = Unit {0}
DescribesAny (Some schema) None = ⊥
DescribesAny (Some schema) (Some keys) = Describes schema keys

module _ (g : GroupFound) where
  referenced : (own : List (List ℕ)) (key : ForeignKeyFound) → foreign_faults all_known own (targets g) key ≡ []
      → IsForeignKey (description_of g) own (described (targets g) key)
  referenced own key h =
      let to_one = is_named own key (named (targets g) key.table) h in
      let to = to_one.0 in
      let found = by_either (linked_table (targets g)) g.body key.table.by g.tables key.table.url to to_one.1.0 in
      let t = found.0 in
      let parts =
      none_in_both (name_faults all_known own key.columns) (name_faults all_known to.names key.referenced ++ side_faults all_known key) to_one.1.1 in
      let more = none_in_both (name_faults all_known to.names key.referenced) (side_faults all_known key) parts.1 in
      let same = none_told (nat_eq (length key.columns) (length key.referenced)) (bad_reference key.at) more.1 in
      let sides : length key.columns ≡ length key.referenced = grind (arith, same) in
      let names : to.names ≡ declared_names (own_or (linked_table (targets g) t).schema (description_of g).schema) =
      ap (λ (x : Target). x.names) (sym found.1.1) ∙ sym (linked_names (targets g) t.table.schema g.body.schema t.keys g.body.keys) in
      let table : IsReferenced (description_of g) (described (targets g) key) (linked_table (targets g) t) = record {
        is_there = found.1.0;
        url =
            ap (λ (x : Target). x.url) found.1.1
            ∙ sym (ap (λ (o : Option Target). unwrap_or (option_map (λ (x : Target). x.url) o) key.table.url) to_one.1.0);
        columns = subst (λ ns. AreAmong ns (names_of key.referenced)) names (all_among to.names key.referenced more.0);
        sides = length-map key.columns (λ k. k.name) ∙ sides ∙ sym (length-map key.referenced (λ k. k.name));
      } in
      record { columns = all_among own key.columns parts.0; referenced = (linked_table (targets g) t, table) }

  all_referenced : (own : List (List ℕ)) (keys : List ForeignKeyFound) → flat_map (foreign_faults all_known own (targets g)) keys ≡ []
      → All (IsForeignKey (description_of g) own) (map (described (targets g)) keys)
  all_referenced own [] h = All-nil (IsForeignKey (description_of g) own)
  all_referenced own (key ∷ keys) h =
      let parts = none_in_both (foreign_faults all_known own (targets g) key) (flat_map (foreign_faults all_known own (targets g)) keys) h in
      All-cons (IsForeignKey (description_of g) own) (described (targets g) key) (map (described (targets g)) keys) (referenced own key parts.0)
      (all_referenced own keys parts.1)

  resolve : (schema : Schema) (keys : KeysFound) → Describes schema keys → key_faults all_known (numbered_names 0 schema.columns) (targets g) keys ≡ []
      → KeysResolve (description_of g) (with_foreign_keys (targets g) keys schema)
  resolve schema keys describes h =
      let own = numbered_names 0 schema.columns in
      let parts = none_in_both (own_faults all_known own keys) (flat_map (foreign_faults all_known own (targets g)) keys.foreign) h in
      let names = none_in_both (name_faults all_known own keys.primary) (name_faults all_known own keys.row_titles) parts.0 in
      record {
        primary_key = subst (AreAmong own) (sym describes) (all_among own keys.primary names.0);
        foreign_keys = all_referenced own keys.foreign parts.1;
      }

  pub schema_resolves : (schema : Option Schema) (keys : Option KeysFound) → DescribesAny schema keys → schema_faults all_known (targets g) schema keys ≡ []
      → IfSome (linked (targets g) schema keys) (KeysResolve (description_of g))
  schema_resolves None keys describes h = tt
  schema_resolves (Some schema) None describes h = absurd describes
  schema_resolves (Some schema) (Some keys) describes h = resolve schema keys describes h

  pub tables_resolve : (i : ℕ) (ts : List TableFound) → All (λ t. DescribesAny t.table.schema t.keys) ts
      → table_faults (λ i schema. all_known) (targets g) i ts ≡ []
      → All (λ t. IfSome t.schema (KeysResolve (description_of g))) (map (linked_table (targets g)) ts)
  tables_resolve i [] all h = All-nil (λ t. IfSome t.schema (KeysResolve (description_of g)))
  tables_resolve i (t ∷ ts) all h =
      let parts = none_in_both (schema_faults all_known (targets g) t.table.schema t.keys) (table_faults (λ i schema. all_known) (targets g) (i + 1) ts) h in
      All-cons (λ t. IfSome t.schema (KeysResolve (description_of g))) (linked_table (targets g) t) (map (linked_table (targets g)) ts)
      (schema_resolves t.table.schema t.keys (All-head (λ t. DescribesAny t.table.schema t.keys) t ts all) parts.0)
      (tables_resolve (i + 1) ts (All-tail (λ t. DescribesAny t.table.schema t.keys) t ts all) parts.1)
