-- The description of a document without faults can be planned.
use Rattle.std.proofs.Common.{◌≡◌, ◌≢◌, ◌≤◌, ℕ, List, [], ◌∷◌, ◌++◌, Bool, true, false, Option, Some, None, refl, ap, subst, arith, length, map, All}
use Rattle.std.proofs.Common.{AllPairs, codes, IfSome, is_some}
use Rattle.std.proofs.lemmas.List.{length-map}
use Rattle.std.proofs.lemmas.List.Elements.{All-cons, All-map, All-weaker}
use Rattle.serde_json.specs.Data.{Data}
use Rattle.serde_json.specs.Data as json
use Rattle.serde_json.specs.Find.{get}
use Rattle.url.specs.Parts.{Parts}
use Rattle.csvw_fault.specs.declared.fault.Fault.{Fault}
use Rattle.csvw_iri.specs.Link.{iri_of}
use Rattle.csvw_description.specs.declared.description.Description.{Description}
use Rattle.csvw_description.specs.declared.schema.Schema.{Schema}
use Rattle.csvw_description.specs.Plannable.{HasSound, IsFitDialect, IsFitSchema, IsFitTable, IsPlannable}
use Rattle.csvw_meta_core.specs.declared.fault.MetaCode.TheVariants.{DuplicateTable}
use Rattle.csvw_meta_core.specs.Pointer.{below, item_at}
use Rattle.csvw_meta_core.specs.Read.{optional, property, needed}
use Rattle.csvw_meta_core.specs.Kinds.{fixed, truth}
use Rattle.csvw_meta_core.specs.Links.{id, no_url, url}
use Rattle.csvw_meta_keys.specs.declared.keys.KeysFound.{KeysFound}
use Rattle.csvw_meta_keys.specs.declared.naming.Target.{Target}
use Rattle.csvw_meta_keys.specs.Naming.{all_known}
use Rattle.csvw_meta_notes.specs.Unlisted.{all_notes, all_warnings}
use Rattle.csvw_meta.specs.declared.body.Body.{Body}
use Rattle.csvw_meta.specs.declared.body.DialectGiven.{DialectGiven}
use Rattle.csvw_meta_core.specs.declared.context.Context.{Context}
use Rattle.csvw_meta_dialect.specs.declared.dialect.DialectFound.{DialectFound}
use Rattle.csvw_meta.specs.declared.group.GroupFound.{GroupFound}
use Rattle.csvw_meta_inherited.specs.declared.inherited.InheritedFound.{InheritedFound}
use Rattle.csvw_meta.specs.declared.schema.SchemaFound.{SchemaFound}
use Rattle.csvw_meta.specs.declared.table.TableFound.{TableFound}
use Rattle.csvw_meta.specs.Body.{body, body_of, given_dialect, split}
use Rattle.csvw_meta_core.specs.Context.{context, in_profile}
use Rattle.csvw_meta_core.specs.declared.profile.Profile.{Profile}
use Rattle.csvw_meta_core.specs.declared.profile.Profile.TheVariants.{Core}
use Rattle.csvw_meta_dialect.specs.Dialect.{dialect}
use Rattle.csvw_meta.specs.Described.{described, parts, sole_table, within}
use Rattle.csvw_meta.specs.Document.{Document, document_by, group_in, judged, length_of, of_bytes, of_json, of_short, own_url, plain_description}
use Rattle.csvw_meta.specs.ForeignKeys.{linked, linked_table}
use Rattle.csvw_meta.specs.Group.{description_of, group, no_group, tables, url_faults, url_of}
use Rattle.csvw_meta_core.specs.Fine.{Ensures, none_in_both, not_none, if_fine, also_fine}
use Rattle.csvw_meta_inherited.specs.Inherited.{inherited}
use Rattle.csvw_meta.specs.Json.{json_of, without_bom}
use Rattle.csvw_meta_inherited.specs.Names.{inherited_names}
use Rattle.csvw_meta_notes.specs.Places.{place_of}
use Rattle.csvw_meta.specs.Group.{group_names}
use Rattle.csvw_meta.specs.References.{reference_faults, schema_faults, table_at, table_faults, targets}
use Rattle.csvw_meta.specs.Schema.{schema}
use Rattle.csvw_meta_core.specs.Several.{several}
use Rattle.csvw_meta.specs.Table.{no_table, table, table_of, table_others}
use Rattle.csvw_meta.specs.UrlAlone.{own_base, plain_document}
use Rattle.csvw_meta.specs.UsableContext.{usable_context}
use Rattle.csvw_meta.proofs.FineLemmas.{on_object_fine, needed_fine, optional_fine, several_fine}
use Rattle.csvw_meta.proofs.FitKeys.{DescribesAny, schema_resolves, tables_resolve}
use Rattle.csvw_meta.proofs.OverLemmas.{fine_if_read, over_fine}
use Rattle.csvw_meta.proofs.FitSchema.{DatatypesFit, IsFitFound, inherited_sound, pairs_apart, schema_fine}

-- ---- dialects and bodies

abbrev HasFitDialect : DialectFound → Type 0
HasFitDialect found = IsFitDialect found.dialect

-- the law of csvw_meta_inherited: a dialect without a fault is lawful
abbrev DialectsFit : Type 0
DialectsFit = (context : Context) (table : ℕ) (at : List ℕ) (d : Data) → Ensures (dialect context table at d) HasFitDialect

abbrev IsFitGiven : DialectGiven → Type 0
IsFitGiven given = IfSome given.dialect IsFitDialect

split_fine : (warnings : List Fault) (found : Option DialectFound) → IfSome found HasFitDialect → IsFitGiven (split warnings found)
split_fine warnings None h = tt
split_fine warnings (Some found) h = h

given_dialect_fine : (dialects : DialectsFit) (context : Context) (table : ℕ) (warnings : List Fault) (at : List ℕ) (d : Data)
    → Ensures (given_dialect context table warnings at d) IsFitGiven
unfolding given_dialect
given_dialect_fine dialects context table warnings at d h =
    split_fine warnings (optional (dialect context table) at d (codes "dialect")).value
    (optional_fine HasFitDialect (dialect context table) (dialects context table) at d (codes "dialect") h)

record IsFitBody (b : Body) : Type 0 where
  pub schema : IfSome b.schema IsFitSchema
  pub keys : DescribesAny b.schema b.keys
  pub inherited : HasSound b.inherited

body_of_fine : (schema : Option SchemaFound) (found : InheritedFound) → IfSome schema IsFitFound → HasSound found.inherited → IsFitBody (body_of schema found)
body_of_fine None found fit sound = record { schema = tt; keys = tt; inherited = sound }
body_of_fine (Some schema) found fit sound = record { schema = fit.schema; keys = fit.keys; inherited = sound }

-- ---- the parts of groups

record IsFitTableFound (t : TableFound) : Type 0 where
  pub table : IsFitTable t.table
  pub keys : DescribesAny t.table.schema t.keys

record AreFitTables (ts : List TableFound) : Type 0 where
  pub tables : All IsFitTableFound ts
  pub limit : length ts ≤ 64
  pub urls : AllPairs (λ x y. x ≢ y) (map url_of ts)

tables_fit : (at : List ℕ) (ts : List TableFound) → All IsFitTableFound ts × (length ts ≤ 64) → url_faults at [] ts ≡ [] → AreFitTables ts
tables_fit at ts fit h = record {
  tables = fit.0;
  limit = fit.1;
  urls = pairs_apart (λ i. record { code = DuplicateTable; pointer = below (item_at at i) (codes "url") }) [] 0 (map url_of ts) h;
}

record IsFitGroup (g : GroupFound) : Type 0 where
  pub dialect : IsFitGiven g.given
  pub body : IsFitBody g.body
  pub tables : AreFitTables g.tables

same_urls : (targets : List Target) (ts : List TableFound) → map url_of ts ≡ map (λ t. iri_of t.url) (map (linked_table targets) ts)
same_urls targets [] = refl
same_urls targets (t ∷ ts) = ap (λ us. url_of t ∷ us) (same_urls targets ts)

-- Its foreign keys don't matter.
linked_fit : (targets : List Target) (schema : Option Schema) (keys : Option KeysFound) → IfSome schema IsFitSchema
    → IfSome (linked targets schema keys) IsFitSchema
linked_fit targets None keys fit = tt
linked_fit targets (Some schema) None fit = fit
linked_fit targets (Some schema) (Some keys) fit =
    record { limit = fit.limit; inherited = fit.inherited; datatypes = fit.datatypes; names = fit.names }

table_fit : (targets : List Target) (t : TableFound) → IsFitTableFound t → IsFitTable (linked_table targets t)
table_fit targets t fit = record {
  dialect = fit.table.dialect;
  inherited = fit.table.inherited;
  schema = linked_fit targets t.table.schema t.keys fit.table.schema;
}

-- What a group describes whose keys name what is there can be planned by.
plannable : (place : ℕ → List ℕ) (at : List ℕ) (g : GroupFound) → IsFitGroup g → reference_faults place at [] g ≡ [] → IsPlannable (description_of g)
plannable place at g fit h =
    let parts = none_in_both (schema_faults all_known (targets g) g.body.schema g.body.keys) (table_faults (λ i schema. all_known) (targets g) 0 g.tables) h in
    let tables = fit.tables.tables in
    let count = fit.tables.limit in
    record {
      dialect = fit.dialect;
      inherited = fit.body.inherited;
      schema = linked_fit (targets g) g.body.schema g.body.keys fit.body.schema;
      limit = omega (arith, count, length-map g.tables (linked_table (targets g)));
      tables =
          All-map IsFitTable (linked_table (targets g)) g.tables
          (All-weaker IsFitTableFound (λ t. IsFitTable (linked_table (targets g) t)) (table_fit (targets g)) g.tables tables);
      urls = subst (AllPairs (λ x y. x ≢ y)) (same_urls (targets g) g.tables) fit.tables.urls;
      keys = schema_resolves g g.body.schema g.body.keys fit.body.keys parts.0;
      table_keys =
          tables_resolve g 0 g.tables (All-weaker IsFitTableFound (λ t. DescribesAny t.table.schema t.keys) (λ t f. f.keys) g.tables tables) parts.1;
    }

-- ---- from bodies to documents

module _ (datatypes : DatatypesFit) (dialects : DialectsFit) where
  body_fine : (context : Context) (table : ℕ) (at : List ℕ) (d : Data) → Ensures (body context table at d) IsFitBody
  unfolding body
  body_fine context table at d h =
      let p1 = none_in_both (inherited context table 0 at d).faults _ h in
      let p2 = none_in_both (optional (schema context table) at d (codes "tableSchema")).faults _ p1.1 in
      body_of_fine (optional (schema context table) at d (codes "tableSchema")).value (inherited context table 0 at d).value
      (optional_fine IsFitFound (schema context table) (schema_fine datatypes context table) at d (codes "tableSchema") p2.0)
      (inherited_sound datatypes context table 0 at d)

  table_of_fine : (context : Context) (sole : Bool) (number : ℕ) (at : List ℕ) (d : Data) → Ensures (table_of context sole number at d) IsFitTableFound
  unfolding table_of
  table_of_fine context sole number at d h =
      let warnings = table_others sole number at d in
      let p1 = none_in_both (optional (fixed (codes "Table")) at d (codes "@type")).faults _ h in
      let p2 = none_in_both (all_notes context.base context.language at d).faults _ p1.1 in
      let p3 = none_in_both (property truth false at d (codes "suppressOutput")).faults _ p2.1 in
      let p4 = none_in_both warnings.faults _ p3.1 in
      let p5 = none_in_both (needed (url context.base) no_url at d (codes "url")).faults _ p4.1 in
      let p6 = none_in_both (optional (id context.base) at d (codes "@id")).faults _ p5.1 in
      let p7 = none_in_both (given_dialect context number warnings.value at d).faults _ p6.1 in
      let p8 = none_in_both (body context number at d).faults _ p7.1 in
      let given = given_dialect_fine dialects context number warnings.value at d p7.0 in
      let rest = body_fine context number at d p8.0 in
      record { table = record { dialect = given; schema = rest.schema; inherited = rest.inherited }; keys = rest.keys }

  table_fine : (context : Context) (number : ℕ) (at : List ℕ) (d : Data) → Ensures (table context number at d) IsFitTableFound
  table_fine context number at d = on_object_fine IsFitTableFound at d no_table (table_of context false number at d) (table_of_fine context false number at d)

  tables_fine : (context : Context) (at : List ℕ) (d : Data) → Ensures (tables context at d) AreFitTables
  tables_fine context at d =
      also_fine (λ ts. All IsFitTableFound ts × (length ts ≤ 64)) AreFitTables (several 1 64 (table context) at d) (url_faults at)
      (several_fine IsFitTableFound (table context) (table_fine context) 1 64 at d) (tables_fit at)

  group_fine : (context : Context) (at : List ℕ) (d : Data) → Ensures (group context at d) IsFitGroup
  unfolding group
  group_fine context at d h =
      let warnings = all_warnings (group_names ++ inherited_names) (place_of 0 0) at d in
      let p1 = none_in_both (optional (fixed (codes "TableGroup")) at d (codes "@type")).faults _ h in
      let p2 = none_in_both (all_notes context.base context.language at d).faults _ p1.1 in
      let p3 = none_in_both warnings.faults _ p2.1 in
      let p4 = none_in_both (needed (tables context) [] at d (codes "tables")).faults _ p3.1 in
      let p5 = none_in_both (optional (id context.base) at d (codes "@id")).faults _ p4.1 in
      let p6 = none_in_both (given_dialect context 0 warnings.value at d).faults _ p5.1 in
      let p7 = none_in_both (body context 0 at d).faults _ p6.1 in
      record {
        dialect = given_dialect_fine dialects context 0 warnings.value at d p6.0;
        body = body_fine context 0 at d p7.0;
        tables = needed_fine AreFitTables (tables context) (tables_fine context) [] at d (codes "tables") p4.0;
      }

  sole_fine : (context : Context) (at : List ℕ) (d : Data) → Ensures (sole_table context at d) IsFitGroup
  sole_fine context at d h =
      let t = (table_of context true 1 at d).value in
      record {
        dialect = tt;
        body = record { schema = tt; keys = tt; inherited = tt };
        tables = record {
          tables = All-cons IsFitTableFound t [] (table_of_fine context true 1 at d h) (λ k e lt. absurd (omega (arith, lt)));
          limit = omega arith;
          urls = λ i j u less lt. absurd (omega (arith, less, lt));
        };
      }

  parts_fine : (context : Context) (at : List ℕ) (d : Data) → Ensures (parts context at d) IsFitGroup
  parts_fine context at d =
      if_fine IsFitGroup (is_some (get (codes "tables") d)) (group context at d) (sole_table context at d)
      (λ b. group_fine context at d) (λ b. sole_fine context at d)

  within_fine : (context : Context) (at : List ℕ) (d : Data) → Ensures (within context at d) IsPlannable
  within_fine context at d =
      let place = table_at (is_some (get (codes "tables") d)) at in
      also_fine IsFitGroup (λ g. IsPlannable (description_of g)) (parts context at d) (reference_faults place at) (parts_fine context at d) (plannable place at)

  described_fine : (profile : Profile) (base : Parts) (at : List ℕ) (d : Data) → Ensures (described profile base at d) IsPlannable
  described_fine profile base at (json.object ms) h =
      let d = json.object ms in
      let c = in_profile profile (usable_context base at d) in
      within_fine c at d (none_in_both (context base at d).faults (within c at d).faults h).1
  described_fine profile base at json.null h = absurd (not_none _ _ h)
  described_fine profile base at (json.boolean b) h = absurd (not_none _ _ h)
  described_fine profile base at (json.number n) h = absurd (not_none _ _ h)
  described_fine profile base at (json.string s) h = absurd (not_none _ _ h)
  described_fine profile base at (json.array ds) h = absurd (not_none _ _ h)

  of_json_fine : (profile : Profile) (base : Parts) (o : Option Data) → Ensures (of_json profile base o) IsPlannable
  of_json_fine profile base None h = absurd (not_none _ _ h)
  of_json_fine profile base (Some d) h = described_fine profile base [] d h

  judged_fine : (x : Document) → Ensures (judged x) IsPlannable
  unfolding judged
  judged_fine (document_by profile url bytes) =
      over_fine no_group (λ t. of_short profile url bytes) IsPlannable
      (λ t. over_fine no_group (λ base. of_bytes profile base bytes) IsPlannable (λ base. of_json_fine profile base (json_of (without_bom bytes)))
      (own_url url)) (length_of bytes)
  judged_fine (plain_description url) =
      over_fine no_group (λ base. described Core base [] (plain_document url)) IsPlannable
      (λ base. described_fine Core base [] (plain_document url)) (own_base [] url)

  pub group_plannable : (x : Document) (d : Description) → group_in x ≡ Some d → IsPlannable d
  group_plannable x = fine_if_read IsPlannable (judged x) (judged_fine x)
