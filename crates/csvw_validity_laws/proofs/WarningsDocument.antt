-- What is ignored in a document is reported only as warnings.
use Rattle.std.proofs.Common.{◌≡◌, ℕ, ◌+◌, List, [], ◌∷◌, ◌++◌, Bool, true, false, Option, Some, None, refl, subst, codes, if◌then◌else◌, IfSome, All, map}
use Rattle.std.proofs.Common.{flat_map, is_some}
use Rattle.std.proofs.lemmas.List.Elements.{All-cons, All-head, All-map, All-nil, All-tail, All-weaker}
use Rattle.serde_json.specs.Data.{Data}
use Rattle.serde_json.specs.Data as json
use Rattle.serde_json.specs.Find.{get}
use Rattle.url.specs.Parts.{Parts}
use Rattle.csvw_fault.specs.declared.fault.Fault.{Fault}
use Rattle.csvw_description.specs.Unknown.{in_schema, in_table, unknown}
use Rattle.csvw_description.specs.declared.column.ColumnDescription.{ColumnDescription}
use Rattle.csvw_description.specs.declared.description.Description.{Description}
use Rattle.csvw_description.specs.declared.schema.Schema.{Schema}
use Rattle.csvw_meta_core.specs.declared.fault.MetaFault.{MetaFault}
use Rattle.csvw_meta_core.specs.Links.{id, no_url}
use Rattle.csvw_meta_core.specs.Read.{Read, optional, over_faults, property}
use Rattle.csvw_meta_keys.specs.Described as described_keys
use Rattle.csvw_meta_keys.specs.Keys.{keys}
use Rattle.csvw_meta_keys.specs.declared.keys.KeysFound.{KeysFound}
use Rattle.csvw_meta_keys.specs.declared.naming.Target.{Target}
use Rattle.csvw_meta_notes.specs.Unlisted.{all_warnings, unlisted}
use Rattle.csvw_meta_datatype.specs.Datatypes.{datatype}
use Rattle.csvw_meta_datatype.specs.declared.form.DatatypeFound.{DatatypeFound}
use Rattle.csvw_meta.specs.Body.{body, body_of, given_dialect, split}
use Rattle.csvw_meta.specs.Column.{column, column_of, no_column}
use Rattle.csvw_meta_core.specs.Context.{context, in_profile}
use Rattle.csvw_meta_core.specs.declared.profile.Profile.{Profile}
use Rattle.csvw_meta_core.specs.declared.profile.Profile.TheVariants.{Core}
use Rattle.csvw_meta_inherited.specs.Datatype.{given_datatype}
use Rattle.csvw_meta_inherited.specs.Datatype as datatypes
use Rattle.csvw_meta.specs.Described.{described, group_of, parts, sole_table, within}
use Rattle.csvw_meta_dialect.specs.Dialect.{dialect, dialect_of, no_dialect}
use Rattle.csvw_meta.specs.Document.{Document, document_by, group_in, judged, length_of, of_bytes, of_json, of_short, own_url, plain_description}
use Rattle.csvw_meta.specs.ForeignKeys.{linked, linked_table}
use Rattle.csvw_meta.specs.Group.{description_of, group, no_group, tables}
use Rattle.csvw_meta.specs.References.{targets}
use Rattle.csvw_meta_inherited.specs.Inherited.{inherited}
use Rattle.csvw_meta.specs.IfRead.{unless}
use Rattle.csvw_meta.specs.Json.{json_of, without_bom}
use Rattle.csvw_meta_inherited.specs.Names.{inherited_names}
use Rattle.csvw_meta_notes.specs.Places.{place_of}
use Rattle.csvw_meta_dialect.specs.Dialect.{dialect_names}
use Rattle.csvw_meta.specs.Column.{column_names}
use Rattle.csvw_meta.specs.Group.{group_names}
use Rattle.csvw_meta.specs.Schema.{schema_names}
use Rattle.csvw_meta.specs.Table.{sole_table_names, table_names}
use Rattle.csvw_meta.specs.Schema.{columns, no_schema, schema, schema_of, with_row_title, with_row_titles}
use Rattle.csvw_meta_core.specs.Several.{several}
use Rattle.csvw_meta.specs.Table.{no_table, table, table_of, table_others}
use Rattle.csvw_meta.specs.UrlAlone.{own_base, plain_document}
use Rattle.csvw_meta.specs.UsableContext.{usable_context}
use Rattle.csvw_validity_laws.proofs.Quiet.{Quiet, quiet_flat, quiet_join}
use Rattle.csvw_validity_laws.proofs.WarningsRead.{IsQuietDatatype, TypeOf, all_quiet, datatype_quiet, each_value, keys_quiet, linked_value}
use Rattle.csvw_validity_laws.proofs.WarningsRead.{needed_value, object_value, optional_value, property_value, unlisted_quiet}

-- ---- what is read of the parts of a document

abbrev Context : Type 0
Context = TypeOf (context no_url [] json.null).value

abbrev InheritedFound : Type 0
InheritedFound = TypeOf (inherited (context no_url [] json.null).value 0 0 [] json.null).value

abbrev SchemaFound : Type 0
SchemaFound = TypeOf no_schema

abbrev DialectFound : Type 0
DialectFound = TypeOf no_dialect

abbrev Body : Type 0
Body = TypeOf (body (context no_url [] json.null).value 0 [] json.null).value

abbrev TableFound : Type 0
TableFound = TypeOf no_table

abbrev GroupFound : Type 0
GroupFound = TypeOf (group_of no_table)

-- ---- arrays of a limited number of items

several_value : {A : Type 0} (P : A → Type 0) (least most : ℕ) (reads : ℕ → List ℕ → Data → Read A)
    → ((n : ℕ) (at : List ℕ) (d : Data) → P (reads n at d).value) → (at : List ℕ) (d : Data) → All P (several least most reads at d).value
several_value P least most reads each at (json.array ds) = each_value P reads each at 0 ds
several_value P least most reads each at json.null = All-nil P
several_value P least most reads each at (json.boolean b) = All-nil P
several_value P least most reads each at (json.number n) = All-nil P
several_value P least most reads each at (json.string s) = All-nil P
several_value P least most reads each at (json.object ms) = All-nil P

-- ---- columns and schemas

split_quiet : (found : Option DatatypeFound) → IfSome found IsQuietDatatype → Quiet (datatypes.split found).warnings
split_quiet None q = refl
split_quiet (Some found) q = q

given_datatype_quiet : (context : Context) (table column : ℕ) (at : List ℕ) (d : Data) → Quiet (given_datatype context table column at d).value.warnings
unfolding given_datatype
given_datatype_quiet context table column at d =
    let place = place_of table column in
    split_quiet (optional (datatype context.profile context.base place) at d (codes "datatype")).value
    (optional_value IsQuietDatatype (datatype context.profile context.base place) (datatype_quiet context.profile context.base place) at d (codes "datatype"))

inherited_quiet : (context : Context) (table column : ℕ) (at : List ℕ) (d : Data) → Quiet (inherited context table column at d).value.warnings
unfolding inherited
inherited_quiet context table column at d = given_datatype_quiet context table column at d

abbrev IsQuietColumn : ColumnDescription → Type 0
IsQuietColumn column = Quiet column.warnings

column_of_quiet : (context : Context) (table number : ℕ) (at : List ℕ) (d : Data) → IsQuietColumn (column_of context table number at d).value
unfolding column_of
column_of_quiet context table number at d =
    let names = column_names ++ inherited_names in
    let place = place_of table number in
    quiet_join (inherited context table number at d).value.warnings (unlisted context.base context.language names place at d).value
    (inherited_quiet context table number at d) (unlisted_quiet context.base context.language names place at d)

column_quiet : (context : Context) (table number : ℕ) (at : List ℕ) (d : Data) → IsQuietColumn (column context table number at d).value
column_quiet context table number at d =
    object_value IsQuietColumn at d no_column (column_of context table number at d) refl (column_of_quiet context table number at d)

columns_quiet : (context : Context) (table : ℕ) (at : List ℕ) (d : Data) → All IsQuietColumn (columns context table at d).value
columns_quiet context table at d = several_value IsQuietColumn 0 1024 (column context table) (column_quiet context table) at d

-- The warnings on a column stay the same, whether its values are titles of their rows or not.
titled_quiet : (names : List (List ℕ)) (i : ℕ) (cs : List ColumnDescription) → All IsQuietColumn cs → All IsQuietColumn (with_row_titles names i cs)
titled_quiet names i [] q = q
titled_quiet names i (c ∷ cs) q =
    All-cons IsQuietColumn (with_row_title names (i + 1) c) (with_row_titles names (i + 1) cs) (All-head IsQuietColumn c cs q)
    (titled_quiet names (i + 1) cs (All-tail IsQuietColumn c cs q))

abbrev IsQuietSchema : SchemaFound → Type 0
IsQuietSchema found = Quiet (in_schema (Some found.schema))

schema_of_quiet : (context : Context) (table : ℕ) (at : List ℕ) (d : Data) → IsQuietSchema (schema_of context table at d).value
unfolding schema_of
schema_of_quiet context table at d =
    let names = schema_names ++ inherited_names in
    let place = place_of table 0 in
    let ignored = (unlisted context.base context.language names place at d).value in
    let found = (inherited context table 0 at d).value in
    let own = found.warnings ++ ignored in
    let iri = (optional (id context.base) at d (codes "@id")).value in
    let ks = (keys context.profile context.base place iri at d).value in
    let of_keys = described_keys.all_warnings ks.foreign in
    let read = (property (columns context table) [] at d (codes "columns")).value in
    let titles = described_keys.names_of ks.row_titles in
    let cs = with_row_titles titles 0 read in
    quiet_join (own ++ of_keys) (flat_map (λ (c : ColumnDescription). c.warnings) cs)
    (quiet_join own of_keys
    (quiet_join found.warnings ignored (inherited_quiet context table 0 at d) (unlisted_quiet context.base context.language names place at d))
    (keys_quiet context.profile context.base place iri at d))
    (quiet_flat (λ (c : ColumnDescription). c.warnings) cs
    (titled_quiet titles 0 read
    (property_value (All IsQuietColumn) (columns context table) (columns_quiet context table) [] (All-nil IsQuietColumn) at d (codes "columns"))))

schema_quiet : (context : Context) (table : ℕ) (at : List ℕ) (d : Data) → IsQuietSchema (schema context table at d).value
schema_quiet context table at d = linked_value IsQuietSchema at d no_schema (schema_of context table at d) refl (schema_of_quiet context table at d)

-- ---- dialects

abbrev IsQuietDialect : DialectFound → Type 0
IsQuietDialect found = Quiet found.warnings

dialect_of_quiet : (context : Context) (table : ℕ) (at : List ℕ) (d : Data) → IsQuietDialect (dialect_of context table at d).value
unfolding dialect_of
dialect_of_quiet context table at d = unlisted_quiet context.base context.language (dialect_names ++ []) (place_of table 0) at d

dialect_quiet : (context : Context) (table : ℕ) (at : List ℕ) (d : Data) → IsQuietDialect (dialect context table at d).value
dialect_quiet context table at d = linked_value IsQuietDialect at d no_dialect (dialect_of context table at d) refl (dialect_of_quiet context table at d)

split_dialect_quiet : (warnings : List Fault) (found : Option DialectFound) → Quiet warnings → IfSome found IsQuietDialect
    → Quiet (split warnings found).warnings
split_dialect_quiet warnings None q found_q = q
split_dialect_quiet warnings (Some found) q found_q = quiet_join found.warnings warnings found_q q

given_dialect_quiet : (context : Context) (table : ℕ) (warnings : List Fault) → Quiet warnings → (at : List ℕ) (d : Data)
    → Quiet (given_dialect context table warnings at d).value.warnings
unfolding given_dialect
given_dialect_quiet context table warnings q at d =
    split_dialect_quiet warnings (optional (dialect context table) at d (codes "dialect")).value q
    (optional_value IsQuietDialect (dialect context table) (dialect_quiet context table) at d (codes "dialect"))

-- ---- bodies, tables and groups

record IsQuietBody (b : Body) : Type 0 where
  schema : Quiet (in_schema b.schema)
  warnings : Quiet b.warnings

body_of_quiet : (schema : Option SchemaFound) (found : InheritedFound) → IfSome schema IsQuietSchema → Quiet found.warnings → IsQuietBody (body_of schema found)
body_of_quiet None found schema_q q = record { schema = refl; warnings = q }
body_of_quiet (Some schema) found schema_q q = record { schema = schema_q; warnings = q }

body_quiet : (context : Context) (table : ℕ) (at : List ℕ) (d : Data) → IsQuietBody (body context table at d).value
unfolding body
body_quiet context table at d =
    body_of_quiet (optional (schema context table) at d (codes "tableSchema")).value (inherited context table 0 at d).value
    (optional_value IsQuietSchema (schema context table) (schema_quiet context table) at d (codes "tableSchema"))
    (inherited_quiet context table 0 at d)

table_others_quiet : (sole : Bool) (number : ℕ) (at : List ℕ) (d : Data) → Quiet (table_others sole number at d).value
table_others_quiet true number at d = all_quiet (sole_table_names ++ inherited_names) (place_of 1 0) at d
table_others_quiet false number at d = all_quiet (table_names ++ inherited_names) (place_of number 0) at d

abbrev IsQuietTable : TableFound → Type 0
IsQuietTable found = Quiet (in_table found.table)

table_of_quiet : (context : Context) (sole : Bool) (number : ℕ) (at : List ℕ) (d : Data) → IsQuietTable (table_of context sole number at d).value
unfolding table_of
table_of_quiet context sole number at d =
    let ignored = (table_others sole number at d).value in
    let given = (given_dialect context number ignored at d).value in
    let rest = (body context number at d).value in
    let rest_q = body_quiet context number at d in
    quiet_join (rest.warnings ++ given.warnings) (in_schema rest.schema)
    (quiet_join rest.warnings given.warnings rest_q.warnings
    (given_dialect_quiet context number ignored (table_others_quiet sole number at d) at d))
    rest_q.schema

table_quiet : (context : Context) (number : ℕ) (at : List ℕ) (d : Data) → IsQuietTable (table context number at d).value
table_quiet context number at d =
    object_value IsQuietTable at d no_table (table_of context false number at d) refl (table_of_quiet context false number at d)

tables_quiet : (context : Context) (at : List ℕ) (d : Data) → All IsQuietTable (tables context at d).value
tables_quiet context at d = several_value IsQuietTable 1 64 (table context) (table_quiet context) at d

record IsQuietGroup (g : GroupFound) : Type 0 where
  given : Quiet g.given.warnings
  body : IsQuietBody g.body
  tables : All IsQuietTable g.tables

group_quiet : (context : Context) (at : List ℕ) (d : Data) → IsQuietGroup (group context at d).value
unfolding group
group_quiet context at d =
    let names = group_names ++ inherited_names in
    let place = place_of 0 0 in
    record {
      given = given_dialect_quiet context 0 (all_warnings names place at d).value (all_quiet names place at d) at d;
      body = body_quiet context 0 at d;
      tables = needed_value (All IsQuietTable) (tables context) (tables_quiet context) [] (All-nil IsQuietTable) at d (codes "tables");
    }

sole_quiet : (context : Context) (at : List ℕ) (d : Data) → IsQuietGroup (sole_table context at d).value
sole_quiet context at d = record {
  given = refl;
  body = record { schema = refl; warnings = refl };
  tables = All-cons IsQuietTable (table_of context true 1 at d).value [] (table_of_quiet context true 1 at d) (All-nil IsQuietTable);
}

-- ---- descriptions

abbrev IsQuiet : Description → Type 0
IsQuiet d = Quiet (unknown d)

-- The foreign keys of a schema have no warnings of their own.
linked_quiet : (to : List Target) (schema : Option Schema) (keys : Option KeysFound) → Quiet (in_schema schema) → Quiet (in_schema (linked to schema keys))
linked_quiet to None keys q = q
linked_quiet to (Some schema) None q = q
linked_quiet to (Some schema) (Some keys) q = q

same_warnings : (to : List Target) (schema : Option Schema) (keys : Option KeysFound) → in_schema schema ≡ in_schema (linked to schema keys)
same_warnings to None keys = refl
same_warnings to (Some schema) None = refl
same_warnings to (Some schema) (Some keys) = refl

table_linked : (to : List Target) (t : TableFound) → IsQuietTable t → Quiet (in_table (linked_table to t))
table_linked to t q = subst (λ fs. Quiet (t.table.warnings ++ fs)) (same_warnings to t.table.schema t.keys) q

description_quiet : (g : GroupFound) → IsQuietGroup g → IsQuiet (description_of g)
description_quiet g q =
    let own = g.body.warnings ++ g.given.warnings in
    let to = targets g in
    let schema = linked to g.body.schema g.body.keys in
    quiet_join (own ++ in_schema schema) (flat_map in_table (map (linked_table to) g.tables))
    (quiet_join own (in_schema schema) (quiet_join g.body.warnings g.given.warnings q.body.warnings q.given)
    (linked_quiet to g.body.schema g.body.keys q.body.schema))
    (quiet_flat in_table (map (linked_table to) g.tables)
    (All-map (λ t. Quiet (in_table t)) (linked_table to) g.tables
    (All-weaker IsQuietTable (λ t. Quiet (in_table (linked_table to t))) (table_linked to) g.tables q.tables)))

either_quiet : (b : Bool) (r s : Read GroupFound) → IsQuietGroup r.value → IsQuietGroup s.value → IsQuietGroup (if b then r else s).value
either_quiet true r s p q = p
either_quiet false r s p q = q

within_quiet : (context : Context) (at : List ℕ) (d : Data) → IsQuiet (within context at d).value
within_quiet context at d =
    description_quiet (parts context at d).value
    (either_quiet (is_some (get (codes "tables") d)) (group context at d) (sole_table context at d) (group_quiet context at d) (sole_quiet context at d))

-- ---- documents

described_quiet : (profile : Profile) (base : Parts) (at : List ℕ) (d : Data) → IsQuiet (described profile base at d).value
described_quiet profile base at (json.object ms) = within_quiet (in_profile profile (usable_context base at (json.object ms))) at (json.object ms)
described_quiet profile base at json.null = refl
described_quiet profile base at (json.boolean b) = refl
described_quiet profile base at (json.number n) = refl
described_quiet profile base at (json.string s) = refl
described_quiet profile base at (json.array ds) = refl

json_quiet : (profile : Profile) (base : Parts) (o : Option Data) → IsQuiet (of_json profile base o).value
json_quiet profile base None = refl
json_quiet profile base (Some d) = described_quiet profile base [] d

over_quiet : {A : Type 0} (faults : List MetaFault) (a : A) (next : A → Read Description) → ((a : A) → IsQuiet (next a).value)
    → IsQuiet (over_faults no_group faults a next).value
over_quiet [] a next q = q a
over_quiet (f ∷ fs) a next q = refl

judged_quiet : (x : Document) → IsQuiet (judged x).value
unfolding judged
judged_quiet (document_by profile url bytes) =
    over_quiet (length_of bytes).faults (length_of bytes).value (λ t. of_short profile url bytes)
    (λ t. over_quiet (own_url url).faults (own_url url).value (λ base. of_bytes profile base bytes)
    (λ base. json_quiet profile base (json_of (without_bom bytes))))
judged_quiet (plain_description url) =
    over_quiet (own_base [] url).faults (own_base [] url).value (λ base. described Core base [] (plain_document url))
    (λ base. described_quiet Core base [] (plain_document url))

quiet_unless : (faults : List MetaFault) (d description : Description) → IsQuiet d → unless faults d ≡ Some description → IsQuiet description
quiet_unless [] d description q e = let same : d ≡ description = cc in subst IsQuiet same q
quiet_unless (f ∷ fs) d description q e = cc

-- if there is a group, what is described is quiet
pub documents_warn : (x : Document) (description : Description) → group_in x ≡ Some description → IsQuiet description
documents_warn x description = quiet_unless (judged x).faults (judged x).value description (judged_quiet x)
