-- A schema in a document without faults has no more columns than the limit, and no two columns of the same name.
use Rattle.std.proofs.Common.{◌≡◌, ◌≢◌, ◌≤◌, ◌+◌, ℕ, List, [], ◌∷◌, ◌++◌, ◌||◌, Bool, true, false, refl, sym, ap, ◌∙◌, subst, arith, length, append_assoc}
use Rattle.std.proofs.Common.{All, AllPairs, IfSome, Option, Some, None, bytes_eq, codes, if◌then◌else◌}
use Rattle.std.specs.List.{list_any}
use Rattle.std.proofs.lemmas.List.Elements.{All-cons, All-head, All-tail}
use Rattle.std.proofs.lemmas.List.Folds.{list_any-append}
use Rattle.std.proofs.lemmas.List.Kept.{AllPairs-cons}
use Rattle.std.proofs.lemmas.Slice.Eq.{bytes_eq-Decides}
use Rattle.serde_json.specs.Data.{Data}
use Rattle.serde_json.specs.Find.{get}
use Rattle.url.specs.Parts.{Parts}
use Rattle.csvw_fault.specs.declared.fault.Place.{Place}
use Rattle.csvw_datatype.specs.Sound.{IsSound}
use Rattle.csvw_description.specs.declared.column.ColumnDescription.{ColumnDescription}
use Rattle.csvw_description.specs.declared.schema.Schema.{Schema}
use Rattle.csvw_description.specs.Name.{name_of, numbered_names}
use Rattle.csvw_description.specs.Plannable.{HasSound, IsFitSchema}
use Rattle.csvw_meta_core.specs.declared.fault.MetaCode.TheVariants.{DuplicateName}
use Rattle.csvw_meta_core.specs.declared.fault.MetaFault.{MetaFault}
use Rattle.csvw_meta_core.specs.Pointer.{below, item_at}
use Rattle.csvw_meta_core.specs.Read.{Read, given, under, property, optional}
use Rattle.csvw_meta_core.specs.Kinds.{fixed}
use Rattle.csvw_meta_core.specs.Links.{id}
use Rattle.csvw_meta_notes.specs.Unlisted.{unlisted}
use Rattle.csvw_meta_datatype.specs.declared.form.DatatypeFound.{DatatypeFound}
use Rattle.csvw_meta_datatype.specs.Datatypes.{datatype}
use Rattle.csvw_meta_keys.specs.declared.keys.KeysFound.{KeysFound}
use Rattle.csvw_meta_keys.specs.Described.{names_of}
use Rattle.csvw_meta_keys.specs.Keys.{keys}
use Rattle.csvw_meta_core.specs.declared.context.Context.{Context}
use Rattle.csvw_meta_core.specs.declared.profile.Profile.{Profile}
use Rattle.csvw_meta.specs.declared.schema.SchemaFound.{SchemaFound}
use Rattle.csvw_meta.specs.Column.{column, column_of, no_column}
use Rattle.csvw_meta_inherited.specs.Datatype.{given_datatype, split}
use Rattle.csvw_meta_core.specs.Fine.{Ensures, none_in_both, also_fine, on_linked_fine, property_fine}
use Rattle.csvw_meta_inherited.specs.Inherited.{inherited}
use Rattle.csvw_meta_inherited.specs.Names.{inherited_names}
use Rattle.csvw_meta_notes.specs.Places.{place_of}
use Rattle.csvw_meta.specs.Schema.{schema_names, with_row_title, with_row_titles}
use Rattle.csvw_meta.specs.Repeated.{repeated}
use Rattle.csvw_meta.specs.Schema.{columns, column_faults, order_faults, name_faults, no_schema, schema, schema_of}
use Rattle.csvw_meta_core.specs.Several.{several}
use Rattle.csvw_meta.proofs.FineLemmas.{on_object_fine, several_fine}

-- ---- texts of which none repeats an earlier one

none_alike : (b : Bool) (fault : MetaFault) → (if b then fault ∷ [] else []) ≡ [] → b ≡ false
none_alike true fault h = cc
none_alike false fault h = refl

middle_true : (a b : Bool) → (a || (true || b)) ≡ true
middle_true true b = refl
middle_true false b = refl

middle_apart : (before after : List (List ℕ)) (x t : List ℕ) → list_any (λ u. bytes_eq u t) (before ++ x ∷ after) ≡ false → x ≢ t
middle_apart before after x t none e =
    let here : bytes_eq x t ≡ true = (bytes_eq-Decides x t).1 e in
    let parts : (list_any (λ u. bytes_eq u t) before || (bytes_eq x t || list_any (λ u. bytes_eq u t) after)) ≡ false =
    sym (list_any-append (λ u. bytes_eq u t) before (x ∷ after)) ∙ none in
    let wrong : true ≡ false = sym (middle_true (list_any (λ u. bytes_eq u t) before) (list_any (λ u. bytes_eq u t) after)) ∙ rw here at parts in
    cc

module _ (fault : ℕ → MetaFault) where
  alike : (before : List (List ℕ)) (i : ℕ) (t : List ℕ) (ts : List (List ℕ)) → repeated (λ n. true) fault before i (t ∷ ts) ≡ []
      → (list_any (λ u. bytes_eq u t) before ≡ false) × (repeated (λ n. true) fault (before ++ t ∷ []) (i + 1) ts ≡ [])
  alike before i t ts h =
      let here = list_any (λ u. bytes_eq u t) before in
      let parts = none_in_both (if here then fault i ∷ [] else []) _ h in
      (none_alike here (fault i) parts.0, parts.1)

  all_apart : (before after : List (List ℕ)) (x : List ℕ) (i : ℕ) (ts : List (List ℕ)) → repeated (λ n. true) fault (before ++ x ∷ after) i ts ≡ []
      → All (λ y. x ≢ y) ts
  all_apart before after x i [] h = λ k d lt. absurd (omega (arith, lt))
  all_apart before after x i (t ∷ ts) h =
      let parts = alike (before ++ x ∷ after) i t ts h in
      let rest : repeated (λ n. true) fault (before ++ x ∷ (after ++ t ∷ [])) (i + 1) ts ≡ [] =
      subst (λ us. repeated (λ n. true) fault us (i + 1) ts ≡ []) (append_assoc before (x ∷ after) (t ∷ [])) parts.1 in
      All-cons (λ y. x ≢ y) t ts (middle_apart before after x t parts.0) (all_apart before (after ++ t ∷ []) x (i + 1) ts rest)

  pub pairs_apart : (before : List (List ℕ)) (i : ℕ) (ts : List (List ℕ)) → repeated (λ n. true) fault before i ts ≡ [] → AllPairs (λ x y. x ≢ y) ts
  pairs_apart before i [] h = λ i j d less lt. absurd (omega (arith, lt))
  pairs_apart before i (t ∷ ts) h =
      let rest = (alike before i t ts h).1 in
      AllPairs-cons (λ x y. x ≢ y) t ts (all_apart before [] t (i + 1) ts rest) (pairs_apart (before ++ t ∷ []) (i + 1) ts rest)

-- ---- columns

optional_value : {A : Type 0} (P : A → Type 0) (reads : List ℕ → Data → Read A) → ((at : List ℕ) (d : Data) → P (reads at d).value)
    → (at : List ℕ) (o : Option Data) → IfSome (given (λ p v. under Some (reads p v)) None at o).value P
optional_value P reads each at None = tt
optional_value P reads each at (Some d) = each at d

split_sound : (found : Option DatatypeFound) → IfSome found (λ f. IsSound f.datatype) → IfSome (split found).datatype IsSound
split_sound None h = tt
split_sound (Some found) h = h

abbrev IsSoundColumn : ColumnDescription → Type 0
IsSoundColumn c = HasSound c.inherited

record AreFitColumns (cs : List ColumnDescription) : Type 0 where
  pub sound : All IsSoundColumn cs
  pub count : length cs ≤ 1024
  pub names : AllPairs (λ x y. x ≢ y) (numbered_names 0 cs)

abbrev AreSeveral : List ColumnDescription → Type 0
AreSeveral cs = All IsSoundColumn cs × (length cs ≤ 1024)

named_fine : (at : List ℕ) (cs : List ColumnDescription) → AreSeveral cs → name_faults at [] cs ≡ [] → AreFitColumns cs
named_fine at cs several h = record {
  sound = several.0;
  count = several.1;
  names = pairs_apart (λ i. record { code = DuplicateName; pointer = item_at at i }) [] 0 (numbered_names 0 cs) h;
}

no_columns : AreFitColumns []
no_columns = record { sound = λ k d lt. absurd (omega (arith, lt)); count = omega arith; names = λ i j d less lt. absurd (omega (arith, lt)) }

-- ---- columns whose values are titles of their rows

-- The names and the number of the columns stay the same, and so do their datatypes.
titled_names : (names : List (List ℕ)) (i : ℕ) (cs : List ColumnDescription) → numbered_names i (with_row_titles names i cs) ≡ numbered_names i cs
titled_names names i [] = refl
titled_names names i (c ∷ cs) = ap (λ ns. name_of (i + 1) c ∷ ns) (titled_names names (i + 1) cs)

titled_count : (names : List (List ℕ)) (i : ℕ) (cs : List ColumnDescription) → length (with_row_titles names i cs) ≡ length cs
titled_count names i [] = refl
titled_count names i (c ∷ cs) = let e = titled_count names (i + 1) cs in omega (arith, e)

titled_sound : (names : List (List ℕ)) (i : ℕ) (cs : List ColumnDescription) → All IsSoundColumn cs → All IsSoundColumn (with_row_titles names i cs)
titled_sound names i [] h = h
titled_sound names i (c ∷ cs) h =
    All-cons IsSoundColumn (with_row_title names (i + 1) c) (with_row_titles names (i + 1) cs) (All-head IsSoundColumn c cs h)
    (titled_sound names (i + 1) cs (All-tail IsSoundColumn c cs h))

titled_fit : (names : List (List ℕ)) (cs : List ColumnDescription) → AreFitColumns cs → AreFitColumns (with_row_titles names 0 cs)
titled_fit names cs fits = record {
  sound = titled_sound names 0 cs fits.sound;
  count = subst (λ n. n ≤ 1024) (sym (titled_count names 0 cs)) fits.count;
  names = subst (AllPairs (λ x y. x ≢ y)) (sym (titled_names names 0 cs)) fits.names;
}

-- ---- columns and schemas

-- The schema has the primary key that is found in it.
abbrev pub Describes : Schema → KeysFound → Type 0
Describes schema keys = schema.primary_key ≡ names_of keys.primary

pub record IsFitFound (found : SchemaFound) : Type 0 where
  pub schema : IsFitSchema found.schema
  pub keys : Describes found.schema found.keys

-- the law of csvw_meta_datatype: each datatype that is read fits together
abbrev pub DatatypesFit : Type 0
DatatypesFit = (profile : Profile) (against : Parts) (place : Place) (at : List ℕ) (d : Data)
    → IsSound (datatype profile against place at d).value.datatype

module _ (datatypes : DatatypesFit) where
  given_sound : (context : Context) (table column : ℕ) (at : List ℕ) (d : Data)
      → IfSome (given_datatype context table column at d).value.datatype IsSound
  unfolding given_datatype
  given_sound context table column at d =
      let place = place_of table column in
      split_sound (optional (datatype context.profile context.base place) at d (codes "datatype")).value
      (optional_value (λ f. IsSound f.datatype) (datatype context.profile context.base place) (datatypes context.profile context.base place) (below at (codes "datatype"))
      (get (codes "datatype") d))

  pub inherited_sound : (context : Context) (table column : ℕ) (at : List ℕ) (d : Data) → HasSound (inherited context table column at d).value.inherited
  unfolding inherited
  inherited_sound context table column at d = given_sound context table column at d

  column_of_fine : (context : Context) (table number : ℕ) (at : List ℕ) (d : Data) → Ensures (column_of context table number at d) IsSoundColumn
  unfolding column_of
  column_of_fine context table number at d h = inherited_sound context table number at d

  column_fine : (context : Context) (table number : ℕ) (at : List ℕ) (d : Data) → Ensures (column context table number at d) IsSoundColumn
  column_fine context table number at d =
      on_object_fine IsSoundColumn at d no_column (column_of context table number at d) (column_of_fine context table number at d)

  columns_fine : (context : Context) (table : ℕ) (at : List ℕ) (d : Data) → Ensures (columns context table at d) AreFitColumns
  columns_fine context table at d =
      also_fine AreSeveral AreFitColumns (several 0 1024 (column context table) at d) (column_faults at)
      (several_fine IsSoundColumn (column context table) (column_fine context table) 0 1024 at d)
      (λ cs several h. named_fine at cs several (none_in_both (name_faults at [] cs) (order_faults at [] cs) h).0)

  schema_of_fine : (context : Context) (table : ℕ) (at : List ℕ) (d : Data) → Ensures (schema_of context table at d) IsFitFound
  unfolding schema_of
  schema_of_fine context table at d h =
      let p1 = none_in_both (optional (id context.base) at d (codes "@id")).faults _ h in
      let p2 = none_in_both (optional (fixed (codes "Schema")) at d (codes "@type")).faults _ p1.1 in
      let p3 = none_in_both (unlisted context.base context.language (schema_names ++ inherited_names) (place_of table 0) at d).faults _ p2.1 in
      let p4 = none_in_both (property (columns context table) [] at d (codes "columns")).faults _ p3.1 in
      let all = property_fine AreFitColumns (columns context table) (columns_fine context table) [] no_columns at d (codes "columns") p4.0 in
      let own = (optional (id context.base) at d (codes "@id")).value in
      let titles = names_of (keys context.profile context.base (place_of table 0) own at d).value.row_titles in
      let fits = titled_fit titles (property (columns context table) [] at d (codes "columns")).value all in
      record {
        schema = record {
          limit = fits.count;
          inherited = inherited_sound context table 0 at d;
          datatypes = fits.sound;
          names = fits.names;
        };
        keys = refl;
      }

  pub schema_fine : (context : Context) (table : ℕ) (at : List ℕ) (d : Data) → Ensures (schema context table at d) IsFitFound
  schema_fine context table at d = on_linked_fine IsFitFound at d no_schema (schema_of context table at d) (schema_of_fine context table at d)
