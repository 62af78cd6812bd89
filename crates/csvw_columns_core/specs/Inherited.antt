-- The value of an inherited property: the first that is present, read from the column outwards, else the default
-- (Metadata Vocabulary for Tabular Data, section 5.7).
use Rattle.std.specs.Prelude.{◌≡◌, ℕ, List, [], ◌∷◌, Option, Some, None, false, codes, unwrap_or}
use Rattle.csvw_datatype.specs.Breaks.{no_facets}
use Rattle.csvw_datatype.specs.declared.datatype.Datatype.{Datatype}
use Rattle.csvw_datatype.specs.declared.simple.Simple.TheVariants as simple
use Rattle.csvw_description.specs.declared.inherited.Inherited.{Inherited}
use Rattle.csvw_columns_core.specs.declared.properties.Properties.{Properties}

-- the inner value if it is present, else the outer
abbrev pub first_of : {A : Type 0} → Option A → Option A → Option A
first_of (Some x) outer = Some x
first_of None outer = outer

-- the first value that is present
abbrev pub first_present : {A : Type 0} → List (Option A) → Option A
first_present [] = None
first_present (level ∷ levels) = first_of level (first_present levels)

-- the value of one property at four levels: the column, its schema, its table and the group
abbrev pub inherited : {A : Type 0} → A → Option A → Option A → Option A → Option A → A
inherited default column schema table group = unwrap_or (first_present (column ∷ schema ∷ table ∷ group ∷ [])) default

abbrev pub string_type : Datatype
string_type = record { simple = simple.Text; id = None; format = None; facets = no_facets }

-- the defaults of section 5.7
pub record AreDefaults (datatype : Datatype) (default lang : List ℕ) (nulls : List (List ℕ)) : Type 0 where
  pub datatype_is : datatype ≡ string_type
  pub default_is : default ≡ []
  pub lang_is : lang ≡ codes "und"
  pub nulls_are : nulls ≡ [] ∷ []

-- a property that has no default
abbrev pub inherited_or_none : {A : Type 0} → Option A → Option A → Option A → Option A → Option A
inherited_or_none column schema table group = first_present (column ∷ schema ∷ table ∷ group ∷ [])

-- the properties of a column, from those of the column, its schema, its table and the group
abbrev pub properties_of : Inherited → Inherited → Inherited → Inherited → Properties
properties_of column schema table group = record {
  about_url = inherited_or_none column.about_url schema.about_url table.about_url group.about_url;
  property_url = inherited_or_none column.property_url schema.property_url table.property_url group.property_url;
  value_url = inherited_or_none column.value_url schema.value_url table.value_url group.value_url;
  datatype = inherited string_type column.datatype schema.datatype table.datatype group.datatype;
  default = inherited [] column.default schema.default table.default group.default;
  lang = inherited (codes "und") column.lang schema.lang table.lang group.lang;
  null = inherited ([] ∷ []) column.null schema.null table.null group.null;
  ordered = inherited false column.ordered schema.ordered table.ordered group.ordered;
  required = inherited false column.required schema.required table.required group.required;
  separator = inherited None column.separator schema.separator table.separator group.separator;
}
