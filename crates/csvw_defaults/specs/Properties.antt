-- What the values of the properties of each object may be (Metadata Vocabulary for Tabular Data, sections 5.3 to 5.11). A property that isn't listed
-- here may be anything.
use Rattle.std.specs.Prelude.{ℕ, List, ◌||◌, bytes_eq, codes, if◌then◌else◌}
use Rattle.csvw_defaults.specs.declared.permitted.Permitted.{Permitted}
use Rattle.csvw_defaults.specs.declared.permitted.Permitted.TheVariants.{Anything, Truth, Text, TextOrNull, Texts, SomeTexts, NotNegative, Bound, Language}
use Rattle.csvw_defaults.specs.declared.permitted.Permitted.TheVariants.{Trimming, Direction, TextDirection, Array}

-- of groups, tables, schemas and columns (section 5.7)
abbrev pub inherited_property : List ℕ → Permitted
inherited_property name =
    if bytes_eq name (codes "aboutUrl") || bytes_eq name (codes "propertyUrl") || bytes_eq name (codes "valueUrl") || bytes_eq name (codes "default") then Text
    else (if bytes_eq name (codes "ordered") || bytes_eq name (codes "required") then Truth
    else (if bytes_eq name (codes "lang") then Language
    else (if bytes_eq name (codes "null") then Texts
    else (if bytes_eq name (codes "separator") then TextOrNull
    else (if bytes_eq name (codes "textDirection") then TextDirection
    else Anything)))))

-- of a group (section 5.3)
abbrev pub group_property : List ℕ → Permitted
group_property name =
    if bytes_eq name (codes "notes") || bytes_eq name (codes "transformations") then Array
    else (if bytes_eq name (codes "tableDirection") then Direction
    else inherited_property name)

-- of a table (section 5.4)
abbrev pub table_property : List ℕ → Permitted
table_property name = if bytes_eq name (codes "suppressOutput") then Truth else group_property name

-- of a schema (section 5.5)
abbrev pub schema_property : List ℕ → Permitted
schema_property name =
    if bytes_eq name (codes "primaryKey") || bytes_eq name (codes "rowTitles") then SomeTexts else inherited_property name

-- of a column (section 5.6)
abbrev pub column_property : List ℕ → Permitted
column_property name =
    if bytes_eq name (codes "name") then Text
    else (if bytes_eq name (codes "suppressOutput") || bytes_eq name (codes "virtual") then Truth
    else inherited_property name)

-- of a dialect (section 5.9)
abbrev pub dialect_property : List ℕ → Permitted
dialect_property name =
    if bytes_eq name (codes "doubleQuote") || bytes_eq name (codes "header") || bytes_eq name (codes "skipBlankRows") || bytes_eq name (codes "skipInitialSpace") then Truth
    else (if bytes_eq name (codes "delimiter") || bytes_eq name (codes "encoding") then Text
    else (if bytes_eq name (codes "commentPrefix") || bytes_eq name (codes "quoteChar") then TextOrNull
    else (if bytes_eq name (codes "headerRowCount") || bytes_eq name (codes "skipColumns") || bytes_eq name (codes "skipRows") then NotNegative
    else (if bytes_eq name (codes "lineTerminators") then Texts
    else (if bytes_eq name (codes "trim") then Trimming
    else Anything)))))

-- of a datatype (section 5.11.2)
abbrev pub datatype_property : List ℕ → Permitted
datatype_property name =
    if bytes_eq name (codes "base") then Text
    else (if bytes_eq name (codes "length") || bytes_eq name (codes "minLength") || bytes_eq name (codes "maxLength") then NotNegative
    else (if bytes_eq name (codes "minimum") || bytes_eq name (codes "maximum") || bytes_eq name (codes "minInclusive") || bytes_eq name (codes "maxInclusive")
    || bytes_eq name (codes "minExclusive") || bytes_eq name (codes "maxExclusive") then Bound
    else Anything))

-- of the format of a number (section 5.11.2; Model for Tabular Data, section 6.4.2)
abbrev pub format_property : List ℕ → Permitted
format_property name =
    if bytes_eq name (codes "decimalChar") || bytes_eq name (codes "groupChar") || bytes_eq name (codes "pattern") then Text else Anything
