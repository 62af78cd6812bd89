-- What becomes of the objects of a document: `document` (Metadata Vocabulary for Tabular Data, sections 5.1 and 5.3 to 5.11).
use Rattle.std.specs.Prelude.{ℕ, List, [], ◌∷◌, Bool, true, false, bytes_eq, codes, is_some, if◌then◌else◌, Option, Some, None}
use Rattle.serde_json.specs.Data.{Data, null, boolean, number, string, array, object, Members, no_members}
use Rattle.serde_json.specs.Find.{as_object, get}
use Rattle.json.specs.Json.{Json}
use Rattle.csvw_meta_core.specs.Read.{Read, fine}
use Rattle.csvw_text.specs.Language.{is_language_tag}
use Rattle.csvw_defaults.specs.Judged.{Judged, stays, ignored, replaced, as_text, if_permitted}
use Rattle.csvw_defaults.specs.Parts.{Rule, object_of, array_of, left_of, member_faults, kept_members, ignored_names}
use Rattle.csvw_defaults.specs.Permitted.{is_fraction, is_permitted, is_text}
use Rattle.csvw_defaults.specs.Properties.{column_property, datatype_property, dialect_property, format_property, group_property}
use Rattle.csvw_defaults.specs.Properties.{schema_property, table_property}
use Rattle.csvw_defaults.specs.Sources.{number_text}
use Rattle.csvw_defaults.specs.declared.permitted.Permitted.{Permitted}
use Rattle.csvw_defaults.specs.declared.permitted.Permitted.TheVariants as permitted

-- ---- kinds of values

-- a value that is of one kind
abbrev pub of_kind : Permitted → Rule
of_kind kind at j d = if_permitted (is_permitted kind d) at d

-- an object by the rules of its members, or a text (section 5.1.6); another value is ignored
abbrev pub text_or_object : (List ℕ → Rule) → Rule
text_or_object rule at j (object ms) = object_of rule at j ms
text_or_object rule at j (string s) = stays (string s)
text_or_object rule at j null = ignored at
text_or_object rule at j (boolean b) = ignored at
text_or_object rule at j (number n) = ignored at
text_or_object rule at j (array ds) = ignored at

-- the value of an object property (section 5.1.5); a value that is neither an object nor a URL is an object without properties
abbrev pub object_property : (List ℕ → Rule) → Rule
object_property rule at j (object ms) = object_of rule at j ms
object_property rule at j (string s) = stays (string s)
object_property rule at j null = replaced at (object no_members)
object_property rule at j (boolean b) = replaced at (object no_members)
object_property rule at j (number n) = replaced at (object no_members)
object_property rule at j (array ds) = replaced at (object no_members)

-- an item that is an object; another item is ignored (section 5.1.1)
abbrev pub object_item : (List ℕ → Rule) → Rule
object_item rule at j (object ms) = object_of rule at j ms
object_item rule at j (string s) = ignored at
object_item rule at j null = ignored at
object_item rule at j (boolean b) = ignored at
object_item rule at j (number n) = ignored at
object_item rule at j (array ds) = ignored at

-- the value of an array property (section 5.1.1); another value is ignored
abbrev pub array_property : Rule → Rule
array_property rule at j (array ds) = array_of rule at j ds
array_property rule at j (object ms) = ignored at
array_property rule at j (string s) = ignored at
array_property rule at j null = ignored at
array_property rule at j (boolean b) = ignored at
array_property rule at j (number n) = ignored at

-- ---- titles (section 5.1.4)

-- an item of the titles
abbrev pub title : Rule
title at j d = if_permitted (is_text d) at d

-- the titles of one language: a text or an array of texts
abbrev pub titles_alone : Rule
titles_alone at j (string s) = stays (string s)
titles_alone at j (array ds) = array_of title at j ds
titles_alone at j null = ignored at
titles_alone at j (boolean b) = ignored at
titles_alone at j (number n) = ignored at
titles_alone at j (object ms) = ignored at

-- the titles of a language, if the name is one
abbrev pub titles_of : List ℕ → Rule
titles_of name at j d = if is_language_tag name then titles_alone at j d else ignored at

-- whether there are such names
abbrev pub has_names : List (List ℕ) → Bool
has_names [] = false
has_names (name ∷ names) = true

-- The titles of languages. What is ignored in them is warned of at their property.
abbrev pub titles_by_language : List ℕ → Option Json → Members → Judged
titles_by_language at j ms = record {
  faults = member_faults titles_of at j ms;
  is_ignored = has_names (ignored_names titles_of at j ms);
  value = Some (object (kept_members titles_of at j ms));
}

abbrev pub titles : Rule
titles at j (object ms) = titles_by_language at j ms
titles at j (string s) = titles_alone at j (string s)
titles at j (array ds) = titles_alone at j (array ds)
titles at j null = titles_alone at j null
titles at j (boolean b) = titles_alone at j (boolean b)
titles at j (number n) = titles_alone at j (number n)

-- ---- datatypes, and what is inherited (sections 5.7 and 5.11)

abbrev pub format_member : List ℕ → Rule
format_member name = of_kind (format_property name)

-- a number that isn't whole as the text that writes it
abbrev pub read_as : List ℕ → Option (List ℕ) → Data → Judged
read_as at (Some s) d = as_text at s
read_as at None d = stays d

-- A bound that is a number and isn't whole is read as the text that writes it.
abbrev pub bound : Rule
bound at j d = if is_fraction d then read_as at (number_text j) d else of_kind permitted.Bound at j d

-- the rule of a property of a kind
abbrev pub by_kind : Permitted → Rule
by_kind permitted.Bound = bound
by_kind kind = of_kind kind

abbrev pub datatype_member : List ℕ → Rule
datatype_member name = if bytes_eq name (codes "format") then text_or_object format_member else by_kind (datatype_property name)

-- a property that may be inherited: the datatype, or one of a kind
abbrev pub inherited_member : Permitted → List ℕ → Rule
inherited_member kind name = if bytes_eq name (codes "datatype") then text_or_object datatype_member else of_kind kind

-- ---- columns, schemas and dialects (sections 5.5, 5.6 and 5.9)

abbrev pub column_member : List ℕ → Rule
column_member name = if bytes_eq name (codes "titles") then titles else inherited_member (column_property name) name

-- A foreign key stays as it is.
abbrev pub foreign_key : Rule
foreign_key at j d = if_permitted (is_some (as_object d)) at d

abbrev pub schema_member : List ℕ → Rule
schema_member name =
    if bytes_eq name (codes "columns") then array_property (object_item column_member)
    else (if bytes_eq name (codes "foreignKeys") then array_property foreign_key
    else inherited_member (schema_property name) name)

abbrev pub dialect_member : List ℕ → Rule
dialect_member name = of_kind (dialect_property name)

-- ---- tables and groups (sections 5.3 and 5.4)

-- a property that groups and tables have: the dialect, the schema, or one that may be inherited
abbrev pub shared_member : Permitted → List ℕ → Rule
shared_member kind name =
    if bytes_eq name (codes "dialect") then object_property dialect_member
    else (if bytes_eq name (codes "tableSchema") then object_property schema_member
    else inherited_member kind name)

abbrev pub table_member : List ℕ → Rule
table_member name = shared_member (table_property name) name

-- A group needs its tables, so another value than an array stays, and is a fault.
abbrev pub tables : Rule
tables at j (array ds) = array_of (object_item table_member) at j ds
tables at j (object ms) = stays (object ms)
tables at j (string s) = stays (string s)
tables at j null = stays null
tables at j (boolean b) = stays (boolean b)
tables at j (number n) = stays (number n)

abbrev pub group_member : List ℕ → Rule
group_member name = if bytes_eq name (codes "tables") then tables else shared_member (group_property name) name

-- ---- the document

-- A document with `tables` is a group. Another object is a table.
abbrev pub document_member : Bool → List ℕ → Rule
document_member is_group name = if is_group then group_member name else table_member name

-- the values that are ignored in an object, and what is left of it
abbrev pub object_left : (List ℕ → Rule) → List ℕ → Option Json → Members → Read Data
object_left rule at j ms = record { faults = member_faults rule at j ms; value = object (left_of rule at j ms) }

-- The document at this place, with the values in it that are ignored. One that is no object stays.
abbrev pub document : List ℕ → Option Json → Data → Read Data
document at j (object ms) = object_left (document_member (is_some (get (codes "tables") (object ms)))) at j ms
document at j (string s) = fine (string s)
document at j null = fine null
document at j (boolean b) = fine (boolean b)
document at j (number n) = fine (number n)
document at j (array ds) = fine (array ds)
