-- What is left of a document that was read nests no deeper than can be read. The check doesn't find by itself how deep its parts nest.
use Rattle.std.proofs.Common.{ℕ, ◌+◌, ◌≤◌, ◌-◌, Bool, true, false, Option, Some, None, List, [], ◌∷◌, arith, max, if◌then◌else◌, ◌≡◌, bytes_eq, codes, is_some, Ordering, Less, Equal, Greater, nat_cmp}
use Rattle.std.proofs.Math.Nat.{le-max_left, le-max_right, max-le}
use Rattle.std.specs.Cmp.Lexicographic.{slice_cmp}
use Rattle.std.specs.Bool.{⊤}
use Rattle.std.specs.Ordering.{match_ordering}
use Rattle.serde_json.specs.Data.{Data, null, boolean, number, string, array, object, Items, no_items, item, Members, no_members, member, put}
use Rattle.serde_json.specs.Data.{depth, items_depth, members_depth}
use Rattle.serde_json.specs.Find.{as_object, get}
use Rattle.serde_json.specs.Read.{max_depth, read}
use Rattle.serde_json.proofs.Nesting.{depth-read}
use Rattle.std.specs.Str.{is_utf8}
use Rattle.csvw_meta.specs.Json.{json_of}
use Rattle.csvw_meta_core.specs.Pointer.{below, item_at}
use Rattle.csvw_text.specs.Language.{is_language_tag}
use Rattle.csvw_defaults.specs.Ignored.{array_property, bound, by_kind, column_member, datatype_member, dialect_member, document, document_member, foreign_key, format_member}
use Rattle.csvw_defaults.specs.Ignored.{group_member, inherited_member, object_item, object_property, of_kind, schema_member, shared_member, table_member}
use Rattle.csvw_defaults.specs.Ignored.{read_as, tables, text_or_object, title, titles, titles_alone, titles_of}
use Rattle.csvw_defaults.specs.Judged.{Judged, if_permitted}
use Rattle.csvw_defaults.specs.Parts.{Rule, array_of, kept_item, kept_items, kept_member, kept_members, object_of, warning_name, with_warnings}
use Rattle.csvw_defaults.specs.Permitted.{is_fraction, is_permitted, is_text}
use Rattle.csvw_defaults.specs.Properties.{column_property, dialect_property, datatype_property, format_property, group_property, schema_property, table_property}
use Rattle.json.specs.Json.{Json}
use Rattle.csvw_defaults.specs.Sources.{in_item, in_member, number_text}
use Rattle.csvw_defaults.specs.declared.permitted.Permitted.{Permitted}
use Rattle.csvw_defaults.specs.declared.permitted.Permitted.TheVariants as permitted

-- no value, or one that nests at most so deep
abbrev pub Within : ℕ → Option Data → Type 0
Within m None = ⊤
Within m (Some d) = depth d ≤ m

-- What is left of a value nests no deeper than the value, or than n.
abbrev IsShallow : ℕ → Rule → Type 0
IsShallow n rule = (m : ℕ) → n ≤ m → (at : List ℕ) (j : Option Json) (d : Data) → depth d ≤ m → Within m (rule at j d).value

first : (a b m : ℕ) → max a b ≤ m → a ≤ m
first a b m h = (let l = le-max_left a b in omega (arith, h, l))

second : (a b m : ℕ) → max a b ≤ m → b ≤ m
second a b m h = (let l = le-max_right a b in omega (arith, h, l))

-- ---- members and items

kept_within : (k : List ℕ) (v : Option Data) (ms : Members) (m : ℕ) → Within m v → members_depth ms ≤ m → members_depth (kept_member k v ms) ≤ m
kept_within k None ms m one rest = rest
kept_within k (Some d) ms m one rest = max-le one rest

ordered_within : (o : Ordering) (d e : Data) (k l : List ℕ) (ms with_it : Members) (m : ℕ) → depth d ≤ m → depth e ≤ m → members_depth ms ≤ m → members_depth with_it ≤ m
    → members_depth (match_ordering o (member k d (member l e ms)) (member l d ms) (member l e with_it)) ≤ m
ordered_within Less d e k l ms with_it m one other rest more = max-le one (max-le other rest)
ordered_within Equal d e k l ms with_it m one other rest more = max-le one rest
ordered_within Greater d e k l ms with_it m one other rest more = max-le other more

put_within : (k : List ℕ) (d : Data) (ms : Members) (m : ℕ) → depth d ≤ m → members_depth ms ≤ m → members_depth (put k d ms) ≤ m
put_within k d no_members m one rest = max-le one rest
put_within k d (member l e ms) m one rest =
    let head = first (depth e) (members_depth ms) m rest in
    let tail = second (depth e) (members_depth ms) m rest in
    ordered_within (slice_cmp nat_cmp k l) d e k l ms (put k d ms) m one head tail (put_within k d ms m one tail)

warnings_within : (names : List (List ℕ)) (ms : Members) (m : ℕ) → members_depth ms ≤ m → members_depth (with_warnings names ms) ≤ m
warnings_within [] ms m h = h
warnings_within (name ∷ names) ms m h = warnings_within names (put (warning_name name) null ms) m (put_within (warning_name name) null ms m (omega arith) h)

members_within : (rule : List ℕ → Rule) (n : ℕ) → ((k : List ℕ) → IsShallow n (rule k)) → (m : ℕ) → n ≤ m → (at : List ℕ) (j : Option Json) (ms : Members)
    → members_depth ms ≤ m → members_depth (kept_members rule at j ms) ≤ m
members_within rule n shallow m le at j no_members h = h
members_within rule n shallow m le at j (member k d ms) h =
    kept_within k (rule k (below at k) (in_member k j) d).value (kept_members rule at j ms) m (shallow k m le (below at k) (in_member k j) d (first (depth d) (members_depth ms) m h))
    (members_within rule n shallow m le at j ms (second (depth d) (members_depth ms) m h))

item_within : (v : Option Data) (ds : Items) (m : ℕ) → Within m v → items_depth ds ≤ m → items_depth (kept_item v ds) ≤ m
item_within None ds m one rest = rest
item_within (Some d) ds m one rest = max-le one rest

items_within : (rule : Rule) (n : ℕ) → IsShallow n rule → (m : ℕ) → n ≤ m → (at : List ℕ) (j : Option Json) (i : ℕ) (ds : Items) → items_depth ds ≤ m
    → items_depth (kept_items rule at j i ds) ≤ m
items_within rule n shallow m le at j i no_items h = h
items_within rule n shallow m le at j i (item d ds) h =
    item_within (rule (item_at at i) (in_item i j) d).value (kept_items rule at j (i + 1) ds) m (shallow m le (item_at at i) (in_item i j) d (first (depth d) (items_depth ds) m h))
    (items_within rule n shallow m le at j (i + 1) ds (second (depth d) (items_depth ds) m h))

-- one level more
object_within : (rule : List ℕ → Rule) (n : ℕ) → ((k : List ℕ) → IsShallow n (rule k)) → (m : ℕ) → n + 1 ≤ m → (at : List ℕ) (j : Option Json) (ms : Members)
    → depth (object ms) ≤ m → Within m (object_of rule at j ms).value
object_within rule n shallow m le at j ms h =
    let kept = members_within rule n shallow (m - 1) (omega (arith, le)) at j ms (omega (arith, h)) in
    let all = warnings_within (Rattle.csvw_defaults.specs.Parts.ignored_names rule at j ms) (kept_members rule at j ms) (m - 1) kept in
    omega (arith, all, le)

array_within : (rule : Rule) (n : ℕ) → IsShallow n rule → (m : ℕ) → n + 1 ≤ m → (at : List ℕ) (j : Option Json) (ds : Items) → depth (array ds) ≤ m
    → Within m (array_of rule at j ds).value
array_within rule n shallow m le at j ds h =
    let kept = items_within rule n shallow (m - 1) (omega (arith, le)) at j 0 ds (omega (arith, h)) in omega (arith, kept, le)

-- ---- kinds of values

if_within : (b : Bool) (m : ℕ) (at : List ℕ) (d : Data) → depth d ≤ m → Within m (if_permitted b at d).value
if_within true m at d h = h
if_within false m at d h = tt

kind : (k : Permitted) (n : ℕ) → IsShallow n (of_kind k)
kind k n m le at j d h = if_within (is_permitted k d) m at d h

either : (b : Bool) (n : ℕ) (r s : Rule) → IsShallow n r → IsShallow n s → IsShallow n (if b then r else s)
either true n r s one other = one
either false n r s one other = other

more : (n k : ℕ) (rule : Rule) → n ≤ k → IsShallow n rule → IsShallow k rule
more n k rule le shallow m above at j d h = shallow m (omega (arith, le, above)) at j d h

module _ (rule : List ℕ → Rule) (n : ℕ) (shallow : (k : List ℕ) → IsShallow n (rule k)) where
  text_or_object_is : IsShallow (n + 1) (text_or_object rule)
  text_or_object_is m le at j (object ms) h = object_within rule n shallow m le at j ms h
  text_or_object_is m le at j (string s) h = h
  text_or_object_is m le at j null h = tt
  text_or_object_is m le at j (boolean b) h = tt
  text_or_object_is m le at j (number x) h = tt
  text_or_object_is m le at j (array ds) h = tt

  object_property_is : IsShallow (n + 1) (object_property rule)
  object_property_is m le at j (object ms) h = object_within rule n shallow m le at j ms h
  object_property_is m le at j (string s) h = h
  object_property_is m le at j null h = omega (arith, le)
  object_property_is m le at j (boolean b) h = omega (arith, le)
  object_property_is m le at j (number x) h = omega (arith, le)
  object_property_is m le at j (array ds) h = omega (arith, le)

  object_item_is : IsShallow (n + 1) (object_item rule)
  object_item_is m le at j (object ms) h = object_within rule n shallow m le at j ms h
  object_item_is m le at j (string s) h = tt
  object_item_is m le at j null h = tt
  object_item_is m le at j (boolean b) h = tt
  object_item_is m le at j (number x) h = tt
  object_item_is m le at j (array ds) h = tt

array_property_is : (rule : Rule) (n : ℕ) → IsShallow n rule → IsShallow (n + 1) (array_property rule)
array_property_is rule n shallow m le at j (array ds) h = array_within rule n shallow m le at j ds h
array_property_is rule n shallow m le at j (object ms) h = tt
array_property_is rule n shallow m le at j (string s) h = tt
array_property_is rule n shallow m le at j null h = tt
array_property_is rule n shallow m le at j (boolean b) h = tt
array_property_is rule n shallow m le at j (number x) h = tt

-- ---- titles

title_is : IsShallow 0 title
title_is m le at j d h = if_within (is_text d) m at d h

titles_alone_is : IsShallow 1 titles_alone
titles_alone_is m le at j (string s) h = h
titles_alone_is m le at j (array ds) h = array_within title 0 title_is m le at j ds h
titles_alone_is m le at j null h = tt
titles_alone_is m le at j (boolean b) h = tt
titles_alone_is m le at j (number x) h = tt
titles_alone_is m le at j (object ms) h = tt

named : (b : Bool) (m : ℕ) (at : List ℕ) (j : Judged) → Within m j.value → Within m (if b then j else Rattle.csvw_defaults.specs.Judged.ignored at).value
named true m at j h = h
named false m at j h = tt

titles_of_is : (name : List ℕ) → IsShallow 1 (titles_of name)
titles_of_is name m le at j d h = named (is_language_tag name) m at (titles_alone at j d) (titles_alone_is m le at j d h)

titles_is : IsShallow 2 titles
titles_is m le at j (object ms) h =
    let kept = members_within titles_of 1 titles_of_is (m - 1) (omega (arith, le)) at j ms (omega (arith, h)) in omega (arith, kept, le)
titles_is m le at j (string s) h = h
titles_is m le at j (array ds) h = titles_alone_is m (omega (arith, le)) at j (array ds) h
titles_is m le at j null h = tt
titles_is m le at j (boolean b) h = tt
titles_is m le at j (number x) h = tt

-- ---- objects

read_within_as : (text : Option (List ℕ)) (m : ℕ) (at : List ℕ) (d : Data) → depth d ≤ m → Within m (read_as at text d).value
read_within_as None m at d h = h
read_within_as (Some s) m at d h = omega arith

fraction_within : (b : Bool) (m : ℕ) (j k : Judged) → Within m j.value → Within m k.value → Within m (if b then j else k).value
fraction_within true m j k one other = one
fraction_within false m j k one other = other

bound_is : (n : ℕ) → IsShallow n bound
bound_is n m le at j d h =
    fraction_within (is_fraction d) m (read_as at (number_text j) d) (of_kind permitted.Bound at j d) (read_within_as (number_text j) m at d h)
    (kind permitted.Bound n m le at j d h)

by_kind_is : (k : Permitted) (n : ℕ) → IsShallow n (by_kind k)
by_kind_is permitted.Bound n = bound_is n
by_kind_is permitted.Anything n = kind permitted.Anything n
by_kind_is permitted.Truth n = kind permitted.Truth n
by_kind_is permitted.Text n = kind permitted.Text n
by_kind_is permitted.TextOrNull n = kind permitted.TextOrNull n
by_kind_is permitted.Texts n = kind permitted.Texts n
by_kind_is permitted.SomeTexts n = kind permitted.SomeTexts n
by_kind_is permitted.NotNegative n = kind permitted.NotNegative n
by_kind_is permitted.Language n = kind permitted.Language n
by_kind_is permitted.Trimming n = kind permitted.Trimming n
by_kind_is permitted.Direction n = kind permitted.Direction n
by_kind_is permitted.TextDirection n = kind permitted.TextDirection n
by_kind_is permitted.Array n = kind permitted.Array n

datatype_is : (name : List ℕ) → IsShallow 1 (datatype_member name)
datatype_is name =
    either (bytes_eq name (codes "format")) 1 (text_or_object format_member) (by_kind (datatype_property name))
    (text_or_object_is format_member 0 (λ k. kind (format_property k) 0)) (by_kind_is (datatype_property name) 1)

inherited_is : (k : Permitted) (name : List ℕ) → IsShallow 2 (inherited_member k name)
inherited_is k name =
    either (bytes_eq name (codes "datatype")) 2 (text_or_object datatype_member) (of_kind k) (text_or_object_is datatype_member 1 datatype_is) (kind k 2)

column_is : (name : List ℕ) → IsShallow 2 (column_member name)
column_is name =
    either (bytes_eq name (codes "titles")) 2 titles (inherited_member (column_property name) name) titles_is (inherited_is (column_property name) name)

key_is : IsShallow 3 foreign_key
key_is m le at j d h = if_within (is_some (as_object d)) m at d h

schema_is : (name : List ℕ) → IsShallow 4 (schema_member name)
schema_is name =
    let rest = inherited_member (schema_property name) name in
    either (bytes_eq name (codes "columns")) 4 (array_property (object_item column_member))
    (if bytes_eq name (codes "foreignKeys") then array_property foreign_key else rest)
    (array_property_is (object_item column_member) 3 (object_item_is column_member 2 column_is))
    (either (bytes_eq name (codes "foreignKeys")) 4 (array_property foreign_key) rest (array_property_is foreign_key 3 key_is)
    (more 2 4 rest (omega arith) (inherited_is (schema_property name) name)))

dialect_is : (name : List ℕ) → IsShallow 4 (dialect_member name)
dialect_is name = kind (dialect_property name) 4

shared_is : (k : Permitted) (name : List ℕ) → IsShallow 5 (shared_member k name)
shared_is k name =
    let rest = inherited_member k name in
    either (bytes_eq name (codes "dialect")) 5 (object_property dialect_member)
    (if bytes_eq name (codes "tableSchema") then object_property schema_member else rest) (object_property_is dialect_member 4 dialect_is)
    (either (bytes_eq name (codes "tableSchema")) 5 (object_property schema_member) rest (object_property_is schema_member 4 schema_is)
    (more 2 5 rest (omega arith) (inherited_is k name)))

table_is : (name : List ℕ) → IsShallow 5 (table_member name)
table_is name = shared_is (table_property name) name

tables_is : IsShallow 7 tables
tables_is m le at j (array ds) h = array_within (object_item table_member) 6 (object_item_is table_member 5 table_is) m le at j ds h
tables_is m le at j (object ms) h = h
tables_is m le at j (string s) h = h
tables_is m le at j null h = h
tables_is m le at j (boolean b) h = h
tables_is m le at j (number x) h = h

group_is : (name : List ℕ) → IsShallow 7 (group_member name)
group_is name =
    let rest = shared_member (group_property name) name in
    either (bytes_eq name (codes "tables")) 7 tables rest tables_is (more 5 7 rest (omega arith) (shared_is (group_property name) name))

member_is : (is_group : Bool) (name : List ℕ) → IsShallow 7 (document_member is_group name)
member_is is_group name = either is_group 7 (group_member name) (table_member name) (group_is name) (more 5 7 (table_member name) (omega arith) (table_is name))

pub document_is : (m : ℕ) → 8 ≤ m → (at : List ℕ) (j : Option Json) (d : Data) → depth d ≤ m → depth (document at j d).value ≤ m
document_is m le at j (object ms) h =
    let is_group = is_some (get (codes "tables") (object ms)) in object_within (document_member is_group) 7 (member_is is_group) m le at j ms h
document_is m le at j (string s) h = h
document_is m le at j null h = h
document_is m le at j (boolean b) h = h
document_is m le at j (number x) h = h
document_is m le at j (array ds) h = h

read_within : (is_text : Bool) (text : List ℕ) (d : Data) → (if is_text then read text else None) ≡ Some d → depth d ≤ max_depth
read_within true text d h = depth-read text d h
read_within false text d h = cc

-- A document that was read can be read.
pub depth_read : (bytes : List ℕ) (d : Data) → json_of bytes ≡ Some d → depth d ≤ max_depth
depth_read bytes d h = read_within (is_utf8 bytes) bytes d h
