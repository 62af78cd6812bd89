-- Values whose link properties are resolved against a base: `absolute` (Metadata Vocabulary for Tabular Data, sections 5.1.2 and 6.1). The
-- link properties of schemas and dialects are `@id`, `resource` and `schemaReference`.
use Rattle.std.specs.Prelude.{ℕ, List, [], Bool, ◌||◌, bytes_eq, nat_eq, codes, if◌then◌else◌, Result, Ok, Err}
use Rattle.std.specs.List.{starts_with}
use Rattle.serde_json.specs.Data.{Data, null, boolean, number, string, array, object, Items, no_items, item, Members, no_members, member}
use Rattle.url.specs.Parts.{Parts}
use Rattle.csvw_iri.specs.Link.{resolved}
use Rattle.csvw_iri.specs.Link as iri

-- whether a property of this name is a link property
abbrev pub is_link : List ℕ → Bool
is_link name = bytes_eq name (codes "@id") || bytes_eq name (codes "resource") || bytes_eq name (codes "schemaReference")

-- A text that is no URL stays.
abbrev pub resolved_or : List ℕ → Result (List ℕ) iri.Refusal → List ℕ
resolved_or s (Ok url) = url
resolved_or s (Err e) = s

-- A blank node's name stays.
abbrev pub link_text : Parts → List ℕ → List ℕ
link_text base s = if starts_with nat_eq s (codes "_:") then s else resolved_or s (resolved base s)

-- a text that is the value of a property of this name
abbrev pub text_at : Parts → List ℕ → List ℕ → List ℕ
text_at base name s = if is_link name then link_text base s else s

-- The value of a property of this name. Items of arrays have no name.
abbrev mutual
  pub absolute : Parts → List ℕ → Data → Data
  absolute base name null = null
  absolute base name (boolean b) = boolean b
  absolute base name (number n) = number n
  absolute base name (string s) = string (text_at base name s)
  absolute base name (array ds) = array (absolute_items base ds)
  absolute base name (object ms) = object (absolute_members base ms)

  pub absolute_items : Parts → Items → Items
  absolute_items base no_items = no_items
  absolute_items base (item d ds) = item (absolute base [] d) (absolute_items base ds)

  pub absolute_members : Parts → Members → Members
  absolute_members base no_members = no_members
  absolute_members base (member k d ms) = member k (absolute base k d) (absolute_members base ms)
