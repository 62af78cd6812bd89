-- The object that a resource has for the documents that name it by its URL: `object_of` (Metadata Vocabulary for Tabular Data, section
-- 6.1). Its links are absolute, it has no `@context`, and without an `@id` its URL is that.
use Rattle.std.specs.Prelude.{◌≡◌, ◌≢◌, ℕ, List, [], bytes_eq, nat_lt, length, codes, is_some, if◌then◌else◌, Option, Some, None, option_map}
use Rattle.std.specs.Prelude.{Result, Ok, Err, String}
use Rattle.std.specs.declared.alloc.Global.{Global}
use Rattle.std.specs.BTreeMap.{BTreeMap}
use Rattle.serde_json.specs.declared.value.Value.{Value}
use Rattle.serde_json.specs.View.{members_view}
use Rattle.serde_json.specs.Data.{Data, null, boolean, number, string, array, object, Members, no_members, member, put}
use Rattle.serde_json.specs.Find.{get}
use Rattle.url.specs.Parts.{Parts}
use Rattle.csvw_iri.specs.Link.{iri_of}
use Rattle.csvw_meta_core.specs.declared.context.Context.{Context}
use Rattle.csvw_meta_core.specs.declared.fault.MetaCode.{MetaCode}
use Rattle.csvw_meta_core.specs.declared.fault.MetaCode.TheVariants.{BadContext, BadProperty, Memory, NotJson, TooLong}
use Rattle.csvw_meta_core.specs.Context.{context, plain_context}
use Rattle.csvw_meta_core.specs.Read.{Read, fine}
use Rattle.csvw_meta.specs.IfRead.{if_read}
use Rattle.csvw_meta.specs.Json.{json_of, without_bom}
use Rattle.csvw_meta.specs.declared.document.TheConstants.{MAX_DOCUMENT}
use Rattle.csvw_bundle.specs.Absolute.{absolute_members}

-- the members without that of this name; an object has each name once
abbrev pub without : List ℕ → Members → Members
without name no_members = no_members
without name (member k d ms) = if bytes_eq name k then ms else member k d (without name ms)

-- The context of a resource at its own URL. A resource may have none.
abbrev pub own_context : Parts → Data → Read Context
own_context url d = if is_some (get (codes "@context") d) then context url [] d else fine (plain_context url)

-- the base of its links, if its context can be read
abbrev pub own_base : Parts → Data → Option Parts
own_base url d = option_map (λ c. c.base) (if_read (own_context url d))

-- the members, with this URL as the `@id` of an object that has none
abbrev pub identified : List ℕ → Data → Members → Members
identified url d ms = if is_some (get (codes "@id") d) then ms else put (codes "@id") (string url) ms

abbrev pub in_base : Parts → Members → Option Parts → Result Members MetaCode
in_base url ms None = Err BadContext
in_base url ms (Some base) = Ok (identified (iri_of url) (object ms) (without (codes "@context") (absolute_members base ms)))

abbrev pub of_value : Parts → Data → Result Members MetaCode
of_value url (object ms) = in_base url ms (own_base url (object ms))
of_value url null = Err BadProperty
of_value url (boolean b) = Err BadProperty
of_value url (number n) = Err BadProperty
of_value url (string s) = Err BadProperty
of_value url (array ds) = Err BadProperty

abbrev pub of_json : Parts → Option Data → Result Members MetaCode
of_json url None = Err NotJson
of_json url (Some d) = of_value url d

-- the object of the bytes that a URL has, or the code of why there is none
abbrev pub object_of : Parts → List ℕ → Result Members MetaCode
object_of url bytes = if nat_lt MAX_DOCUMENT (length bytes) then Err TooLong else of_json url (json_of (without_bom bytes))

-- It returns the object, or why there is none, unless memory runs out.
abbrev pub Gives : Result Members MetaCode → Result (BTreeMap (String Global) Value) MetaCode → Type 0
Gives expected (Ok m) = expected ≡ Ok (members_view m.entries)
Gives expected (Err code) = code ≢ Memory → expected ≡ Err code
