-- The document in which the objects of resources take the place of their URLs: `Bundles` (Metadata Vocabulary for Tabular Data, sections 5.3,
-- 5.4 and 6.1). The properties `tableSchema` and `dialect` of a group and of its tables may be a URL.
use Rattle.std.specs.Prelude.{◌≡◌, ◌≤◌, ℕ, ◌+◌, List, [], ◌∷◌, Bool, ◌||◌, bytes_eq, nat_eq, nat_lt, length, codes, if◌then◌else◌, Option, Some, None}
use Rattle.std.specs.Prelude.{Result, Ok, Err}
use Rattle.std.specs.declared.alloc.Global.{Global}
use Rattle.std.specs.declared.vec.Vec.{Vec}
use Rattle.serde_json.specs.Data.{Data, null, boolean, number, string, array, object, Items, no_items, item, Members, depth}
use Rattle.serde_json.specs.Read.{max_depth}
use Rattle.url.specs.Parts.{Parts}
use Rattle.csvw_iri.specs.Link.{base_of, iri_of}
use Rattle.csvw_iri.specs.Link as iri
use Rattle.csvw_meta_core.specs.declared.fault.MetaCode.{MetaCode}
use Rattle.csvw_meta_core.specs.declared.fault.Refusal.{Refusal}
use Rattle.csvw_meta_core.specs.Context.{context}
use Rattle.csvw_meta_core.specs.Pointer.{below, item_at}
use Rattle.csvw_meta_core.specs.Read.{Read, fine, faulty, under, both}
use Rattle.csvw_meta_core.specs.Reads.{Fails}
use Rattle.csvw_meta.specs.IfRead.{value_or}
use Rattle.csvw_meta.specs.Json.{json_of, without_bom}
use Rattle.csvw_meta.specs.declared.document.TheConstants.{MAX_DOCUMENT}
use Rattle.csvw_bundle.specs.declared.resource.Resource.{Resource}
use Rattle.csvw_bundle.specs.Members.{each_member}
use Rattle.csvw_bundle.specs.Resources.{object_of}

-- ---- a URL in place of an object

-- the first resource of this URL
abbrev pub find : List Resource → Parts → Option Resource
find [] url = None
find (r ∷ rs) url = if bytes_eq (iri_of r.url) (iri_of url) then Some r else find rs url

-- A resource that can't be read is a fault of the property that names it.
abbrev pub of_object : List ℕ → List ℕ → Result Members MetaCode → Read Data
of_object at s (Ok ms) = fine (object ms)
of_object at s (Err code) = faulty code at (string s)

-- A URL without a resource stays.
abbrev pub of_resource : List ℕ → List ℕ → Parts → Option Resource → Read Data
of_resource at s url None = fine (string s)
of_resource at s url (Some r) = of_object at s (object_of url r.bytes.items)

-- A text that is no URL stays.
abbrev pub of_url : List Resource → List ℕ → List ℕ → Result Parts iri.Refusal → Read Data
of_url rs at s (Err e) = fine (string s)
of_url rs at s (Ok url) = of_resource at s url (find rs url)

abbrev pub named : List Resource → Parts → List ℕ → Data → Read Data
named rs base at (string s) = of_url rs at s (base_of (Some base) s)
named rs base at null = fine null
named rs base at (boolean b) = fine (boolean b)
named rs base at (number n) = fine (number n)
named rs base at (array ds) = fine (array ds)
named rs base at (object ms) = fine (object ms)

-- ---- groups and tables

-- whether the property of this name may be a URL in place of an object
abbrev pub may_be_named : List ℕ → Bool
may_be_named name = bytes_eq name (codes "tableSchema") || bytes_eq name (codes "dialect")

-- a property of a table
abbrev pub table_member : List Resource → Parts → List ℕ → List ℕ → Data → Read Data
table_member rs base at name d = if may_be_named name then named rs base (below at name) d else fine d

abbrev pub table : List Resource → Parts → List ℕ → Data → Read Data
table rs base at (object ms) = under object (each_member (table_member rs base at) ms)
table rs base at null = fine null
table rs base at (boolean b) = fine (boolean b)
table rs base at (number n) = fine (number n)
table rs base at (string s) = fine (string s)
table rs base at (array ds) = fine (array ds)

-- the items of `tables`, the first of which has the index i here
abbrev pub table_items : List Resource → Parts → List ℕ → ℕ → Items → Read Items
table_items rs base at i no_items = fine no_items
table_items rs base at i (item d ds) = both item (table rs base (item_at at i) d) (table_items rs base at (i + 1) ds)

abbrev pub tables : List Resource → Parts → List ℕ → Data → Read Data
tables rs base at (array ds) = under array (table_items rs base at 0 ds)
tables rs base at null = fine null
tables rs base at (boolean b) = fine (boolean b)
tables rs base at (number n) = fine (number n)
tables rs base at (string s) = fine (string s)
tables rs base at (object ms) = fine (object ms)

-- a property of a group, or of a table that is the document
abbrev pub group_member : List Resource → Parts → List ℕ → List ℕ → Data → Read Data
group_member rs base at name d =
    if bytes_eq name (codes "tables") then tables rs base (below at name) d else table_member rs base at name d

abbrev pub group : List Resource → Parts → List ℕ → Data → Read Data
group rs base at (object ms) = under object (each_member (group_member rs base at) ms)
group rs base at null = fine null
group rs base at (boolean b) = fine (boolean b)
group rs base at (number n) = fine (number n)
group rs base at (string s) = fine (string s)
group rs base at (array ds) = fine (array ds)

-- ---- documents

-- the base of a document at its own URL, which takes the place of a base that can't be read
abbrev pub document_base : Parts → Data → Parts
document_base own d = value_or own (under (λ c. c.base) (context own [] d))

-- Bytes that are no JSON stay.
abbrev pub of_json : List Resource → Parts → Option Data → Read (Option Data)
of_json rs own None = fine None
of_json rs own (Some d) = under Some (group rs (document_base own d) [] d)

-- A document whose own URL is none stays.
abbrev pub at_url : List Resource → List ℕ → Result Parts iri.Refusal → Read (Option Data)
at_url rs bytes (Err e) = fine None
at_url rs bytes (Ok own) = of_json rs own (json_of (without_bom bytes))

-- What the document is with the objects of the resources, or none if it stays as it is. It stays if there are no resources, or if it is too
-- long.
abbrev pub bundle : List Resource → List ℕ → List ℕ → Read (Option Data)
bundle rs url bytes =
    if nat_eq (length rs) 0 || nat_lt MAX_DOCUMENT (length bytes) then fine None else at_url rs bytes (base_of None url)

-- Bytes of a value, unless it nests deeper than can be read: then the bytes have no JSON.
abbrev pub AreBytesOf : Data → List ℕ → Type 0
AreBytesOf d bytes = depth d ≤ max_depth → json_of (without_bom bytes) ≡ Some d

abbrev pub AreBytes : List ℕ → Option Data → List ℕ → Type 0
AreBytes old None new = new ≡ old
AreBytes old (Some d) new = AreBytesOf d new

-- bytes of the document without faults
pub record IsBundle (rs : List Resource) (url old new : List ℕ) : Type 0 where
  pub faults : (bundle rs url old).faults ≡ []
  pub bytes : AreBytes old (bundle rs url old).value new

-- It returns such bytes, or a fault of a resource at the property that names it, unless memory runs out.
abbrev pub Bundles : List Resource → List ℕ → List ℕ → Result (Vec ℕ Global) Refusal → Type 0
Bundles rs url old (Ok new) = IsBundle rs url old new.items
Bundles rs url old (Err e) = Fails e (bundle rs url old).faults

-- the same for a document that was read
abbrev pub Writes : Read Data → Result (Vec ℕ Global) Refusal → Type 0
Writes r (Ok new) = (r.faults ≡ []) × AreBytesOf r.value new.items
Writes r (Err e) = Fails e r.faults
