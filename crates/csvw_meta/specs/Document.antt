-- The group of tables that a document describes, and the list of the faults of the document: `group_in`, `document_faults`, `IsFault`
-- (Metadata Vocabulary for Tabular Data, section 5). There is a group exactly if the list is empty.
use Rattle.std.specs.Prelude.{ℕ, List, nat_lt, length, if◌then◌else◌, Option, Some, None, Contains, ⊤, []}
use Rattle.serde_json.specs.Data.{Data}
use Rattle.url.specs.Parts.{Parts}
use Rattle.csvw_iri.specs.Link.{base_of}
use Rattle.csvw_description.specs.declared.description.Description.{Description}
use Rattle.csvw_meta_core.specs.declared.fault.MetaFault.{MetaFault}
use Rattle.csvw_meta_core.specs.declared.fault.MetaCode.TheVariants.{NotJson, TooLong}
use Rattle.csvw_meta_core.specs.declared.profile.Profile.{Profile}
use Rattle.csvw_meta_core.specs.declared.profile.Profile.TheVariants.{Core}
use Rattle.csvw_meta_core.specs.Links.{told, no_url}
use Rattle.csvw_meta_core.specs.Read.{Read, fine, faulty, over}
use Rattle.csvw_meta.specs.Described.{described}
use Rattle.csvw_meta.specs.Group.{no_group}
use Rattle.csvw_meta.specs.IfRead.{if_read}
use Rattle.csvw_meta.specs.Json.{json_of, without_bom}
use Rattle.csvw_meta.specs.UrlAlone.{own_base, plain_document}
use Rattle.csvw_meta.specs.declared.document.TheConstants.{MAX_DOCUMENT}

-- the input of a read
pub data Document : Type 0 where
  -- a metadata document that may use what the profile has: the text of its URL, and its bytes
  document_by : (profile : Profile) (url bytes : List ℕ) → Document
  -- the text of a table's URL alone
  plain_description : (url : List ℕ) → Document

-- a metadata document that may use what each document may use
abbrev pub document : (url bytes : List ℕ) → Document
document url bytes = document_by Core url bytes

-- the URL of a document; a fault of it is at the document
abbrev pub own_url : List ℕ → Read Parts
own_url url = told [] no_url (base_of None url)

-- bytes that are no JSON text have that fault alone
abbrev pub of_json : Profile → Parts → Option Data → Read Description
of_json profile base None = faulty NotJson [] no_group
of_json profile base (Some d) = described profile base [] d

abbrev pub of_bytes : Profile → Parts → List ℕ → Read Description
of_bytes profile base bytes = of_json profile base (json_of (without_bom bytes))

-- A document has at most 1,048,576 bytes.
abbrev pub length_of : List ℕ → Read ⊤
length_of bytes = if nat_lt MAX_DOCUMENT (length bytes) then faulty TooLong [] tt else fine tt

-- A document that isn't too long. One whose URL can't be read has that fault alone: there is nothing against which its parts could be resolved.
abbrev pub of_short : Profile → (url bytes : List ℕ) → Read Description
of_short profile url bytes = over no_group (own_url url) (λ base. of_bytes profile base bytes)

-- What the document describes, and its faults. One that is too long has that fault alone, since it isn't read.
unfoldable pub judged : Document → Read Description
judged (document_by profile url bytes) = over no_group (length_of bytes) (λ _. of_short profile url bytes)
judged (plain_description url) = over no_group (own_base [] url) (λ base. described Core base [] (plain_document url))

-- the faults of the document, in the order of the definition
abbrev pub document_faults : Document → List MetaFault
document_faults d = (judged d).faults

-- The document has this fault.
abbrev pub IsFault : Document → MetaFault → Type 0
IsFault d f = Contains (document_faults d) f

-- the group that it describes, if it has no fault
abbrev pub group_in : Document → Option Description
group_in d = if_read (judged d)
