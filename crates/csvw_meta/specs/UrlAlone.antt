-- The description of one table by its URL alone: `plain_document` (Metadata Vocabulary for Tabular Data, sections 5.3 and 5.4).
-- It is that of a document with the context and that `url`, at that URL.
use Rattle.std.specs.Prelude.{◌≡◌, ◌⊎◌, ℕ, List, None, codes}
use Rattle.serde_json.specs.Data.{Data, string, object, no_members, member}
use Rattle.url.specs.Parts.{Parts}
use Rattle.csvw_iri.specs.Link.{base_of}
use Rattle.csvw_meta_core.specs.declared.fault.MetaFault.{MetaFault}
use Rattle.csvw_meta_core.specs.declared.fault.MetaCode.TheVariants.{BadUrl, UrlTooLong}
use Rattle.csvw_meta_core.specs.Links.{told, no_url}
use Rattle.csvw_meta_core.specs.Pointer.{below}
use Rattle.csvw_meta_core.specs.Read.{Read}

abbrev pub plain_document : List ℕ → Data
plain_document url =
    object (member (codes "@context") (string (codes "http://www.w3.org/ns/csvw")) (member (codes "url") (string url) no_members))

-- what is wrong with the URL
pub record IsOfUrl (fault : MetaFault) : Type 0 where
  pub pointer : fault.pointer ≡ codes "/url"
  pub code : (fault.code ≡ BadUrl) ⊎ (fault.code ≡ UrlTooLong)

-- The faults of the base are those of its `url`.
abbrev pub own_base : List ℕ → List ℕ → Read Parts
own_base at url = told (below at (codes "url")) no_url (base_of None url)
