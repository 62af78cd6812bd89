-- What a draft writes.
use Rattle.std.specs.Prelude.{◌≡◌, ℕ, List, Some, None}
use Rattle.csvw_description.specs.declared.description.Description.{Description}
use Rattle.csvw_meta.specs.Document.{document_by, group_in}
use Rattle.csvw_meta_core.specs.declared.profile.Profile.{Profile}
use Rattle.csvw_streams.specs.Streams.{Stream, IsCut, Sends}
use Rattle.csvw_draft.specs.declared.asked.Draft.{Draft}
use Rattle.csvw_draft.specs.declared.drafting.TheConstants.{UNKNOWN_URL}

-- the URL of the document: the base, if it is given
abbrev pub url_of : Draft → List ℕ
url_of asked = elim asked.base [ None ↦ UNKNOWN_URL.now | Some base ↦ base.now ]

-- The text is a metadata document without a fault in the profile, at its own URL.
abbrev pub IsDocument : Profile → List ℕ → List ℕ → Type 0
IsDocument profile url text = (group : Description) × (group_in (document_by profile url text) ≡ Some group)

-- a document is sent whole
abbrev pub SendsDocument : Profile → List ℕ → Stream → Type 0
SendsDocument profile url out = (text : List ℕ) × IsDocument profile url text × Sends out text

-- a front of a document is sent, and then the stream fails
abbrev pub CutsDocument : Profile → List ℕ → Stream → Type 0
CutsDocument profile url out = (text : List ℕ) × IsDocument profile url text × IsCut out text
