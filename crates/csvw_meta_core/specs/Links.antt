-- Texts that are resolved against a base (Metadata Vocabulary for Tabular Data, section 5.1.2).
use Rattle.std.specs.Prelude.{ℕ, List, [], codes, nat_eq, None, if◌then◌else◌, Some, Result, Ok, Err}
use Rattle.std.specs.List.{starts_with}
use Rattle.serde_json.specs.Data.{Data}
use Rattle.serde_json.specs.Find.{as_str}
use Rattle.url.specs.Parts.{Parts}
use Rattle.csvw_iri.specs.Link.{base_of, resolved, too_long, bad}
use Rattle.csvw_iri.specs.Link as iri
use Rattle.csvw_meta_core.specs.declared.fault.MetaCode.TheVariants.{BadId, BadUrl, UrlTooLong}
use Rattle.csvw_meta_core.specs.Read.{Read, fine, faulty, on_kind}

abbrev pub no_url : Parts
no_url = record { scheme = []; username = []; password = []; host = None; port = None; path = []; query = None; fragment = None }

-- the result of resolving a text: the value, or the fault
abbrev pub told : {A : Type 0} → List ℕ → A → Result A iri.Refusal → Read A
told at dummy (Ok a) = fine a
told at dummy (Err too_long) = faulty UrlTooLong at dummy
told at dummy (Err bad) = faulty BadUrl at dummy

-- a URL without its fragment
abbrev pub url : Parts → List ℕ → Data → Read Parts
url base at d = on_kind at d no_url (as_str d) (λ s. told at no_url (base_of (Some base) s))

-- an `@id`, which must not name a blank node
abbrev pub id : Parts → List ℕ → Data → Read (List ℕ)
id base at d =
    on_kind at d [] (as_str d) (λ s. if starts_with nat_eq s (codes "_:") then faulty BadId at [] else told at [] (resolved base s))
