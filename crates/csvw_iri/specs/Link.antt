-- The URL of a text, a base and a link, as the crate `url` defines them (URL Standard, section 4.4).
use Rattle.std.specs.Prelude.{◌≡◌, ◌<◌, ℕ, List, Option, Some, None, Result, Ok, Err, false, nat_lt, length, if◌then◌else◌}
use Rattle.url.specs.Parts.{Parts, serialize, IsValid}
use Rattle.url.specs.Parser.{parse_url, Parsed}
use Rattle.csvw_iri.specs.Prefix.{expanded}
use Rattle.csvw_iri.specs.Safe.{safe, has_hash}
use Rattle.csvw_iri.specs.declared.base.TheConstants.{MAX_TEXT}

pub data Refusal : Type 0 where
  too_long : Refusal
  bad : Refusal

abbrev pub max_text : ℕ
max_text = MAX_TEXT

abbrev pub of_parse : Parsed Parts → Result Parts Refusal
of_parse (Ok url) = Ok url
of_parse (Err e) = Err bad

-- the URL of a text, against a base if there is one; a text that is too long is refused first
unfoldable pub url_of : Option Parts → List ℕ → Result Parts Refusal
url_of base text = if nat_lt max_text (length text) then Err too_long else of_parse (parse_url base text)

abbrev pub without_fragment : Parts → Parts
without_fragment url = record url { fragment = None }

-- the IRI of a URL
abbrev pub iri_of : Parts → List ℕ
iri_of url = safe (serialize url)

-- the URL is valid and has no fragment, and its IRI no `#`
pub record IsBase (url : Parts) (iri : List ℕ) : Type 0 where
  pub valid : IsValid url
  pub no_fragment : url.fragment ≡ None
  pub made : iri ≡ iri_of url
  pub no_hash : has_hash iri ≡ false

abbrev pub under : {A B : Type 0} → (A → B) → Result A Refusal → Result B Refusal
under f (Ok a) = Ok (f a)
under f (Err e) = Err e

abbrev pub base_of : Option Parts → List ℕ → Result Parts Refusal
base_of base text = under without_fragment (url_of base text)

abbrev pub resolved : Parts → List ℕ → Result (List ℕ) Refusal
resolved base text = under iri_of (url_of (Some base) text)

-- the link of a text
abbrev pub link_of : Parts → List ℕ → Result (List ℕ) Refusal
link_of base text = resolved base (expanded text)

-- A text that is longer than the limit is refused as too long, whatever its prefix and the base.
abbrev pub LongTextsHaveNoLink : Type 0
LongTextsHaveNoLink = (base : Parts) (text : List ℕ) → max_text < length text → link_of base text ≡ Err too_long
