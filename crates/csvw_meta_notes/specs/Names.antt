-- Names of properties and of types: names with a prefix, or absolute URLs (Metadata Vocabulary for Tabular Data, section 5.8).
use Rattle.std.specs.Prelude.{ℕ, ◌==◌, ◌&&◌, ◌||◌, List, [], ◌∷◌, Bool, false, nat_lt, length, if◌then◌else◌}
use Rattle.std.specs.List.{position_or_len, before_first, list_all}
use Rattle.serde_json.specs.Data.{Data, null, boolean, number, string, array, object}
use Rattle.serde_json.specs.Find.{as_str}
use Rattle.csvw_text.specs.Class.{is_letter_char, is_digit_char}
use Rattle.csvw_iri.specs.Prefix.{expanded, is_colon}
use Rattle.csvw_iri.specs.Safe.{safe}
use Rattle.csvw_meta_core.specs.Read.{Read, fine, wrong, under, on_kind, each}

-- an ASCII letter or digit, `+`, `-` or `.`
abbrev pub is_scheme_char : ℕ → Bool
is_scheme_char b = is_letter_char b || (is_digit_char b || b == 43 || b == 45 || b == 46)

-- a letter, then such characters (RFC 3986, section 3.1)
abbrev pub is_scheme : List ℕ → Bool
is_scheme [] = false
is_scheme (b ∷ bs) = is_letter_char b && list_all is_scheme_char bs

-- the text before the first colon is a scheme
unfoldable pub has_scheme : List ℕ → Bool
has_scheme text = if nat_lt (position_or_len is_colon text) (length text) then is_scheme (before_first is_colon text) else false

-- The IRI of a name. Its prefix is replaced. A name without a known prefix must begin with a scheme. A name that is not an IRI is a fault
-- at the place of the value, as for a value of a wrong kind.
abbrev pub name_of : List ℕ → Data → List ℕ → Read (List ℕ)
name_of at d name = if has_scheme (expanded name) then fine (safe (expanded name)) else wrong at d []

-- one type
abbrev pub type_name : List ℕ → Data → Read (List ℕ)
type_name at d = on_kind at d [] (as_str d) (name_of at d)

-- one type or several
abbrev pub type_names : List ℕ → Data → Read (List (List ℕ))
type_names at (string s) = under (λ iri. iri ∷ []) (name_of at (string s) s)
type_names at (array ds) = each type_name at 0 ds
type_names at null = wrong at null []
type_names at (boolean b) = wrong at (boolean b) []
type_names at (number n) = wrong at (number n) []
type_names at (object ms) = wrong at (object ms) []
