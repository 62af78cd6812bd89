-- The characters that may be raw in an IRIREF (RDF 1.1 N-Triples, section 7), and a text with all others percent-encoded.
use Rattle.std.specs.Prelude.{ℕ, ◌==◌, ◌||◌, List, Bool, not, nat_le, if◌then◌else◌, [], ◌∷◌}
use Rattle.std.specs.List.{list_any, list_all, flat_map}
use Rattle.percent_encoding.specs.Percent.{percent_encode_byte}

-- the bytes that IRIREF forbids; a character outside ASCII has none of them
abbrev pub is_forbidden : ℕ → Bool
is_forbidden b = nat_le b 32 || b == 34 || b == 60 || b == 62 || b == 92 || b == 94 || b == 96 || b == 123 || b == 124 || b == 125

abbrev pub safe_byte : ℕ → List ℕ
safe_byte b = if is_forbidden b then percent_encode_byte b else b ∷ []

-- the text with what IRIREF forbids percent-encoded
unfoldable pub safe : List ℕ → List ℕ
safe text = flat_map safe_byte text

-- each character may be raw in an IRIREF
abbrev pub is_iri : List ℕ → Bool
is_iri text = list_all (λ b. not (is_forbidden b)) text

-- some byte is `#`
abbrev pub has_hash : List ℕ → Bool
has_hash text = list_any (λ b. b == 35) text
