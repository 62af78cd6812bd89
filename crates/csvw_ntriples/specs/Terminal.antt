-- The terminals of N-Triples: their characters, and the text that each means (RDF 1.1 N-Triples, section 7).
use Rattle.std.specs.Prelude.{ℕ, ◌≡◌, List, [], ◌∷◌, ◌++◌, IsTrue, ◌||◌, ◌==◌, ◌⊎◌, Some, length, codes, encode_utf8_all, true}
use Rattle.std.specs.Str.Parse.{AllDigits, digits_value}
use Rattle.std.specs.Char.{IsScalar}
use Rattle.csvw_text.specs.Language.{is_language_tag}
use Rattle.csvw_ntriples.specs.Character.{is_raw_in_iri, is_raw_in_string, escape_of, is_label_start, is_label_char}

-- ECHAR: a backslash and a letter
abbrev pub IsEscape : List ℕ → ℕ → Type 0
IsEscape piece c = (letter : ℕ) × (piece ≡ 92 ∷ letter ∷ []) × (escape_of letter ≡ Some c)

-- UCHAR: \u and four hexadecimal digits, or \U and eight, of the number of a character
abbrev pub IsNumbered : List ℕ → ℕ → Type 0
IsNumbered piece c =
    (mark : ℕ) × (digits : List ℕ) × (piece ≡ 92 ∷ mark ∷ digits)
    × (((mark ≡ 117) × (length digits ≡ 4)) ⊎ ((mark ≡ 85) × (length digits ≡ 8)))
    × AllDigits 16 digits × (digits_value 16 digits ≡ c) × IsScalar c

-- a piece of a STRING, and the character that it means
abbrev pub StringPiece : List ℕ → ℕ → Type 0
StringPiece piece c = ((piece ≡ c ∷ []) × IsTrue (is_raw_in_string c)) ⊎ (IsEscape piece c ⊎ IsNumbered piece c)

-- a piece of an IRIREF, and the character that it means
abbrev pub IriPiece : List ℕ → ℕ → Type 0
IriPiece piece c = ((piece ≡ c ∷ []) × IsTrue (is_raw_in_iri c)) ⊎ IsNumbered piece c

-- the text is one piece for each of the characters
abbrev pub Spells : (List ℕ → ℕ → Type 0) → List ℕ → List ℕ → Type 0
Spells P text [] = text ≡ []
Spells P text (c ∷ cs) = (piece rest : List ℕ) × (text ≡ piece ++ rest) × P piece c × Spells P rest cs

-- STRING_LITERAL_QUOTE
abbrev pub IsString : List ℕ → List ℕ → Type 0
IsString text value = (body : List ℕ) × (text ≡ 34 ∷ body ++ 34 ∷ []) × Spells StringPiece body value

-- IRIREF
abbrev pub IsIriref : List ℕ → List ℕ → Type 0
IsIriref text iri = (body : List ℕ) × (text ≡ 60 ∷ body ++ 62 ∷ []) × Spells IriPiece body iri

-- LANGTAG
abbrev pub IsLangtag : List ℕ → List ℕ → Type 0
IsLangtag text tag = (text ≡ 64 ∷ tag) × (is_language_tag tag ≡ true)

-- characters of a label, and dots between them and before them
abbrev pub IsLabelTail : List ℕ → Type 0
IsLabelTail [] = Unit {0}
IsLabelTail (c ∷ []) = IsTrue (is_label_char c)
IsLabelTail (c ∷ d ∷ cs) = IsTrue (is_label_char c || c == 46) × IsLabelTail (d ∷ cs)

-- the label of a blank node
abbrev pub IsLabel : List ℕ → Type 0
IsLabel [] = ⊥
IsLabel (c ∷ cs) = IsTrue (is_label_start c) × IsLabelTail cs

-- BLANK_NODE_LABEL
abbrev pub IsBlankNode : List ℕ → List ℕ → Type 0
IsBlankNode text label = (text ≡ codes "_:" ++ label) × IsLabel label

-- the terminal means the text of these bytes
abbrev pub InBytes : (List ℕ → List ℕ → Type 0) → List ℕ → List ℕ → Type 0
InBytes P piece bytes = (text : List ℕ) × P piece text × (bytes ≡ encode_utf8_all text)
