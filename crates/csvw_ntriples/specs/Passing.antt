-- What a reader has read of a document, line by line: `Passes` (RDF 1.1 N-Triples, section 2).
use Rattle.std.specs.Prelude.{ℕ, ◌≡◌, List, [], ◌∷◌, ◌++◌, IsTrue, ◌⊎◌, Option, option_to_list, Result, Ok, Err, chars, IsUtf8, false}
use Rattle.std.specs.List.{AllByRecursion}
use Rattle.csvw_ntriples.specs.Character.{is_break}
use Rattle.csvw_ntriples.specs.Grammar.{Denotes}
use Rattle.csvw_ntriples.specs.Reading.{LineGives}
use Rattle.csvw_ntriples.specs.declared.term.NtFault.{NtFault}
use Rattle.csvw_ntriples.specs.declared.term.NtTriple.{NtTriple}

-- The bytes before rest denote the triples. These are no bytes, or the bytes before a line break, or all bytes.
abbrev pub Passes : List ℕ → List NtTriple → List ℕ → Type 0
Passes bytes ts rest =
    ((bytes ≡ rest) × (ts ≡ []))
    ⊎ (((front : List ℕ) × (c : ℕ) × (bytes ≡ front ++ c ∷ rest) × IsTrue (is_break c) × Denotes front ts)
    ⊎ ((rest ≡ []) × Denotes bytes ts))

-- the first line, up to a CR, an LF or the end of the bytes, and what follows it
abbrev pub IsFirstLine : List ℕ → List ℕ → List ℕ → Type 0
IsFirstLine bytes line rest =
    AllByRecursion (λ c. is_break c ≡ false) line
    × (((bytes ≡ line) × (rest ≡ [])) ⊎ ((c : ℕ) × (bytes ≡ line ++ c ∷ rest) × IsTrue (is_break c)))

-- the first line denotes no list of triples
abbrev pub BeginsWrong : List ℕ → Type 0
BeginsWrong bytes = (line rest : List ℕ) × IsFirstLine bytes line rest × ((ts : List NtTriple) → Denotes line ts → ⊥)

-- the bytes of a line, and its triple, if it has one
abbrev pub BytesGive : List ℕ → Option NtTriple → Type 0
BytesGive line o = IsUtf8 line × LineGives (chars line) o

-- the triples of an answer: one or none
abbrev pub given : Result (Option NtTriple) NtFault → List NtTriple
given (Ok o) = option_to_list o
given (Err e) = []
