-- What each part of the reader finds at the start of a text of characters.
use Rattle.std.specs.Prelude.{ℕ, ◌≡◌, ◌||◌, ◌==◌, List, [], ◌∷◌, ◌++◌, Bool, false, true, if◌then◌else◌, Option, Some, None, Result, Ok, Err, ◌⊎◌}
use Rattle.std.specs.Prelude.{IsTrue, length, encode_utf8_all, codes}
use Rattle.std.specs.Borrow.{Bor}
use Rattle.std.specs.Char.{IsScalar}
use Rattle.std.specs.List.{list_all}
use Rattle.std.specs.Str.Parse.{AllDigits, digits_value}
use Rattle.csvw_text.specs.Language.{is_letter_or_digit_char, is_language_tag}
use Rattle.csvw_ntriples.specs.Character.{is_blank, is_label_start, is_label_char, is_raw_in_iri, is_raw_in_string, escape_of}
use Rattle.csvw_ntriples.specs.Terminal.{IsNumbered, Spells, IsLabel}
use Rattle.csvw_ntriples.specs.Grammar.{IsIdle, IsTripleLine, IsLongest, IsMark, Takes, TakesTerm}
use Rattle.csvw_ntriples.specs.declared.reading.runs.Class.{Class}
use Rattle.csvw_ntriples.specs.declared.reading.runs.Class.TheVariants as class
use Rattle.csvw_ntriples.specs.declared.reading.runs.Start.{Start}
use Rattle.csvw_ntriples.specs.declared.reading.runs.Start.TheVariants as start
use Rattle.csvw_ntriples.specs.declared.reading.enclosed.Enclosed.{Enclosed}
use Rattle.csvw_ntriples.specs.declared.reading.enclosed.Enclosed.TheVariants as enclosed
use Rattle.csvw_ntriples.specs.declared.term.NtFault.{NtFault}
use Rattle.csvw_ntriples.specs.declared.term.NtFault.TheVariants.{Memory, Syntax}
use Rattle.csvw_ntriples.specs.declared.term.NtTerm.{NtTerm}
use Rattle.csvw_ntriples.specs.declared.term.NtTriple.{NtTriple}

-- runs of characters
abbrev pub is_in : Class → ℕ → Bool
is_in class.Blank c = is_blank c
is_in class.Label c = is_label_char c || c == 46
is_in class.Tag c = is_letter_or_digit_char c || c == 45

abbrev pub Stops : (ℕ → Bool) → List ℕ → Type 0
Stops p [] = Unit {0}
Stops p (c ∷ cs) = p c ≡ false

-- the text is its longest front of such characters, and a rest
abbrev pub IsRun : (ℕ → Bool) → List ℕ → List ℕ → List ℕ → Type 0
IsRun p text front rest = (text ≡ front ++ rest) × (list_all p front ≡ true) × Stops p rest

-- the delimiter that closes a text
abbrev pub mark_of : Enclosed → ℕ
mark_of enclosed.Iri = 62
mark_of enclosed.Literal = 34

abbrev pub is_raw_in : Enclosed → ℕ → Bool
is_raw_in enclosed.Iri c = is_raw_in_iri c
is_raw_in enclosed.Literal c = is_raw_in_string c

abbrev pub escape_in : Enclosed → ℕ → Option ℕ
escape_in enclosed.Iri c = None
escape_in enclosed.Literal c = escape_of c

abbrev pub PieceOf : Enclosed → List ℕ → ℕ → Type 0
PieceOf kind piece c =
    ((piece ≡ c ∷ []) × IsTrue (is_raw_in kind c))
    ⊎ (((letter : ℕ) × (piece ≡ 92 ∷ letter ∷ []) × (escape_in kind letter ≡ Some c)) ⊎ IsNumbered piece c)

-- the text is a piece, which means c, and a rest
abbrev pub Begins : Enclosed → List ℕ → ℕ → List ℕ → Type 0
Begins kind text c rest = (piece : List ℕ) × (text ≡ piece ++ rest) × PieceOf kind piece c

-- the text is so many hexadecimal digits, the number of the character c, and a rest
abbrev pub BeginsDigits : ℕ → List ℕ → ℕ → List ℕ → Type 0
BeginsDigits count text c rest =
    (digits : List ℕ) × (text ≡ digits ++ rest) × (length digits ≡ count) × AllDigits 16 digits × (digits_value 16 digits ≡ c) × IsScalar c

-- the text is pieces up to the delimiter, which mean the characters of value, and a rest after the delimiter
abbrev pub ReadsBody : Enclosed → List ℕ → List ℕ → List ℕ → Type 0
ReadsBody kind text value rest = (body : List ℕ) × (text ≡ body ++ mark_of kind ∷ rest) × Spells (PieceOf kind) body value

-- the same with the bytes of the value
abbrev pub ReadsBytes : Enclosed → List ℕ → List ℕ → List ℕ → Type 0
ReadsBytes kind text bytes rest = (value : List ℕ) × ReadsBody kind text value rest × (bytes ≡ encode_utf8_all value)

-- The relation holds of a value and a rest that were found. It holds of none if the result is Syntax. After Memory nothing is said.
abbrev pub Finds : {V : Type 0} → (V → List ℕ → Type 0) → Result (V × Bor (List ℕ)) NtFault → Type 0
Finds R (Ok r) = R r.0 r.1.now
Finds R (Err Memory) = Unit {0}
Finds {V} R (Err Syntax) = (v : V) (rest : List ℕ) → R v rest → ⊥

-- the first character that is not a space or tab
abbrev pub dark : List ℕ → Option ℕ
dark [] = None
dark (c ∷ cs) = if is_blank c then dark cs else Some c

-- The same if only a rest counts that goes on with a dot: then it is the rest that was found.
abbrev pub FindsBeforeDot : {V : Type 0} → (V → List ℕ → Type 0) → Result (V × Bor (List ℕ)) NtFault → Type 0
FindsBeforeDot {V} R (Ok r) = R r.0 r.1.now × ((v : V) (rest : List ℕ) → R v rest → dark rest ≡ Some 46 → rest ≡ r.1.now)
FindsBeforeDot R (Err Memory) = Unit {0}
FindsBeforeDot {V} R (Err Syntax) = (v : V) (rest : List ℕ) → R v rest → dark rest ≡ Some 46 → ⊥

-- the term that a line ends with, before its dot
abbrev pub EndsLine : List ℕ → NtTerm → Type 0
EndsLine text o = (after end : List ℕ) × TakesTerm o text after × Takes (IsMark (codes ".")) tt after end × IsIdle end

-- the triple of a line, if it has one
abbrev pub LineGives : List ℕ → Option NtTriple → Type 0
LineGives line None = IsIdle line
LineGives line (Some t) = IsTripleLine line t

-- a value that the relation has, or Syntax if it has none; after Memory nothing is said
abbrev pub Answers : {V : Type 0} → (V → Type 0) → Result V NtFault → Type 0
Answers R (Ok v) = R v
Answers R (Err Memory) = Unit {0}
Answers {V} R (Err Syntax) = (v : V) → R v → ⊥

-- the first characters of a text, after spaces and tabs
abbrev pub StartsSo : List ℕ → Start → Type 0
StartsSo text start.Iri = dark text ≡ Some 60
StartsSo text start.Blank = dark text ≡ Some 95
StartsSo text start.Literal = dark text ≡ Some 34
StartsSo text start.Other = (dark text ≡ Some 60 → ⊥) × (dark text ≡ Some 95 → ⊥) × (dark text ≡ Some 34 → ⊥)

-- the front of so many characters does not end with a dot, and the rest has only dots
abbrev pub EndsWithoutDot : List ℕ → ℕ → Type 0
EndsWithoutDot text n =
    (front dots : List ℕ) × (text ≡ front ++ dots) × (length front ≡ n) × (list_all (λ c. c == 46) dots ≡ true)
    × ((xs : List ℕ) → front ≡ xs ++ 46 ∷ [] → ⊥)

-- the first character may begin a label
abbrev pub BeginsLabel : List ℕ → Type 0
BeginsLabel [] = ⊥
BeginsLabel (c ∷ cs) = is_label_start c ≡ true

-- the text is the longest label, of these bytes, and a rest
abbrev pub TakesLabel : List ℕ → List ℕ → List ℕ → Type 0
TakesLabel bytes text rest =
    (name : List ℕ) × (text ≡ name ++ rest) × IsLabel name × IsLongest (λ piece (v : List ℕ). IsLabel piece × (v ≡ piece)) name rest
    × (bytes ≡ encode_utf8_all name)

-- the text is the longest language tag, of these bytes, and a rest
abbrev pub TagBefore : List ℕ → List ℕ → List ℕ → Type 0
TagBefore bytes text rest =
    (tag : List ℕ) × (text ≡ tag ++ rest) × (is_language_tag tag ≡ true)
    × IsLongest (λ piece (v : List ℕ). (is_language_tag piece ≡ true) × (v ≡ piece)) tag rest
    × (bytes ≡ encode_utf8_all tag)
