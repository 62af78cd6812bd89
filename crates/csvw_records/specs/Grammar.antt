-- Rows and fields by the dialect: `RowText`, `trimmed` (Model for Tabular Data, section 8; RFC 4180, section 2). A text is a list
-- of characters.
use Rattle.std.specs.Prelude.{◌≡◌, ◌≢◌, ◌⊎◌, ℕ, ◌&&◌, nat_eq, if◌then◌else◌, IsTrue, List, [], ◌∷◌, ◌++◌, map, Some}
use Rattle.std.specs.List.{starts_with}
use Rattle.csvw_text.specs.Strip.{strip_start, strip_end}
use Rattle.csvw_records.specs.declared.dialect.Dialect.{Dialect}
use Rattle.csvw_records.specs.declared.dialect.Trim.{Trim}
use Rattle.csvw_records.specs.declared.dialect.Trim.TheVariants.{No, Start, End, Both}

-- the number of characters of the terminator at the start of a text: CR LF, or LF, if the dialect has it; 0 if there is none
abbrev pub terminator_len : Dialect → List ℕ → ℕ
terminator_len d text = if d.line_terminators.crlf
    && starts_with nat_eq text (13 ∷ 10 ∷ []) then 2 else (if d.line_terminators.lf && starts_with nat_eq text (10 ∷ []) then 1 else 0)

-- Plain text, before what comes after it: it contains no delimiter, no quote and no terminator.
abbrev pub IsPlain : Dialect → List ℕ → List ℕ → Type 0
IsPlain d [] after = Unit {0}
IsPlain d (c ∷ cs) after = (c ≢ d.delimiter) × (Some c ≢ d.quote_char) × (terminator_len d (c ∷ cs ++ after) ≡ 0) × IsPlain d cs after

-- the character that begins an escape inside quotes: the quote, which is doubled, or a backslash
abbrev pub escape_char : Dialect → ℕ → ℕ
escape_char d quote = if d.double_quote then quote else 92

-- the characters inside quotes that mean one character: the character itself, or an escape
abbrev pub IsUnit : Dialect → ℕ → List ℕ → ℕ → Type 0
IsUnit d quote unit c = ((unit ≡ c ∷ []) × (c ≢ quote) × (c ≢ escape_char d quote))
    ⊎ ((unit ≡ escape_char d quote ∷ c ∷ []) × (IsTrue d.double_quote → c ≡ quote))

-- inside quotes: a unit for each character of the value
abbrev pub AreUnits : Dialect → ℕ → List ℕ → List ℕ → Type 0
AreUnits d quote inside [] = inside ≡ []
AreUnits d quote inside (c ∷ cs) = (unit more : List ℕ) × IsUnit d quote unit c × (inside ≡ unit ++ more) × AreUnits d quote more cs

-- the characters that may come before an opening quote
abbrev pub AreSkipped : Dialect → ℕ → List ℕ → Type 0
AreSkipped d quote [] = Unit {0}
AreSkipped d quote (c ∷ cs) = IsTrue d.skip_initial_space × (c ≡ 32) × (c ≢ d.delimiter) × (c ≢ quote) × AreSkipped d quote cs

-- an opening quote, and what was read after it
pub record IsOpened (d : Dialect) (source value : List ℕ) : Type 0 where
  pub spaces : List ℕ
  pub quote : ℕ
  pub inside : List ℕ
  pub is_quote : d.quote_char ≡ Some quote
  pub skipped : AreSkipped d quote spaces
  pub units : AreUnits d quote inside value
  pub spelled : source ≡ spaces ++ (quote ∷ inside)

-- a quoted field, with its closing quote
abbrev pub IsQuoted : Dialect → List ℕ → List ℕ → Type 0
IsQuoted d source value = (opened : List ℕ) × (o : IsOpened d opened value) × (source ≡ opened ++ o.quote ∷ [])

-- source is one field, before what comes after it; value is its text before it is trimmed
abbrev pub IsField : Dialect → List ℕ → List ℕ → List ℕ → Type 0
IsField d source value after = (IsPlain d source after × (value ≡ source)) ⊎ IsQuoted d source value

-- row is the fields of these values, with the delimiter between them
abbrev pub AreFields : Dialect → List ℕ → List (List ℕ) → List ℕ → Type 0
AreFields d row [] after = ⊥
AreFields d row (v ∷ []) after = IsField d row v after
AreFields d row (v ∷ w ∷ vs) after = (source more : List ℕ) × (row ≡ source ++ d.delimiter ∷ more)
    × IsField d source v (d.delimiter ∷ more ++ after) × AreFields d more (w ∷ vs) after

abbrev pub trimmed : Trim → List ℕ → List ℕ
trimmed No text = text
trimmed Start text = strip_start text
trimmed End text = strip_end text
trimmed Both text = strip_end (strip_start text)

-- RowText: the row, before what comes after it, has these fields
abbrev pub RowText : Dialect → List ℕ → List (List ℕ) → List ℕ → Type 0
RowText d row fields after = (values : List (List ℕ)) × AreFields d row values after × (fields ≡ map (trimmed d.trim) values)
