-- The rows of a text, those that are skipped or comments, and those that a reader returns: `is_ignored` (RFC 4180, section 2; Model
-- for Tabular Data, section 8).
use Rattle.std.specs.Prelude.{◌≡◌, ◌≢◌, ◌⊎◌, ℕ, ◌+◌, ◌-◌, ◌<◌, ◌≤◌, Bool, true, false, ◌&&◌, ◌||◌, ◌==◌, nat_eq, nat_lt, if◌then◌else◌, IsTrue, List}
use Rattle.std.specs.Prelude.{[], ◌∷◌, ◌++◌, map, length, take, drop, filter_map, Option, Some, None, MatchBool, encode_utf8_all, chars}
use Rattle.std.specs.List.{starts_with, enumerate_from, list_all, All}
use Rattle.std.specs.Str.Lossy.{utf8_valid_len}
use Rattle.csvw_records.specs.declared.dialect.Dialect.{Dialect}
use Rattle.csvw_records.specs.Lawful.{prefix_of}
use Rattle.csvw_records.specs.Grammar.{terminator_len, RowText}
use Rattle.csvw_records.specs.Lengths.{byte_len, row_limit}
use Rattle.csvw_records.specs.RowValue.{Given}

-- a row as it is in the text, and its fields if it has any: a skipped row and a comment have none
pub record Row : Type 0 where
  pub text : List ℕ
  pub fields : Option (List (List ℕ))

-- the text begins with this prefix, if there is one
abbrev pub begins_with : List ℕ → Option (List ℕ) → Bool
begins_with text None = false
begins_with text (Some prefix) = starts_with nat_eq text prefix

-- the row at place i, from 0, is one of the first that are skipped, or a comment
abbrev pub is_ignored : Dialect → ℕ → List ℕ → Bool
is_ignored d i row = nat_lt i d.skip_rows || begins_with row (prefix_of d)

-- no terminator is in the text, before what comes after it
abbrev pub HasNoTerminator : Dialect → List ℕ → List ℕ → Type 0
HasNoTerminator d [] after = Unit {0}
HasNoTerminator d (c ∷ cs) after = (terminator_len d (c ∷ cs ++ after) ≡ 0) × HasNoTerminator d cs after

-- the row at place i, before what comes after it
abbrev pub IsRow : Dialect → ℕ → Row → List ℕ → Type 0
IsRow d i row after = MatchBool (is_ignored d i row.text)
    ((row.fields ≡ None) × HasNoTerminator d row.text after)
    ((fields : List (List ℕ)) × (row.fields ≡ Some fields) × RowText d row.text fields after)

-- a row ends before a terminator, and at the end of a text that has ended
abbrev pub EndsRow : Bool → Dialect → List ℕ → Type 0
EndsRow ended d after = (0 < terminator_len d after) ⊎ (IsTrue ended × (after ≡ []))

-- Text is these rows, each with its terminator, and then rest. The first of them is at place i.
abbrev pub AreRows : Dialect → ℕ → List ℕ → List Row → List ℕ → Type 0
AreRows d i text [] rest = text ≡ rest
AreRows d i text (row ∷ rows) rest = (after : List ℕ) × (text ≡ row.text ++ after) × IsRow d i row after
    × (0 < terminator_len d after) × AreRows d (i + 1) (drop (terminator_len d after) after) rows rest

-- the last row may have no terminator, if it isn't empty
pub record EndsOpen (d : Dialect) (text : List ℕ) (rows : List Row) : Type 0 where
  pub front : List Row
  pub last : Row
  pub all : rows ≡ front ++ last ∷ []
  pub before : AreRows d 0 text front last.text
  pub is_row : IsRow d (length front) last []
  pub not_empty : last.text ≢ []

abbrev pub AreAllRows : Dialect → List ℕ → List Row → Type 0
AreAllRows d text rows = AreRows d 0 text rows [] ⊎ EndsOpen d text rows

-- at most so many rows of all kinds, none of them too long
abbrev pub KeepsLimits : ℕ → List Row → Type 0
KeepsLimits max rows = (length rows ≤ max) × All (λ row. byte_len row.text ≤ row_limit) rows

-- U+FEFF at the start is dropped
abbrev pub without_mark : List ℕ → List ℕ
without_mark [] = []
without_mark (c ∷ cs) = if c == 65279 then cs else c ∷ cs

-- the characters at the start of the bytes, up to the first byte that is not UTF-8, and whether they are all
abbrev pub text_of : List ℕ → List ℕ
text_of bytes = chars (take (utf8_valid_len bytes) bytes)

-- those characters without the mark
abbrev pub content : List ℕ → List ℕ
content bytes = without_mark (text_of bytes)

abbrev pub is_text : List ℕ → Bool
is_text bytes = utf8_valid_len bytes == length bytes

-- the bytes are a file of these rows
pub record File (d : Dialect) (max : ℕ) (bytes : List ℕ) (rows : List Row) : Type 0 where
  pub is_utf8 : IsTrue (is_text bytes)
  pub are_rows : AreAllRows d (content bytes) rows
  pub limits : KeepsLimits max rows

-- the bytes are a file of some rows
abbrev pub IsWhole : Dialect → ℕ → List ℕ → Type 0
IsWhole d max bytes = (rows : List Row) × File d max bytes rows

-- the text begins with these rows, each with its terminator
pub record BeginsWithRows (d : Dialect) (max : ℕ) (text : List ℕ) (rows : List Row) : Type 0 where
  pub rest : List ℕ
  pub are_rows : AreRows d 0 text rows rest
  pub limits : KeepsLimits max rows

abbrev pub IsLongest : (List Row → Type 0) → List Row → Type 0
IsLongest P rows = P rows × ((others : List Row) → P others → length others ≤ length rows)

-- the longest list of rows from the start, each with its terminator; all rows of a whole file
abbrev pub Front : Dialect → ℕ → List ℕ → Bool → List Row → Type 0
Front d max bytes ended rows = (IsTrue ended × File d max bytes rows)
    ⊎ ((IsTrue ended → (others : List Row) → File d max bytes others → ⊥) × IsLongest (BeginsWithRows d max (content bytes)) rows)

abbrev pub is_empty : {X : Type 0} → List X → Bool
is_empty [] = true
is_empty (x ∷ xs) = false

-- the source number and the fields of a row that remains; a blank row doesn't if the dialect skips it
abbrev pub remaining_fields : Dialect → ℕ → Option (List (List ℕ)) → Option (ℕ × List (List ℕ))
remaining_fields d source None = None
remaining_fields d source (Some fields) = if d.skip_blank_rows && list_all is_empty fields then None else Some (source, fields)

-- the row at this place, from 0, among those that remain, as it is returned; the header rows come first
abbrev pub given : Dialect → ℕ × (ℕ × List (List ℕ)) → Given
given d (place, (source, fields)) =
    record { fields = map encode_utf8_all (drop d.skip_columns fields); source = source; number = (place + 1) - d.header_row_count }

-- the rows that remain, with their source numbers, which continue from the first
abbrev pub remaining : Dialect → ℕ → List Row → List (ℕ × List (List ℕ))
remaining d source rows = filter_map (λ (r : ℕ × Row). remaining_fields d r.0 r.1.fields) (enumerate_from source rows)

-- the header rows and data rows
abbrev pub Body : Dialect → List Row → List Given
Body d rows = map (given d) (enumerate_from 0 (remaining d 1 rows))
