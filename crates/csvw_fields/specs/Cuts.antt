-- The fields of a row as they are cut out of its bytes.
use Rattle.std.specs.Prelude.{◌≡◌, ℕ, ◌+◌, ◌-◌, ◌<◌, ◌≤◌, true, false, List, ◌∷◌, ◌++◌, length, take, drop, map, Some, None, chars, encode_utf8_all}
use Rattle.std.specs.Prelude.{if◌then◌else◌, slice_index}
use Rattle.std.specs.Str.{is_utf8}
use Rattle.memchr.specs.Find.{is_byte3}
use Rattle.csvw_records.specs.declared.dialect.Dialect.{Dialect}
use Rattle.csvw_records.specs.declared.dialect.Trim.TheVariants.{No}
use Rattle.csvw_fields.specs.declared.bound.Bound.{Bound}
use Rattle.csvw_fields.specs.declared.cut.Cut.{Cut}
use Rattle.csvw_fields.specs.declared.cut.Symbols.{Symbols}
use Rattle.csvw_fields.specs.Bounds.{bytes_at, is_bound, fields_at}
use Rattle.csvw_records.specs.Lengths.{row_limit}
use Rattle.csvw_records.specs.Grammar.{terminator_len, AreUnits, IsField, AreFields}

-- the dialect's symbols are these bytes, and its fields aren't trimmed
pub record IsSymbols (d : Dialect) (s : Symbols) : Type 0 where
  pub trim : d.trim ≡ No
  pub double : d.double_quote ≡ true
  pub delimiter : d.delimiter ≡ s.delimiter
  pub ascii : s.delimiter < 128
  pub quote_ascii : s.quote < 128
  pub quote : d.quote_char ≡ (if s.quoted then Some s.quote else None)
  pub unquoted : s.quoted ≡ false → s.quote ≡ s.delimiter

-- no symbol is before this place
abbrev pub NoneBefore : Symbols → List ℕ → ℕ → Type 0
NoneBefore s rest at = (k : ℕ) → k < at → is_byte3 s.delimiter s.quote 10 (slice_index rest k) ≡ false

-- the text of a field has this bound; a terminator or a delimiter is at this place, after the field
pub record IsBehind (d : Dialect) (s : Symbols) (rest : List ℕ) (bound : Bound) (at : ℕ) (cut : Cut) : Type 0 where
  pub bound_is : cut.bound ≡ bound
  pub ends : cut.ends ≡ true → (cut.next ≡ at) × (0 < terminator_len d (drop at rest))
  pub goes_on : cut.ends ≡ false → (cut.next ≡ at + 1) × (at < length rest) × (slice_index rest at ≡ s.delimiter)

-- the field at the start of the text, whose own text is there or in a second buffer, and what comes after it
pub record IsCut (d : Dialect) (rest spare : List ℕ) (cut : Cut) : Type 0 where
  pub source : List ℕ
  pub value : List ℕ
  pub after : List ℕ
  pub spelled : chars rest ≡ source ++ after
  pub field : IsField d source value after
  pub text : encode_utf8_all value ≡ bytes_at rest spare cut.bound
  pub bounded : is_bound rest spare cut.bound ≡ true
  pub inside : cut.next ≤ length rest
  pub rest_text : is_utf8 (drop cut.next rest) ≡ true
  pub goes_on : cut.ends ≡ false → (0 < cut.next) × (after ≡ d.delimiter ∷ chars (drop cut.next rest))
  pub ends : cut.ends ≡ true → (0 < terminator_len d (drop cut.next rest)) × (after ≡ chars (drop cut.next rest))

-- the second buffer isn't used for it
abbrev pub IsLent : Dialect → List ℕ → Cut → Type 0
IsLent d rest cut = (spare : List ℕ) → IsCut d rest spare cut

-- something was written after what was there
abbrev pub Grows : List ℕ → List ℕ → Type 0
Grows old new = (more : List ℕ) × (new ≡ old ++ more)

-- the text that these bytes inside quotes mean was written
pub record Unescapes (quote : ℕ) (inside old new : List ℕ) : Type 0 where
  pub text : List ℕ
  pub is_text : is_utf8 text ≡ true
  pub written : new ≡ old ++ text
  pub units : (d : Dialect) → d.double_quote ≡ true → AreUnits d quote (chars inside) (chars text)

-- the same for the bytes up to the quote at this place
pub record IsUnescaped (quote : ℕ) (inside old new : List ℕ) (at : ℕ) : Type 0 where
  pub within : at < length inside
  pub closes : slice_index inside at ≡ quote
  pub front : Unescapes quote (take at inside) old new

-- the fields of a row that begins at start, up to its terminator
pub record IsCutRow (d : Dialect) (text : List ℕ) (start at : ℕ) (spare : List ℕ) (bounds : List Bound) : Type 0 where
  pub row : List ℕ
  pub values : List (List ℕ)
  pub from_start : start ≤ at
  pub within : at ≤ length text
  pub rest_text : is_utf8 (drop at text) ≡ true
  pub spelled : chars (drop start text) ≡ row ++ chars (drop at text)
  pub fields : AreFields d row values (chars (drop at text))
  pub ends : 0 < terminator_len d (drop at text)
  pub texts : fields_at text spare bounds ≡ map encode_utf8_all values

-- The fields from start up to this place were cut, each with the delimiter after it. With the fields of a row that continues there, they are the fields of
-- one row.
pub record IsCutTo (d : Dialect) (text : List ℕ) (start at : ℕ) (spare : List ℕ) (bounds : List Bound) : Type 0 where
  pub values : List (List ℕ)
  pub texts : fields_at text spare bounds ≡ map encode_utf8_all values
  pub goes_on : (row : List ℕ) (more : List (List ℕ)) (after : List ℕ) → chars (drop at text) ≡ row ++ after → AreFields d row more after
      → (whole : List ℕ) × (chars (drop start text) ≡ whole ++ after) × AreFields d whole (values ++ more) after

-- a row from start up to this place has so many bytes with its terminator, and isn't too long
pub record IsRowLen (d : Dialect) (text : List ℕ) (start at len : ℕ) : Type 0 where
  pub short : at - start ≤ row_limit
  pub value : len ≡ (at - start) + terminator_len d (drop at text)
  pub within : terminator_len d (drop at text) ≤ length (drop at text)
