-- A text that is cut where a row ends (RFC 4180, section 2): `AreWholeRows`, `IsRest`, `body_after`. The rest has the rows that
-- follow, with their numbers.
use Rattle.std.specs.Prelude.{◌≡◌, ◌≢◌, ◌⊎◌, ℕ, ◌+◌, ◌<◌, ◌≤◌, IsTrue, List, [], ◌∷◌, ◌++◌, map, length}
use Rattle.std.specs.List.{All, enumerate_from}
use Rattle.csvw_records.specs.declared.dialect.Dialect.{Dialect}
use Rattle.csvw_records.specs.Lawful.{IsLawful}
use Rattle.csvw_records.specs.Lengths.{byte_len, row_limit}
use Rattle.csvw_records.specs.RowValue.{Given}
use Rattle.csvw_records.specs.Files.{Row, IsRow, AreRows, File, Body, given, remaining, content, text_of, is_text}

-- none of the rows is too long
abbrev pub AreShort : List Row → Type 0
AreShort rows = All (λ row. byte_len row.text ≤ row_limit) rows

-- The bytes are these rows, each with its terminator, and there is at least one. So a row ends where they end.
pub record AreWholeRows (d : Dialect) (bytes : List ℕ) (rows : List Row) : Type 0 where
  pub is_utf8 : IsTrue (is_text bytes)
  pub are_rows : AreRows d 0 (content bytes) rows []
  pub some : 0 < length rows
  pub short : AreShort rows

-- The text is these rows, the first of which is at place i. The last one may have no terminator, if it isn't empty.
pub record EndsOpenAt (d : Dialect) (i : ℕ) (text : List ℕ) (rows : List Row) : Type 0 where
  pub front : List Row
  pub last : Row
  pub all : rows ≡ front ++ last ∷ []
  pub before : AreRows d i text front last.text
  pub is_row : IsRow d (i + length front) last []
  pub not_empty : last.text ≢ []

abbrev pub AreAllFrom : Dialect → ℕ → List ℕ → List Row → Type 0
AreAllFrom d i text rows = AreRows d i text rows [] ⊎ EndsOpenAt d i text rows

-- The bytes are the rest of a file after its first i rows: these rows. The file has at most max rows. A U+FEFF at the start is a
-- character like any other.
pub record IsRest (d : Dialect) (max i : ℕ) (bytes : List ℕ) (rows : List Row) : Type 0 where
  pub is_utf8 : IsTrue (is_text bytes)
  pub are_rows : AreAllFrom d i (text_of bytes) rows
  pub few : i + length rows ≤ max
  pub short : AreShort rows

-- a file that begins with whole rows, and its rest
pub record IsParted (d : Dialect) (max : ℕ) (rest : List ℕ) (rows all : List Row) : Type 0 where
  pub more : List Row
  pub all_are : all ≡ rows ++ more
  pub is_rest : IsRest d max (length rows) rest more

pub record RowsOfParts : Type 0 where
  -- the rows of both are the rows of the whole
  pub join : (d : Dialect) (max : ℕ) (front rest : List ℕ) (rows more : List Row) → IsLawful d → AreWholeRows d front rows
      → IsRest d max (length rows) rest more → File d max (front ++ rest) (rows ++ more)
  -- and there are no others
  pub parted : (d : Dialect) (max : ℕ) (front rest : List ℕ) (rows all : List Row) → IsLawful d → AreWholeRows d front rows
      → File d max (front ++ rest) all → IsParted d max rest rows all

-- The header rows and data rows among these, after so many rows of all kinds, of which so many remained.
abbrev pub body_after : Dialect → ℕ → ℕ → List Row → List Given
body_after d rows remained more = map (given d) (enumerate_from remained (remaining d (rows + 1) more))

abbrev pub NumbersGoOn : Type 0
NumbersGoOn = (d : Dialect) (rows more : List Row) → Body d (rows ++ more) ≡ Body d rows ++ body_after d (length rows) (length (remaining d 1 rows)) more
