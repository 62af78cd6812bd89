-- Where the bytes so far can no longer begin a file, and the rule that is broken: `StopOf` (RFC 4180, section 2; RFC 3629,
-- section 3).
use Rattle.std.specs.Prelude.{◌≡◌, ◌≢◌, ◌⊎◌, ℕ, ◌+◌, ◌-◌, ◌<◌, ◌≤◌, Bool, true, false, IsTrue, List, [], ◌∷◌, ◌++◌, length, take, drop, Some, IsSome}
use Rattle.std.specs.Str.Lossy.{utf8_valid_len, utf8_error_len}
use Rattle.csvw_records.specs.declared.dialect.Dialect.{Dialect}
use Rattle.csvw_records.specs.declared.stop.RowStop.{RowStop}
use Rattle.csvw_records.specs.declared.stop.RowStop.TheVariants.{NotUtf8, RowTooLong, BadQuote, TextAfterQuote, UnclosedQuote, TooManyRows}
use Rattle.csvw_records.specs.Grammar.{terminator_len, IsPlain, AreSkipped, IsOpened, IsQuoted, IsField}
use Rattle.csvw_records.specs.Files.{Row, IsRow, AreRows, File, Front, is_ignored, is_text, content}
use Rattle.csvw_records.specs.Lengths.{byte_len, row_limit}

-- Text is these rows, each with its terminator. The first of them is at place i. No row is too long if only the first n characters of the text count.
abbrev pub AreRowsWithin : Dialect → ℕ → ℕ → List ℕ → List Row → Type 0
AreRowsWithin d i n text [] = text ≡ []
AreRowsWithin d i n text (row ∷ rows) = (after : List ℕ) × (text ≡ row.text ++ after) × IsRow d i row after × (0 < terminator_len d after)
    × (byte_len (take n row.text) ≤ row_limit)
    × AreRowsWithin d (i + 1) (n - (length row.text + terminator_len d after)) (drop (terminator_len d after) after) rows

-- The text begins a file: with more text after it, it is rows. The text after it doesn't count for the length of a row.
pub record Begins (d : Dialect) (max : ℕ) (text : List ℕ) : Type 0 where
  pub more : List ℕ
  pub rows : List Row
  pub are_rows : AreRowsWithin d 0 (length text) (text ++ more) rows
  pub few : length rows ≤ max

-- the first n characters are the shortest front of the text that does not begin a file
pub record StopsAt (d : Dialect) (max : ℕ) (text : List ℕ) (n : ℕ) : Type 0 where
  pub within : n ≤ length text
  pub none : Begins d max (take n text) → ⊥
  pub shorter : (k : ℕ) → k < n → Begins d max (take k text)

-- text is fields of these values, each with a delimiter after it, and then rest
abbrev pub AfterFields : Dialect → List ℕ → List (List ℕ) → List ℕ → Type 0
AfterFields d text [] rest = text ≡ rest
AfterFields d text (v ∷ vs) rest = (source more : List ℕ) × (text ≡ source ++ d.delimiter ∷ more) × IsField d source v (d.delimiter ∷ more)
    × AfterFields d more vs rest

-- a field that isn't quoted contains a quote
pub record HasBadQuote (d : Dialect) (part : List ℕ) : Type 0 where
  pub values : List (List ℕ)
  pub plain : List ℕ
  pub quote : ℕ
  pub rest : List ℕ
  pub before : AfterFields d part values (plain ++ quote ∷ rest)
  pub is_quote : d.quote_char ≡ Some quote
  pub is_plain : IsPlain d plain (quote ∷ rest)
  pub begun : AreSkipped d quote plain → ⊥

-- after a closing quote comes neither a delimiter, nor a terminator, nor a second quote that makes an escape
pub record HasTextAfter (d : Dialect) (part : List ℕ) : Type 0 where
  pub values : List (List ℕ)
  pub source : List ℕ
  pub value : List ℕ
  pub c : ℕ
  pub rest : List ℕ
  pub before : AfterFields d part values (source ++ c ∷ rest)
  pub quoted : IsQuoted d source value
  pub no_delimiter : c ≢ d.delimiter
  pub no_terminator : terminator_len d (c ∷ rest) ≡ 0
  pub no_escape : IsTrue d.double_quote → Some c ≢ d.quote_char

-- a quote isn't closed
pub record IsLeftOpen (d : Dialect) (part : List ℕ) : Type 0 where
  pub values : List (List ℕ)
  pub source : List ℕ
  pub value : List ℕ
  pub escape : List ℕ
  pub before : AfterFields d part values (source ++ escape)
  pub opened : IsOpened d source value
  pub last : (escape ≡ []) ⊎ ((escape ≡ 92 ∷ []) × (d.double_quote ≡ false))

-- the rule that is broken in a part of the row that has so many rows before it
abbrev pub IsBroken : Dialect → ℕ → List ℕ → Bool → RowStop → Type 0
IsBroken d count part ended BadQuote = (is_ignored d count part ≡ false) × HasBadQuote d part
IsBroken d count part ended TextAfterQuote = (is_ignored d count part ≡ false) × HasTextAfter d part
IsBroken d count part ended UnclosedQuote = (is_ignored d count part ≡ false) × IsTrue ended × IsLeftOpen d part
IsBroken d count part ended other = ⊥

-- the name of the stop after so many rows, if there may be max rows and this part of the next one is read
abbrev pub IsNamed : Dialect → ℕ → ℕ → List ℕ → Bool → RowStop → Type 0
IsNamed d max count part ended RowTooLong = row_limit < byte_len part
IsNamed d max count part ended BadQuote = (byte_len part ≤ row_limit) × IsBroken d count part ended BadQuote
IsNamed d max count part ended TextAfterQuote = (byte_len part ≤ row_limit) × IsBroken d count part ended TextAfterQuote
IsNamed d max count part ended UnclosedQuote = (byte_len part ≤ row_limit) × IsBroken d count part ended UnclosedQuote
IsNamed d max count part ended TooManyRows = (length part ≡ 1) × (count ≡ max)
IsNamed d max count part ended other = ⊥

-- the stop is at a character
pub record StopsInText (d : Dialect) (max : ℕ) (bytes : List ℕ) (front : List Row) (stop : RowStop) : Type 0 where
  pub n : ℕ
  pub part : List ℕ
  pub stops : StopsAt d max (content bytes) n
  pub behind : AreRows d 0 (take n (content bytes)) front part
  pub is_named : IsNamed d max (length front) part false stop

-- the stop is at a byte that can't continue UTF-8 text, or at the end, inside a character
pub record StopsInBytes (d : Dialect) (max : ℕ) (bytes : List ℕ) (ended : Bool) (stop : RowStop) : Type 0 where
  pub begins : Begins d max (content bytes)
  pub no_text : is_text bytes ≡ false
  pub is_bad : IsTrue ended ⊎ IsSome (utf8_error_len (drop (utf8_valid_len bytes) bytes))
  pub is_name : stop ≡ NotUtf8

-- the stop is at the end of bytes that are not a file, although all their fronts begin one
pub record StopsAtEnd (d : Dialect) (max : ℕ) (bytes : List ℕ) (ended : Bool) (front : List Row) (stop : RowStop) : Type 0 where
  pub part : List ℕ
  pub is_ended : IsTrue ended
  pub begins : Begins d max (content bytes)
  pub is_utf8 : is_text bytes ≡ true
  pub no_file : (rows : List Row) → File d max bytes rows → ⊥
  pub behind : AreRows d 0 (content bytes) front part
  pub is_named : IsNamed d max (length front) part true stop

-- StopOf: the stop, and the source number of its row, which is the number of rows before it, plus one
pub record StopOf (d : Dialect) (max : ℕ) (bytes : List ℕ) (ended : Bool) (stop : RowStop) (row : ℕ) : Type 0 where
  pub front : List Row
  pub is_front : Front d max bytes ended front
  pub number : row ≡ length front + 1
  pub stands : StopsInText d max bytes front stop ⊎ (StopsInBytes d max bytes ended stop ⊎ StopsAtEnd d max bytes ended front stop)
