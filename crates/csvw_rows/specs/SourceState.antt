-- The state of a source of text.
use Rattle.std.specs.Prelude.{◌≡◌, ℕ, ◌+◌, Bool, not, List, ◌++◌, length, drop, is_some, chars}
use Rattle.std.specs.Str.Lossy.{utf8_valid_len, utf8_error_len}
use Rattle.csvw_rows.specs.declared.source.Source.{Source}
use Rattle.csvw_records.specs.Files.{text_of, content, is_empty}

-- the bytes that it keeps
abbrev pub text_items : Source → List ℕ
text_items s = s.text.items

-- how many of them were taken
abbrev pub taken_of : Source → ℕ
taken_of s = s.taken

-- the bytes that aren't taken
abbrev pub rest_bytes : Source → List ℕ
rest_bytes s = drop s.taken s.text.items

-- the characters that aren't taken
abbrev pub rest_of : Source → List ℕ
rest_of s = chars (rest_bytes s)

-- whether the bytes are not UTF-8, whatever follows
abbrev pub is_bad_of : Source → Bool
is_bad_of s = s.is_bad

-- the bytes at the end that are not a whole character
abbrev pub pending_of : Source → List ℕ
pending_of s = s.pending.items

abbrev pub begun_of : Source → Bool
begun_of s = s.begun

-- the number of bytes that aren't taken, and of those at the end that are not a whole character
abbrev pub unread_bytes_in : Source → ℕ
unread_bytes_in s = length (rest_bytes s) + length (pending_of s)

-- it has decoded these bytes
pub record Decodes (s : Source) (bytes : List ℕ) : Type 0 where
  pub begun : begun_of s ≡ not (is_empty (text_of bytes))
  pub pending : pending_of s ≡ drop (utf8_valid_len bytes) bytes
  pub bad : is_bad_of s ≡ is_some (utf8_error_len (drop (utf8_valid_len bytes) bytes))

-- it decodes some more bytes: more characters follow those that aren't taken, and the text has them too
abbrev pub Pushes : Source → Source → List ℕ → Type 0
Pushes old new piece = (bytes : List ℕ) → Decodes old bytes → Decodes new (bytes ++ piece)
    × ((more : List ℕ) × (rest_of new ≡ rest_of old ++ more) × (content (bytes ++ piece) ≡ content bytes ++ more))

-- more characters follow those that aren't taken
abbrev pub Grows : Source → Source → Type 0
Grows old new = (more : List ℕ) × (rest_of new ≡ rest_of old ++ more)
