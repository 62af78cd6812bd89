-- The length of a row.
use Rattle.std.specs.Prelude.{ℕ, List, length, encode_utf8_all}
use Rattle.csvw_records.specs.declared.length.TheConstants.{ROW_LIMIT}

-- the number of bytes of the characters in UTF-8
abbrev pub byte_len : List ℕ → ℕ
byte_len text = length (encode_utf8_all text)

-- the greatest number of bytes of a row without its terminator
abbrev pub row_limit : ℕ
row_limit = ROW_LIMIT
