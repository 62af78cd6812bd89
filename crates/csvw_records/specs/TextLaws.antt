-- Laws of the characters of bytes (RFC 3629, section 3; Model for Tabular Data, section 8).
use Rattle.std.specs.Prelude.{◌≡◌, ℕ, ◌≤◌, not, nat_eq, if◌then◌else◌, List, ◌++◌, take, drop, chars, IsUtf8}
use Rattle.std.specs.List.{starts_with}
use Rattle.std.specs.Str.Lossy.{utf8_valid_len}
use Rattle.csvw_records.specs.Files.{text_of, without_mark, is_empty}
use Rattle.csvw_records.specs.Lengths.{byte_len}

pub record TextLaws : Type 0 where
  -- the text of bytes begins the text of all bytes that begin with them
  pub text_more : (bytes piece : List ℕ) → text_of (bytes ++ piece) ≡ text_of bytes ++ text_of (drop (utf8_valid_len bytes) bytes ++ piece)
  -- the bytes that are not text yet, if more bytes follow
  pub pending_on : (bytes piece : List ℕ) → drop (utf8_valid_len (bytes ++ piece)) (bytes ++ piece)
      ≡ drop (utf8_valid_len (drop (utf8_valid_len bytes) bytes ++ piece)) (drop (utf8_valid_len bytes) bytes ++ piece)
  -- the mark U+FEFF is dropped at the start of a text alone
  pub by_begun : (t c : List ℕ) → without_mark (t ++ c) ≡ without_mark t ++ (if not (is_empty t) then c else without_mark c)
  -- a text begins with the bytes of a prefix if it begins with its characters
  pub same_start : (rest prefix : List ℕ) → IsUtf8 rest → IsUtf8 prefix → starts_with nat_eq rest prefix ≡ starts_with nat_eq (chars rest) (chars prefix)
  -- a front of a text has no more bytes than a longer one
  pub byte_len_less : (m n : ℕ) (l : List ℕ) → m ≤ n → byte_len (take m l) ≤ byte_len (take n l)
