-- Laws of line terminators (RFC 4180, section 2).
use Rattle.std.specs.Prelude.{◌≡◌, ℕ, ◌<◌, ◌≤◌, Bool, true, ◌||◌, ◌==◌, List, [], ◌∷◌, ◌++◌, length, drop, chars, encode_utf8_all, IsUtf8}
use Rattle.csvw_records.specs.declared.dialect.Dialect.{Dialect}
use Rattle.csvw_records.specs.Lawful.{IsLawful}
use Rattle.csvw_records.specs.Files.{EndsRow, is_ignored}
use Rattle.csvw_records.specs.Grammar.{terminator_len}
use Rattle.csvw_records.specs.NextRow.{terminator_of}

-- CR or LF
abbrev pub is_break : ℕ → Bool
is_break c = (c == 13) || (c == 10)

-- a text that is empty or begins with a line break
abbrev pub BeginsBreak : List ℕ → Type 0
BeginsBreak [] = Unit {0}
BeginsBreak (c ∷ cs) = is_break c ≡ true

-- a terminator among the bytes is one among the characters
pub record TermAt (d : Dialect) (r : List ℕ) : Type 0 where
  pub same : terminator_len d (chars r) ≡ terminator_len d r
  pub behind : chars (drop (terminator_len d r) r) ≡ drop (terminator_len d r) (chars r)

pub record TerminatorLaws : Type 0 where
  -- a dialect has a terminator
  pub term_some : (d : Dialect) → IsLawful d → 0 < terminator_len d (terminator_of d)
  -- the empty text has no terminator
  pub nothing_ends : (d : Dialect) → 0 < terminator_len d [] → ⊥
  -- a terminator is within the text
  pub term_within : (d : Dialect) (after : List ℕ) → 0 < terminator_len d after → terminator_len d after ≤ length after
  -- it stays the same whatever follows
  pub term_stays : (d : Dialect) (after more : List ℕ) → 0 < terminator_len d after → terminator_len d (after ++ more) ≡ terminator_len d after
  -- it is as long among the bytes of a text as among its characters
  pub term_same : (d : Dialect) (r : List ℕ) → IsUtf8 r → terminator_len d (chars r) ≡ terminator_len d r
  pub term_codes : (d : Dialect) (cs : List ℕ) → 0 < terminator_len d cs → 0 < terminator_len d (encode_utf8_all cs)
  pub term_chars : (d : Dialect) (r : List ℕ) → 0 < terminator_len d r → TermAt d r
  -- what comes after it is text
  pub term_text : (d : Dialect) (r : List ℕ) → 0 < terminator_len d r → IsUtf8 r → IsUtf8 (drop (terminator_len d r) r)
  -- it begins with a line break
  pub terminator_breaks : (d : Dialect) (after : List ℕ) → 0 < terminator_len d after → BeginsBreak after
  -- the text after a row begins with a line break, or is empty
  pub ends_break : (f : Bool) (d : Dialect) (after : List ℕ) → EndsRow f d after → BeginsBreak after
  -- whether a row is a comment doesn't depend on the text after it
  pub ignored_same : (d : Dialect) (i : ℕ) (row after : List ℕ) → IsLawful d → BeginsBreak after → is_ignored d i (row ++ after) ≡ is_ignored d i row
