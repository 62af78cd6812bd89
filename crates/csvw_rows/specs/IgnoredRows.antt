-- The start of a skipped row or a comment that was read.
use Rattle.std.specs.Prelude.{◌≡◌, ℕ, ◌<◌, ◌≤◌, List, ◌++◌, length, drop, Option, Some, None}
use Rattle.csvw_records.specs.declared.dialect.Dialect.{Dialect}
use Rattle.csvw_records.specs.Grammar.{terminator_len}

-- no terminator begins at these places
abbrev pub NoneBegins : Dialect → List ℕ → ℕ → ℕ → Type 0
NoneBegins d text from to = (k : ℕ) → from ≤ k → k < to → terminator_len d (drop k text) ≡ 0

-- the first terminator from a place on
abbrev pub IsLineEnd : Dialect → List ℕ → ℕ → Option ℕ → Type 0
IsLineEnd d text from (Some at) = (from ≤ at) × (at < length text) × (0 < terminator_len d (drop at text)) × NoneBegins d text from at
IsLineEnd d text from None = NoneBegins d text from (length text)

-- no terminator begins within so many bytes at the front, whatever follows
abbrev pub IsSearched : Dialect → ℕ → List ℕ → Type 0
IsSearched d read rest = (more : List ℕ) → NoneBegins d (rest ++ more) 0 read
