-- Copies of bytes that need no escape.
use Rattle.std.specs.Prelude.{ℕ, ◌≡◌, List, length, take}
use Rattle.csvw_ntriples.specs.Escape.{PlainBetween}

-- a room for all bytes has the first `n` of them
abbrev pub IsCopied : List ℕ → List ℕ → ℕ → Type 0
IsCopied bytes room n = (length room ≡ length bytes) × (take n room ≡ take n bytes)

-- it has all of them, and none of them is escaped
abbrev pub IsPlainCopy : List ℕ → List ℕ → Type 0
IsPlainCopy bytes room = (room ≡ bytes) × PlainBetween bytes 0 (length bytes)
