-- The bytes of a part of a text that are symbols.
use Rattle.std.specs.Prelude.{◌≡◌, ℕ, ◌+◌, ◌≤◌, Bool, List, length, map, Option, Some, MatchOption}
use lib.Lanes.{chunk, mask_l}
use Rattle.memchr.specs.Find.{is_byte, is_byte3, Nowhere, NoneBefore, Passes}
use Rattle.csvw_fields.specs.declared.cut.Symbols.{Symbols}
use Rattle.csvw_fields.specs.declared.marks.Marks.{Marks}

-- a delimiter, a quote or a line feed
abbrev pub is_symbol : Symbols → ℕ → Bool
is_symbol s c = is_byte3 s.delimiter s.quote 10 c

-- a quote
abbrev pub is_quote : Symbols → ℕ → Bool
is_quote s c = is_byte s.quote c

-- a bit is set for each byte of the part that passes the test, the lowest for the first
pub record AreMarks (test : ℕ → Bool) (text : List ℕ) (m : Marks) : Type 0 where
  pub few : m.len ≤ 64
  pub within : m.from + m.len ≤ length text
  pub mask : m.mask ≡ mask_l (map test (chunk m.from m.len text))

-- they are the marks of these symbols, if there are some
abbrev pub Marked : Option Symbols → List ℕ → Marks → Type 0
Marked symbols text m = (s : Symbols) → symbols ≡ Some s → AreMarks (is_symbol s) text m

-- so many bytes come before the first that passes the test, of those from one place up to another
abbrev pub StandsAhead : (ℕ → Bool) → List ℕ → ℕ → ℕ → ℕ → Type 0
StandsAhead test text from to len = NoneBefore (Passes test text) from to (from + len) × Passes test text (from + len)

-- so many come before it, or none passes the test
abbrev pub IsAhead : (ℕ → Bool) → List ℕ → ℕ → ℕ → Option ℕ → Type 0
IsAhead test text from to len = MatchOption len (Nowhere (Passes test text) from to) (StandsAhead test text from to)
