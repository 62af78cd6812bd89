-- The bytes of a literal that are escaped (RDF 1.1 N-Triples, section 7).
use Rattle.std.specs.Prelude.{ℕ, ◌≡◌, ◌<◌, ◌≤◌, Bool, false, ◌||◌, ◌==◌, List, get_or}

-- `"`, `\`, LF or CR
abbrev pub needs_escape : ℕ → Bool
needs_escape b = b == 34 || b == 92 || b == 10 || b == 13

-- no byte from one place up to another is escaped
abbrev pub PlainBetween : List ℕ → ℕ → ℕ → Type 0
PlainBetween bytes from to = (k : ℕ) → from ≤ k → k < to → needs_escape (get_or bytes k 0) ≡ false
