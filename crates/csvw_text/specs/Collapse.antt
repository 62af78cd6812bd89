-- White space replaced and collapsed, which is steps 1 and 2 of parsing a cell (Model for Tabular Data, section 6.4, "Parsing
-- Cells"; XML Schema Part 2, section 4.3.6).
use Rattle.std.specs.Prelude.{ℕ, ◌==◌, ◌||◌, Bool, map, List, [], ◌∷◌, if◌then◌else◌}

abbrev pub is_break : ℕ → Bool
is_break c = c == 13 || c == 10 || c == 9

-- the characters that steps 1 and 2 replace by a space
abbrev pub is_space : ℕ → Bool
is_space c = is_break c || c == 32

-- each CR, LF and tab is a space
abbrev pub spaced : List ℕ → List ℕ
spaced text = map (λ c. if is_break c then 32 else c) text

-- the text without the spaces at its start
abbrev pub unled : List ℕ → List ℕ
unled [] = []
unled (c ∷ cs) = if c == 32 then unled cs else c ∷ cs

-- a space before the next word; nothing if no word is left
abbrev pub before_word : List ℕ → List ℕ
before_word [] = []
before_word (c ∷ cs) = 32 ∷ c ∷ cs

-- each run of spaces is one space, and the end has none
abbrev pub single : List ℕ → List ℕ
single [] = []
single (c ∷ cs) = if c == 32 then before_word (unled (single cs)) else c ∷ single cs

-- the ends are stripped and runs of spaces become one
abbrev pub collapse : List ℕ → List ℕ
collapse text = unled (single (spaced text))
