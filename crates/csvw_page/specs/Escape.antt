-- Texts in HTML: the five characters that mean something there are replaced by character references (HTML, section 13.1.4).
use Rattle.std.specs.Prelude.{ℕ, ◌==◌, List, [], ◌∷◌, codes, if◌then◌else◌}
use Rattle.std.specs.List.{flat_map}

-- `<`, `>`, `&`, `"` and `'` are replaced, the bytes of other characters stay
abbrev pub escape : ℕ → List ℕ → List ℕ
escape c bytes = if c == 60 then codes "&lt;" else (if c == 62 then codes "&gt;" else (if c == 38 then codes "&amp;"
    else (if c == 34 then codes "&quot;" else (if c == 39 then codes "&#39;" else bytes))))

-- a text in HTML; the five characters are single bytes, and no byte of another character is one of theirs
abbrev pub escaped : List ℕ → List ℕ
escaped text = flat_map (λ b. escape b (b ∷ [])) text
