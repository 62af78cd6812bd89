-- How one character of a text is written in a script and in a manual page.
use Rattle.std.specs.Prelude.{ℕ, List, codes, if◌then◌else◌, ◌==◌, ◌∷◌, [], ◌++◌}
use Rattle.std.specs.Char.{encode_utf8}

-- a character between single quotes, as bash and zsh read it: a quote ends the quotes, stands alone and begins them anew
abbrev pub posix_quoted : ℕ → List ℕ
posix_quoted c = if c == 39 then codes "'\\''" else encode_utf8 c

-- a character between single quotes, as fish reads it: a quote or a backslash has a backslash before it
abbrev pub fish_quoted : ℕ → List ℕ
fish_quoted c = if c == 39 then codes "\\'" else (if c == 92 then codes "\\\\" else encode_utf8 c)

-- a character of a text in roff: what roff reads, or prints as another character, by its name, and a line break as a space
abbrev pub roff_escaped : ℕ → List ℕ
roff_escaped c =
    if c == 92 then codes "\\e" else (
    if c == 45 then codes "\\-" else (
    if c == 39 then codes "\\(aq" else (
    if c == 34 then codes "\\(dq" else (
    if c == 96 then codes "\\(ga" else (
    if c == 94 then codes "\\(ha" else (
    if c == 126 then codes "\\(ti" else (
    if c == 10 then codes " " else encode_utf8 c)))))))

-- bytes between single quotes
abbrev pub in_quotes : List ℕ → List ℕ
in_quotes bytes = ((39 ∷ []) ++ bytes) ++ (39 ∷ [])
