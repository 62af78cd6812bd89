-- The row at the start of a text, by a pass over it. This is what the code computes. The laws in proofs/ connect it to IsRow.
use Rattle.std.specs.Prelude.{ℕ, Bool, false, ◌&&◌, ◌==◌, nat_eq, if◌then◌else◌, List, [], ◌∷◌, map, nat_lt, Option, Some, None, option_map}
use Rattle.std.specs.List.{starts_with}
use Rattle.csvw_records.specs.declared.dialect.Dialect.{Dialect}
use Rattle.csvw_records.specs.declared.scan.State.TheVariants.{Start}
use Rattle.csvw_records.specs.Grammar.{terminator_len, trimmed}
use Rattle.csvw_records.specs.Scan.{Outcome, Found, Broken, Unfinished, pass}
use Rattle.csvw_records.specs.Files.{is_ignored}
use Rattle.csvw_records.specs.Lawful.{prefix_of}

-- the text without a CR at its end that may begin a terminator
abbrev pub settled : Dialect → List ℕ → List ℕ
settled d [] = []
settled d (c ∷ []) = if d.line_terminators.crlf && (c == 13) then [] else c ∷ []
settled d (c ∷ e ∷ cs) = c ∷ settled d (e ∷ cs)

-- that CR
abbrev pub unsettled : Dialect → List ℕ → List ℕ
unsettled d [] = []
unsettled d (c ∷ []) = if d.line_terminators.crlf && (c == 13) then c ∷ [] else []
unsettled d (c ∷ e ∷ cs) = unsettled d (e ∷ cs)

-- a text that begins the prefix
abbrev pub begins_prefix : List ℕ → Option (List ℕ) → Bool
begins_prefix text None = false
begins_prefix text (Some prefix) = starts_with nat_eq prefix text

-- a row with this start may still become a comment
abbrev pub may_be_comment : Dialect → List ℕ → Bool
may_be_comment d text = begins_prefix text (prefix_of d)

-- the text from the first terminator on
abbrev pub line_of : Bool → Dialect → List ℕ → Option (List ℕ)
line_of ended d [] = if ended then Some [] else None
line_of ended d (c ∷ cs) = if nat_lt 0 (terminator_len d (c ∷ cs)) then Some (c ∷ cs) else line_of ended d cs

abbrev pub found_row : Dialect → Outcome → Option (Option (List (List ℕ)) × List ℕ)
found_row d (Found values after) = Some (Some (map (trimmed d.trim) values), after)
found_row d (Broken stop rest) = None
found_row d (Unfinished st vs cur) = None

-- the fields of the row at the start, and the text after it
abbrev pub next_row : Bool → Dialect → ℕ → List ℕ → Option (Option (List (List ℕ)) × List ℕ)
next_row ended d i text =
    if is_ignored d i text then option_map (λ after. (None, after)) (line_of ended d text) else found_row d (pass ended d Start [] [] text)

-- a line terminator of the dialect
abbrev pub terminator_of : Dialect → List ℕ
terminator_of d = if d.line_terminators.crlf then 13 ∷ 10 ∷ [] else 10 ∷ []
