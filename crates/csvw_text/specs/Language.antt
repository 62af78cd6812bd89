-- Language tags (RDF 1.1 N-Triples, production LANGTAG, without its `@`).
use Rattle.std.specs.Prelude.{ℕ, ◌==◌, ◌&&◌, ◌||◌, Bool, not, length, false, List, [], ◌∷◌}
use Rattle.std.specs.List.{slice_split, list_all}
use Rattle.csvw_text.specs.Class.{is_letter_char, is_digit_char}

abbrev pub is_letter_or_digit_char : ℕ → Bool
is_letter_or_digit_char c = is_letter_char c || is_digit_char c

abbrev pub is_dash : ℕ → Bool
is_dash c = c == 45

-- one or more characters of a class
abbrev pub is_word : (ℕ → Bool) → List ℕ → Bool
is_word p cs = not (length cs == 0) && list_all p cs

-- a word of letters, and words of letters and digits
abbrev pub are_subtags : List (List ℕ) → Bool
are_subtags [] = false
are_subtags (first ∷ others) = is_word is_letter_char first && list_all (is_word is_letter_or_digit_char) others

-- [a-zA-Z]+ ('-' [a-zA-Z0-9]+)*
unfoldable pub is_language_tag : List ℕ → Bool
is_language_tag tag = are_subtags (slice_split is_dash tag)
