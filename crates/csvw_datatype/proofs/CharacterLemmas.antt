-- The only character of a text.
use Rattle.std.proofs.Common.{◌≡◌, ℕ, Some, List, [], ◌∷◌, ◌++◌, length, sym, ap, ◌∙◌, arith}
use Rattle.std.specs.Prelude.{encode_utf8, slice_get}
use Rattle.std.specs.Str.{chars, IsUtf8}
use Rattle.std.proofs.lemmas.Str.{chars-nil, chars_past_char}
use Rattle.csvw_datatype.specs.Characters.{IsCharacter}

empty_chars : (text : List ℕ) → length text ≡ 0 → chars text ≡ []
empty_chars [] e = chars-nil
empty_chars (b ∷ bs) e = absurd (omega arith)

-- an empty text has none
pub no_character : (text : List ℕ) → length text ≡ 0 → (c : ℕ) → IsCharacter text c → ⊥
no_character text e c h = let n = empty_chars text e in cc

-- a character with nothing behind it
pub a_character : (text rest : List ℕ) (c : ℕ) → IsUtf8 text → text ≡ encode_utf8 c ++ rest → length rest ≡ 0 → IsCharacter text c
a_character text rest c u is e = chars_past_char text rest c u is ∙ ap (λ cs. c ∷ cs) (empty_chars rest e)

-- a character with another behind it
pub two_characters : (text rest : List ℕ) (c d : ℕ) → IsUtf8 text → text ≡ encode_utf8 c ++ rest → Some d ≡ slice_get (chars rest) 0 → (x : ℕ)
    → IsCharacter text x → ⊥
two_characters text rest c d u is e x h =
    let s : c ∷ chars rest ≡ x ∷ [] = sym (chars_past_char text rest c u is) ∙ h in
    let n : chars rest ≡ [] = cc in
    let f : Some d ≡ slice_get [] 0 = e ∙ ap (λ cs. slice_get cs 0) n in
    cc
