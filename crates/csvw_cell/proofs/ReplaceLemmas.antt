-- The pass over all characters writes the text with spaces in place of line breaks and tabs.
use Rattle.std.proofs.Common.{◌≡◌, ℕ, List, [], ◌∷◌, ◌++◌, sym, ap, ◌∙◌, append_assoc}
use Rattle.std.proofs.Common.{encode_utf8, encode_utf8_all}
use Rattle.std.specs.Prelude.{if◌then◌else◌}
use Rattle.csvw_text.specs.Collapse.{is_break, spaced}

-- what the pass has written and what it writes for the rest, one character on
pub goes_on : (out longer : List ℕ) (yielded : List ℕ) (c d : ℕ) → longer ≡ out ++ encode_utf8 d → d ≡ (if is_break c then 32 else c)
    → ((tail : List ℕ) → out ++ encode_utf8_all (spaced tail) ≡ encode_utf8_all (spaced (yielded ++ tail))) → (tail : List ℕ)
    → longer ++ encode_utf8_all (spaced tail) ≡ encode_utf8_all (spaced ((yielded ++ c ∷ []) ++ tail))
goes_on out longer yielded c d pushes is written tail =
    ap (λ l. l ++ encode_utf8_all (spaced tail)) (pushes ∙ ap (λ x. out ++ encode_utf8 x) is)
    ∙ append_assoc out (encode_utf8 (if is_break c then 32 else c)) (encode_utf8_all (spaced tail))
    ∙ written (c ∷ tail)
    ∙ ap (λ l. encode_utf8_all (spaced l)) (sym (append_assoc yielded (c ∷ []) tail))
