-- Bytes that are UTF-8 have the source of their text, and others have none.
use Rattle.std.proofs.Common.{◌≡◌, ℕ, List, true, None, IsUtf8, ⊎_elim}
use Rattle.std.specs.Str.{is_utf8}
use Rattle.std.proofs.lemmas.Bool.{cond-true, cond-false, cases_Bool}
use Rattle.std.proofs.lemmas.Str.{is_utf8-from_IsUtf8, IsUtf8-from_is_utf8}
use Rattle.json.specs.Json.{document}
use Rattle.csvw_defaults.specs.Sources.{source_in}

pub of_text : (bs : List ℕ) → IsUtf8 bs → source_in bs ≡ document bs
of_text bs u = cond-true _ _ _ (is_utf8-from_IsUtf8 bs u)

pub of_no_text : (bs : List ℕ) → (IsUtf8 bs → ⊥) → source_in bs ≡ None
of_no_text bs h =
    ⊎_elim (λ (e : is_utf8 bs ≡ true). absurd (h (IsUtf8-from_is_utf8 bs e))) (λ e. cond-false _ _ _ e) (cases_Bool (is_utf8 bs))
