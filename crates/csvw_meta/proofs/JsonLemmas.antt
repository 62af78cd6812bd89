-- Bytes that are UTF-8, and bytes that are not.
use Rattle.std.proofs.Common.{◌≡◌, ℕ, List, true, None, IsUtf8, ⊎_elim}
use Rattle.std.specs.Str.{is_utf8}
use Rattle.std.proofs.lemmas.Bool.{cond-true, cond-false, cases_Bool}
use Rattle.std.proofs.lemmas.Str.{is_utf8-from_IsUtf8, IsUtf8-from_is_utf8}
use Rattle.serde_json.specs.Read.{read}
use Rattle.csvw_meta.specs.Json.{json_of}

pub json_of-text : (bs : List ℕ) → IsUtf8 bs → json_of bs ≡ read bs
json_of-text bs u = cond-true _ _ _ (is_utf8-from_IsUtf8 bs u)

pub json_of-not_text : (bs : List ℕ) → (IsUtf8 bs → ⊥) → json_of bs ≡ None
json_of-not_text bs h =
    ⊎_elim (λ (e : is_utf8 bs ≡ true). absurd (h (IsUtf8-from_is_utf8 bs e))) (λ e. cond-false _ _ _ e) (cases_Bool (is_utf8 bs))
