-- The JSON of a text that U+FEFF precedes.
use Rattle.std.proofs.Common.{◌≡◌, List, [], ◌∷◌, ◌++◌, ℕ, IsUtf8, ap, ◌∙◌}
use Rattle.std.proofs.lemmas.Bool.{cond-true}
use Rattle.std.proofs.lemmas.Str.{is_utf8-from_IsUtf8}
use Rattle.serde_json.specs.Read.{read}
use Rattle.csvw_meta.specs.Json.{json_of, without_bom}

pub json_behind : (bytes text : List ℕ) → bytes ≡ (239 ∷ 187 ∷ 191 ∷ []) ++ text → IsUtf8 text → json_of (without_bom bytes) ≡ read text
json_behind bytes text e u = ap (λ bs. json_of (without_bom bs)) e ∙ cond-true _ _ _ (is_utf8-from_IsUtf8 text u)
