-- Text that is added after the text that is there.
use Rattle.std.proofs.Common.{◌≡◌, ◌∙◌, ℕ, true, List, ◌++◌, if◌then◌else◌, ap, chars, Ok, Err}
use Rattle.std.specs.Prelude.{IsUtf8, Result, is_ok, OnOk}
use Rattle.std.specs.Str.{is_utf8}
use Rattle.std.proofs.lemmas.Str.{IsUtf8-from_is_utf8, is_utf8-from_IsUtf8, IsUtf8-append, chars-append}

pub added_text : {T E : Type 0} (r : Result T E) (old piece new : List ℕ) → is_utf8 old ≡ true → IsUtf8 piece
    → new ≡ (if is_ok r then old ++ piece else old) → is_utf8 new ≡ true
added_text (Ok x) old piece new u v e = ap is_utf8 e ∙ is_utf8-from_IsUtf8 (old ++ piece) (IsUtf8-append old piece (IsUtf8-from_is_utf8 old u) v)
added_text (Err x) old piece new u v e = ap is_utf8 e ∙ u

pub added_rest : {T E : Type 0} (r : Result T E) (old piece new more : List ℕ) → is_utf8 old ≡ true → new ≡ (if is_ok r then old ++ piece else old)
    → chars piece ≡ more → OnOk r (chars new ≡ chars old ++ more)
added_rest (Ok x) old piece new more u e h = ap chars e ∙ chars-append old piece (IsUtf8-from_is_utf8 old u) ∙ ap (λ l. chars old ++ l) h
added_rest (Err x) old piece new more u e h = tt
