-- The place where the text of some bytes ends.
use Rattle.std.proofs.Common.{◌≡◌, ℕ, List, [], take, drop, length, refl, sym, ap, ◌∙◌, arith, false}
use Rattle.std.proofs.lemmas.Grind.{common_steps}
use Rattle.std.proofs.lemmas.Str.{utf8_valid_len-IsUtf8}
use Rattle.std.specs.Prelude.{IsUtf8, is_some}
use Rattle.std.specs.Str.Lossy.{utf8_valid_len, utf8_error_len}

pub take_all : (l : List ℕ) → take (length l) l ≡ l
take_all l = grind (arith, common_steps)

pub drop_all : (l : List ℕ) → drop (length l) l ≡ []
drop_all l = grind (arith, common_steps)

pub text_whole : (bytes text : List ℕ) → text ≡ bytes → IsUtf8 bytes → text ≡ take (utf8_valid_len bytes) bytes
text_whole bytes text e u = e ∙ sym (take_all bytes) ∙ ap (λ n. take n bytes) (sym (utf8_valid_len-IsUtf8 bytes u))

no_error : is_some (utf8_error_len (let e : List ℕ = [] in e)) ≡ false
unfolding utf8_error_len
no_error = refl

pub whole_is_good : (bytes : List ℕ) → IsUtf8 bytes → false ≡ is_some (utf8_error_len (drop (utf8_valid_len bytes) bytes))
whole_is_good bytes u = sym (ap (λ n. is_some (utf8_error_len (drop n bytes))) (utf8_valid_len-IsUtf8 bytes u)
    ∙ ap (λ l. is_some (utf8_error_len l)) (drop_all bytes) ∙ no_error)
