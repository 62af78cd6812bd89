-- The pattern is its mantissa and then its exponent.
use Rattle.std.proofs.Common.{◌≡◌, ℕ, List, ◌++◌, sym, ap, ◌∙◌, append_assoc, OnOk, encode_utf8_all, string_bytes}
use Rattle.std.specs.Prelude.{Result, Ok, Err, Some}
use Rattle.std.proofs.lemmas.Str.{encodes-append}
use Rattle.csvw_datatype_core.specs.NumberPatterns.{exponent_form, mantissa_form}
use Rattle.csvw_datatype_core.proofs.number_pattern.NumberPattern.push_to.Goals as goal

joined : (old mid new m x y : List ℕ) → mid ≡ old ++ encode_utf8_all m → y ≡ x → new ≡ mid ++ encode_utf8_all x → new ≡ old ++ encode_utf8_all (m ++ y)
joined old mid new m x y h q k =
    k ∙ ap (λ b. b ++ encode_utf8_all x) h ∙ append_assoc old (encode_utf8_all m) (encode_utf8_all x)
    ∙ ap (λ b. old ++ b) (sym (encodes-append m x)) ∙ ap (λ b. old ++ encode_utf8_all (m ++ b)) (sym q)

on_ok : {T E : Type 0} {P Q : Type 0} (r : Result T E) → (P → Q) → OnOk r P → OnOk r Q
on_ok (Ok x) f h = f h
on_ok (Err e) f h = h

pub returns-in-Some : goal.returns-in-Some
returns-in-Some c =
    on_ok c.push_to.result
    (joined (string_bytes c.args.text.now) (string_bytes c.push_mantissa.new.text) (string_bytes c.push_to.new.text)
    (mantissa_form c.args.rules.now c.args.self.now) (exponent_form (Some c.in-Some.exponent)) (exponent_form c.args.self.now.exponent)
    c.in_ok-push_mantissa.ensures (ap exponent_form c.in-Some.is)) c.push_to.ensures
