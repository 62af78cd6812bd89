-- The text after its sign.
use Rattle.std.proofs.Common.{◌≡◌, sym, ap, ◌∙◌, rules, List, ℕ, ◌∷◌, true}
use Rattle.std.proofs.lemmas.Str.{chars_past_char}
use Rattle.std.specs.Str.{chars}
use Rattle.csvw_datatype_core.specs.NumberPatterns.{is_sign, unsigned}
use Rattle.csvw_datatype_core.proofs.number_pattern.unsigned.Goals as goal

after_sign : (cs tail : List ℕ) (c : ℕ) → cs ≡ c ∷ tail → is_sign c ≡ true → tail ≡ unsigned cs
after_sign cs tail c e s = cc

pub returns-in-Some : goal.returns-in-Some
returns-in-Some c =
    let first : chars c.args.text.now ≡ c.in-Some.c ∷ chars c.next.new.self.rest.now =
    chars_past_char c.args.text.now c.next.new.self.rest.now c.in-Some.c c.utf8.text (search rules) in
    let sign : is_sign c.in-Some.c ≡ true = sym c.is_sign.ensures ∙ c.if-is_sign.true in
    ap chars c.as_str.ensures ∙ after_sign (chars c.args.text.now) (chars c.next.new.self.rest.now) c.in-Some.c first sign
