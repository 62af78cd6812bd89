-- The text after its "+".
use Rattle.std.proofs.Common.{◌≡◌, ◌==◌, ap, ◌∙◌, rules, List, ℕ, ◌∷◌, true}
use Rattle.std.proofs.lemmas.Str.{chars_past_char}
use Rattle.std.specs.Str.{chars}
use Rattle.csvw_datatype_core.specs.NumberPatterns.{after_plus}
use Rattle.csvw_datatype_core.proofs.number_pattern.after_plus.Goals as goal

after_sign : (cs tail : List ℕ) (c : ℕ) → cs ≡ c ∷ tail → (c == 43) ≡ true → tail ≡ after_plus cs
after_sign cs tail c e s = cc

pub returns-in-Some : goal.returns-in-Some
returns-in-Some c =
    let first : chars c.args.text.now ≡ c.in-Some.c ∷ chars c.next.new.self.rest.now =
    chars_past_char c.args.text.now c.next.new.self.rest.now c.in-Some.c c.utf8.text (search rules) in
    let sign : (c.in-Some.c == 43) ≡ true = search rules in
    ap chars c.as_str.ensures ∙ after_sign (chars c.args.text.now) (chars c.next.new.self.rest.now) c.in-Some.c first sign
