use Rattle.std.proofs.Common.{◌≡◌, ℕ, List, [], ◌∷◌, length, ap, sym, ◌∙◌, chars, arith}
use Rattle.std.proofs.lemmas.Str.{chars-nil, chars_past_char, IsUtf8-past_char}
use Rattle.csvw_meta_datatype.specs.Numbers.{sole}
use Rattle.csvw_meta_datatype.proofs.number.sole.Goals as goal

none_of : (bs : List ℕ) → length bs ≡ 0 → chars bs ≡ []
none_of [] e = chars-nil
none_of (b ∷ bs) e = absurd (omega arith)

pub returns-in_default : goal.returns-in_default
returns-in_default c =
    let none = none_of c.args.text.now (ap length (sym c.chars-chars.ensures.rest) ∙ c.in_default.ensures.steps.0.0) in
    ap sole (sym none)

pub returns-in-None : goal.returns-in-None
returns-in-None c =
    let rest = none_of c.next.new.self.rest.now c.in-None.ensures.steps.0.0 in
    let one = chars_past_char c.args.text.now c.next.new.self.rest.now c.in-Some.c c.utf8.text (sym c.chars-chars.ensures.rest ∙
    c.in-Some.ensures.steps.0) in
    ap sole (sym (one ∙ ap (λ x. c.in-Some.c ∷ x) rest))

pub returns-in-Some-next : goal.returns-in-Some-next
returns-in-Some-next c =
    let rest = c.next.new.self.rest.now in
    let first = sym c.chars-chars.ensures.rest ∙ c.in-Some.ensures.steps.0 in
    let one = chars_past_char c.args.text.now rest c.in-Some.c c.utf8.text first in
    let two = chars_past_char rest c.next-2.new.self.rest.now c.in-Some-next.field-0 (IsUtf8-past_char c.args.text.now rest c.in-Some.c c.utf8.text
    first) c.in-Some-next.ensures.steps.0 in
    ap sole (sym (one ∙ ap (λ x. c.in-Some.c ∷ x) two))
