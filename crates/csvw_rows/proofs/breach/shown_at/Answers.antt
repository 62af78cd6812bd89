use Rattle.std.proofs.Common.{◌≡◌, ◌∙◌, ◌++◌, List, ℕ, drop, chars, length, sym, ap}
use Rattle.std.specs.Prelude.{encode_utf8}
use Rattle.std.proofs.lemmas.Str.{IsUtf8-from_is_utf8, IsCharBoundary-from_drop, chars_past_char}
use Rattle.csvw_rows.proofs.ShownBytes.{at_end, at_cr, at_other}
use Rattle.csvw_rows.proofs.breach.shown_at.Goals as goal

pub split_at-requires : goal.split_at-requires
split_at-requires c = IsCharBoundary-from_drop c.args.rest.now c.args.at c.requires.within
    (IsUtf8-from_is_utf8 (drop c.args.at c.args.rest.now) c.requires.text)

pub returns-in_default : goal.returns-in_default
returns-in_default c =
    let count = c.char_count-count.ensures.value ∙ ap (λ l. length (chars l)) c.split_at.ensures.front in
    at_end c.args.d.now c.args.rest.now c.args.at c.utf8.rest c.requires.within c.requires.text c.char_count-count.result count
    (ap length (sym c.split_at.ensures.back ∙ sym c.chars.ensures.rest) ∙ c.in_default.ensures.steps.0.0)

pub returns-then-is_cr : goal.returns-then-is_cr
returns-then-is_cr c =
    let count = c.char_count-count.ensures.value ∙ ap (λ l. length (chars l)) c.split_at.ensures.front in
    let more : List ℕ = c.next.new.self.rest.now in
    let spelled : drop c.args.at c.args.rest.now ≡ encode_utf8 c.in-Some.next ++ more = sym (c.chars.ensures.rest ∙ c.split_at.ensures.back)
    ∙ c.in-Some.ensures.steps.0 in
    let same = chars_past_char (drop c.args.at c.args.rest.now) more c.in-Some.next
    (IsUtf8-from_is_utf8 (drop c.args.at c.args.rest.now) c.requires.text) spelled in
    at_cr c.args.d.now c.args.rest.now c.args.at c.utf8.rest c.requires.within c.requires.text c.char_count-count.result c.in-Some.next
    (chars more) count same (sym c.is_cr.ensures ∙ c.if-is_cr.true)

pub returns-else-is_cr : goal.returns-else-is_cr
returns-else-is_cr c =
    let count = c.char_count-count.ensures.value ∙ ap (λ l. length (chars l)) c.split_at.ensures.front in
    let more : List ℕ = c.next.new.self.rest.now in
    let spelled : drop c.args.at c.args.rest.now ≡ encode_utf8 c.in-Some.next ++ more = sym (c.chars.ensures.rest ∙ c.split_at.ensures.back)
    ∙ c.in-Some.ensures.steps.0 in
    let same = chars_past_char (drop c.args.at c.args.rest.now) more c.in-Some.next
    (IsUtf8-from_is_utf8 (drop c.args.at c.args.rest.now) c.requires.text) spelled in
    at_other c.args.d.now c.args.rest.now c.args.at c.utf8.rest c.requires.within c.requires.text c.char_count-count.result c.in-Some.next
    (chars more) count same (sym c.is_cr.ensures ∙ c.if-is_cr.false)
