use Rattle.std.proofs.Common.{arith, ◌≡◌, ℕ, List, drop, chars, sym, ap, ◌∙◌}
use Rattle.std.specs.Str.{is_utf8}
use Rattle.std.specs.Prelude.{encode_utf8_all}
use Rattle.std.specs.Str.Iter.{chars_rest}
use Rattle.std.proofs.lemmas.Str.{encodes-chars, chars_from_encodes, is_utf8-from_IsUtf8}
use Rattle.csvw_fields.proofs.DecodeSteps.{steps_off, front_is}
use Rattle.csvw_fields.proofs.decode.front_len.Goals as goal

pub loop-i-init : goal.loop-i-init
loop-i-init c = c.chars-rest.ensures.rest ∙ sym (encodes-chars c.args.text.now c.utf8.text)

pub loop-i-preserved : goal.loop-i-preserved
loop-i-preserved c = steps_off chars_rest
    (chars c.args.text.now) c.loop-i.rest c.next.new.self c.next.result c.loop-i.i c.next.ensures.steps.0 c.loop-i.invariant

pub overflow_sub-result : goal.overflow_sub-result
overflow_sub-result c = (front_is c.args.text.now c.as_str.result.now c.loop-i.i c.utf8.text (c.as_str.ensures ∙ c.loop-i.invariant)).0

pub returns-clause-text : goal.returns-clause-text
returns-clause-text c =
    ap is_utf8 ((front_is c.args.text.now c.as_str.result.now c.loop-i.i c.utf8.text (c.as_str.ensures ∙ c.loop-i.invariant)).1)
    ∙ is_utf8-from_IsUtf8 c.as_str.result.now c.as_str.utf8

pub returns-clause-rest : goal.returns-clause-rest
returns-clause-rest c =
    let low = c.loop-i-test.false in
    let high = c.loop-i.auto.i-end in
    let e : c.loop-i.i ≡ c.args.count = omega (arith, low, high) in
    let rest : List ℕ = c.as_str.result.now in
    ap chars ((front_is c.args.text.now rest c.loop-i.i c.utf8.text (c.as_str.ensures ∙ c.loop-i.invariant)).1)
    ∙ sym (chars_from_encodes (drop c.args.count (chars c.args.text.now)) rest c.as_str.utf8
    (sym (c.as_str.ensures ∙ c.loop-i.invariant ∙ ap (λ n. encode_utf8_all (drop n (chars c.args.text.now))) e)))
