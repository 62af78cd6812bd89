use Rattle.std.proofs.Common.{◌≡◌, ◌∙◌, length, chars, refl, sym, arith}
use Rattle.std.specs.Str.Iter.{chars_rest}
use Rattle.std.proofs.lemmas.Str.{encodes-chars}
use Rattle.csvw_fields.proofs.DecodeSteps.{steps_off}
use Rattle.csvw_fields.proofs.Starts.{next_char, common_whole, common_all, common_differs, common_more}
use Rattle.csvw_fields.proofs.rules.same_len.Goals as goal

pub loop-i-init : goal.loop-i-init
loop-i-init c = record { left = c.chars-rest.ensures.rest ∙ sym (encodes-chars c.args.b.now c.utf8.b); in_text = omega arith; same = refl }

pub returns-in_default : goal.returns-in_default
returns-in_default c =
    let i = c.loop-i.invariant in
    let inside = c.loop-i-test.true in
    common_all c.args.a.now (chars c.args.b.now) c.loop-i.rest.rest.now c.loop-i.i i.left c.in_default.ensures.steps.0.0
    (omega (arith, inside)) i.in_text i.same

pub returns-then-next-c : goal.returns-then-next-c
returns-then-next-c c =
    let i = c.loop-i.invariant in
    let k = next_char (chars c.args.b.now) c.loop-i.rest.rest.now c.next.new.self.rest.now c.loop-i.i c.in-Some.next i.left c.in-Some.ensures.steps.0 in
    common_differs c.args.a.now (chars c.args.b.now) c.loop-i.i c.index-a-i.result c.in-Some.next c.loop-i-test.true k c.index-a-i.is c.if-next-c.true i.same

pub loop-i-preserved : goal.loop-i-preserved
loop-i-preserved c =
    let i = c.loop-i.invariant in
    let k = next_char (chars c.args.b.now) c.loop-i.rest.rest.now c.next.new.self.rest.now c.loop-i.i c.in-Some.next i.left c.in-Some.ensures.steps.0 in
    record {
      left = steps_off chars_rest (chars c.args.b.now) c.loop-i.rest c.next.new.self c.next.result c.loop-i.i c.next.ensures.steps.0 i.left;
      in_text = (let w = k.0 in omega (arith, w));
      same = common_more c.args.a.now
          (chars c.args.b.now) c.loop-i.i c.index-a-i.result c.in-Some.next c.loop-i-test.true k c.index-a-i.is c.if-next-c.false i.same;
    }

pub returns : goal.returns
returns c =
    let past = c.loop-i-test.false in
    let within = c.loop-i.auto.i-end in
    let e : c.loop-i.i ≡ length c.args.a.now = omega (arith, past, within) in
    common_whole c.args.a.now (chars c.args.b.now) c.loop-i.i e c.loop-i.invariant.in_text c.loop-i.invariant.same
