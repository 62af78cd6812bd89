-- The number of the first digits is below 10^9, so ten times it fits.
use Rattle.std.proofs.Common.{◌+◌, ◌-◌, ◌*◌, get_or, arith, sym, ap, ◌∙◌}
use Rattle.std.proofs.lemmas.Str.Parse.{digit_at}
use Rattle.csvw_duration.proofs.DigitLemmas.{front_small, more}
use Rattle.csvw_duration.proofs.digits.number.Goals as goal

pub overflow_mul-value : goal.overflow_mul-value
overflow_mul-value c =
    omega (arith, c.loop-digit.invariant, front_small c.args.digits.now c.loop-digit.digit-index c.requires.digits c.requires.short)

pub overflow_sub-value : goal.overflow_sub-value
overflow_sub-value c =
    omega (arith, digit_at c.args.digits.now c.loop-digit.digit-index c.requires.digits c.loop-digit-test.true)

pub overflow_add-value : goal.overflow_add-value
overflow_add-value c =
    omega (
      arith,
      c.loop-digit.invariant,
      front_small c.args.digits.now c.loop-digit.digit-index c.requires.digits c.requires.short,
      digit_at c.args.digits.now c.loop-digit.digit-index c.requires.digits c.loop-digit-test.true,
    )

pub loop-digit-preserved : goal.loop-digit-preserved
loop-digit-preserved c =
    let ds = c.args.digits.now in
    let i = c.loop-digit.digit-index in
    ap (λ n. n * 10 + (get_or ds i 0 - 48)) c.loop-digit.invariant ∙ sym (more ds i c.requires.digits c.loop-digit-test.true)

pub returns-clause-small : goal.returns-clause-small
returns-clause-small c =
    omega (arith, c.loop-digit.invariant, front_small c.args.digits.now c.loop-digit.digit-index c.requires.digits c.requires.short)
