-- What is left of the text is its front.
use Rattle.std.proofs.Common.{refl, rules, false, true}
use Rattle.csvw_double.proofs.ShortLemmas.{gone, inside, kept}
use Rattle.csvw_double.proofs.canonical.front_len.Goals as goal

pub returns-in-empty-clause-above : goal.returns-in-empty-clause-above
returns-in-empty-clause-above c more =
    gone false c.args.text.now c.split_at.result.0.now c.split_at.result.1.now c.before_zeros.result.now c.digits_len.result c.split_at.ensures.front
    c.split_at.ensures.back c.digits_len.ensures.digits (c.if-not-starts_well.ensures.some refl) (c.if-not-starts_well.ensures.near refl)
    (c.if-not-starts_well.ensures.first refl) c.in-46.len_at_least (search rules) (c.if-is_digits.ensures refl) c.before_zeros.ensures c.in-empty.len_below

pub returns-in-empty-clause-below : goal.returns-in-empty-clause-below
returns-in-empty-clause-below c more =
    gone true c.args.text.now c.split_at.result.0.now c.split_at.result.1.now c.before_zeros.result.now c.digits_len.result c.split_at.ensures.front
    c.split_at.ensures.back c.digits_len.ensures.digits (c.if-not-starts_well.ensures.some refl) (c.if-not-starts_well.ensures.near refl)
    (c.if-not-starts_well.ensures.first refl) c.in-46.len_at_least (search rules) (c.if-is_digits.ensures refl) c.before_zeros.ensures c.in-empty.len_below

pub returns-in_default-before_zeros-clause-within : goal.returns-in_default-before_zeros-clause-within
returns-in_default-before_zeros-clause-within c =
    inside c.args.text.now c.split_at.result.0.now c.split_at.result.1.now c.before_zeros.result.now c.digits_len.result c.split_at.ensures.front
    c.split_at.ensures.back c.in-46.len_at_least (search rules) c.before_zeros.ensures

pub returns-in_default-before_zeros-clause-above : goal.returns-in_default-before_zeros-clause-above
returns-in_default-before_zeros-clause-above c more =
    kept false c.args.text.now c.split_at.result.0.now c.split_at.result.1.now c.before_zeros.result.now c.digits_len.result c.split_at.ensures.front
    c.split_at.ensures.back c.digits_len.ensures.digits (c.if-not-starts_well.ensures.some refl) (c.if-not-starts_well.ensures.near refl)
    (c.if-not-starts_well.ensures.first refl) c.in-46.len_at_least (search rules) (c.if-is_digits.ensures refl)
    c.before_zeros.ensures c.in_default-before_zeros.len_at_least

pub returns-in_default-before_zeros-clause-below : goal.returns-in_default-before_zeros-clause-below
returns-in_default-before_zeros-clause-below c more =
    kept true c.args.text.now c.split_at.result.0.now c.split_at.result.1.now c.before_zeros.result.now c.digits_len.result c.split_at.ensures.front
    c.split_at.ensures.back c.digits_len.ensures.digits (c.if-not-starts_well.ensures.some refl) (c.if-not-starts_well.ensures.near refl)
    (c.if-not-starts_well.ensures.first refl) c.in-46.len_at_least (search rules) (c.if-is_digits.ensures refl)
    c.before_zeros.ensures c.in_default-before_zeros.len_at_least
