-- The text is the digits before the point, the point, and the digits after it.
use Rattle.std.proofs.Common.{refl, rules, false, true}
use Rattle.csvw_double.proofs.PlainLemmas.{cut, uncut}
use Rattle.csvw_double.proofs.canonical.is_from_one.Goals as goal

pub returns-then-starts_well-clause-above : goal.returns-then-starts_well-clause-above
returns-then-starts_well-clause-above c is =
    cut false c.args.text.now c.split_at.result.0.now c.split_at.result.1.now c.digits_len.result c.split_at.ensures.front c.split_at.ensures.back
    c.digits_len.ensures.digits (c.if-starts_well.ensures.some refl) (c.if-starts_well.ensures.near refl)
    (c.if-starts_well.ensures.first refl) c.in-46.len_at_least (search rules)
    (c.ends_well.ensures.digits is) (c.ends_well.ensures.some is) (c.ends_well.ensures.last is)

pub returns-then-starts_well-clause-below : goal.returns-then-starts_well-clause-below
returns-then-starts_well-clause-below c is =
    cut true c.args.text.now c.split_at.result.0.now c.split_at.result.1.now c.digits_len.result c.split_at.ensures.front c.split_at.ensures.back
    c.digits_len.ensures.digits (c.if-starts_well.ensures.some refl) (c.if-starts_well.ensures.near refl)
    (c.if-starts_well.ensures.first refl) c.in-46.len_at_least (search rules)
    (c.ends_well.ensures.digits is) (c.ends_well.ensures.some is) (c.ends_well.ensures.last is)

pub returns-in-empty-clause-above : goal.returns-in-empty-clause-above
returns-in-empty-clause-above c is =
    uncut false c.args.text.now c.split_at.result.0.now c.split_at.result.1.now c.digits_len.result c.split_at.ensures.front c.split_at.ensures.back
    c.digits_len.ensures.digits (c.starts_well.ensures.some is) (c.starts_well.ensures.near is) (c.starts_well.ensures.first is) c.in-empty.len_below

pub returns-in-empty-clause-below : goal.returns-in-empty-clause-below
returns-in-empty-clause-below c is =
    uncut true c.args.text.now c.split_at.result.0.now c.split_at.result.1.now c.digits_len.result c.split_at.ensures.front c.split_at.ensures.back
    c.digits_len.ensures.digits (c.starts_well.ensures.some is) (c.starts_well.ensures.near is) (c.starts_well.ensures.first is) c.in-empty.len_below
