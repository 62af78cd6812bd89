-- The text is a 0, the point, and the digits after it.
use Rattle.std.proofs.Common.{refl, rules, false, true}
use Rattle.csvw_double.proofs.PlainLemmas.{below_one}
use Rattle.csvw_double.proofs.canonical.is_below_one.Goals as goal

pub returns-then-starts_near-clause-above : goal.returns-then-starts_near-clause-above
returns-then-starts_near-clause-above c is =
    below_one false c.args.text.now (search rules) (search rules) (search rules) (c.if-starts_near.ensures refl) (c.ends_well.ensures.digits is)
    (c.ends_well.ensures.some is) (c.ends_well.ensures.last is)

pub returns-then-starts_near-clause-below : goal.returns-then-starts_near-clause-below
returns-then-starts_near-clause-below c is =
    below_one true c.args.text.now (search rules) (search rules) (search rules) (c.if-starts_near.ensures refl) (c.ends_well.ensures.digits is)
    (c.ends_well.ensures.some is) (c.ends_well.ensures.last is)
