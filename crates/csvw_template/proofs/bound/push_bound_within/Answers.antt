-- A part that is too long makes the whole too long.
use Rattle.std.proofs.Common.{arith, string_bytes}
use Rattle.csvw_template.specs.Bound.{expand_bound, expand_bound_part}
use Rattle.csvw_template.proofs.WithinLemmas.{part_within}
use Rattle.csvw_template.proofs.bound.push_bound_within.Goals as goal

pub returns-in-TooLong : goal.returns-in-TooLong
unfolding expand_bound
returns-in-TooLong g c =
    let within = part_within (expand_bound_part (g.V.Values.values c.args.values.now)) c.args.parts.now c.loop-part.part-index c.part-item.result
    c.loop-part-test.true c.part-item.is (string_bytes c.args.out.now) (string_bytes c.loop-part.out) c.loop-part.invariant in
    let past = rw c.in-TooLong.is at c.in_ok-push_bound_part.ensures in
    omega arith
