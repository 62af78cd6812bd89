-- The days are those before the month that the duration leads to. The call's clause speaks of the bits of that month, with which the
-- search stops at a limit.
use Rattle.std.proofs.Common.{◌≡◌, arith, ap, ◌∙◌, ◌+ℤ◌}
use Rattle.jiff_core.proofs.SignedLemmas.{signed_arith}
use Rattle.csvw_duration.specs.Order.{moment_after}
use Rattle.csvw_duration.specs.Timeline.{days_before_month}
use Rattle.csvw_duration.proofs.order.moment_after.Goals as goal

pub returns : goal.returns
unfolding moment_after
returns c =
    let days : c.days_before_month.result ≡ days_before_month (c.args.start +ℤ c.args.value.months) =
    c.days_before_month.ensures.value ∙ ap days_before_month (omega (arith, signed_arith)) in
    omega (arith, signed_arith)
