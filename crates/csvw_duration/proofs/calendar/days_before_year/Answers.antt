-- The leap days are those up to the year before. The call's clause speaks of the bits of that year, with which the search stops at
-- a limit.
use Rattle.std.proofs.Common.{◌≡◌, arith, ap, ◌∙◌, pos, ◌-ℤ◌}
use Rattle.jiff_core.proofs.SignedLemmas.{signed_arith}
use Rattle.csvw_duration.specs.Timeline.{days_before_year, leap_days}
use Rattle.csvw_duration.proofs.calendar.days_before_year.Goals as goal

pub returns-clause-value : goal.returns-clause-value
unfolding days_before_year
returns-clause-value c =
    let days : c.leap_days.result ≡ leap_days (c.args.year -ℤ pos 1) = c.leap_days.ensures.value ∙ ap leap_days (omega (arith, signed_arith)) in
    omega (arith, signed_arith)
