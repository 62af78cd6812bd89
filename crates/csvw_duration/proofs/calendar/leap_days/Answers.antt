-- Each quotient is that of the year, and none is larger than the year. The calls' clauses speak of the bits of the year, with which
-- the search stops at a limit.
use Rattle.std.proofs.Common.{◌≡◌, arith, pos}
use Rattle.std.specs.Int.{int_div_euclid}
use Rattle.jiff_core.proofs.SignedLemmas.{signed_arith}
use Rattle.csvw_duration.specs.Timeline.{leap_days}
use Rattle.csvw_duration.proofs.CalendarLemmas.{quotient}
use Rattle.csvw_duration.proofs.calendar.leap_days.Goals as goal

pub returns-clause-value : goal.returns-clause-value
unfolding leap_days
returns-clause-value c =
    let fourth : c.div_euclid.result ≡ int_div_euclid c.args.year (pos 4) = quotient 4 _ _ c.ranges.year c.div_euclid.ensures in
    let century : c.div_euclid-2.result ≡ int_div_euclid c.args.year (pos 100) = quotient 100 _ _ c.ranges.year c.div_euclid-2.ensures in
    let last : c.div_euclid-3.result ≡ int_div_euclid c.args.year (pos 400) = quotient 400 _ _ c.ranges.year c.div_euclid-3.ensures in
    omega (arith, signed_arith)

pub returns-clause-near : goal.returns-clause-near
returns-clause-near c =
    let fourth : c.div_euclid.result ≡ int_div_euclid c.args.year (pos 4) = quotient 4 _ _ c.ranges.year c.div_euclid.ensures in
    let century : c.div_euclid-2.result ≡ int_div_euclid c.args.year (pos 100) = quotient 100 _ _ c.ranges.year c.div_euclid-2.ensures in
    let last : c.div_euclid-3.result ≡ int_div_euclid c.args.year (pos 400) = quotient 400 _ _ c.ranges.year c.div_euclid-3.ensures in
    (omega (arith, signed_arith), omega (arith, signed_arith))
