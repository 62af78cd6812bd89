-- A year has a day more than the year 1 exactly if it is a leap year and February is over. The days of months are a recursion, so
-- that needs the lemmas by induction.
use Rattle.std.proofs.Common.{sym, ◌∙◌, ap, ◌+◌, true, false}
use Rattle.csvw_duration.proofs.CalendarLemmas.{before_march, common_year, leap_is, leap_year}
use Rattle.csvw_duration.proofs.calendar.days_of_months.Goals as goal
use Rattle.csvw_duration.proofs.calendar.days_of_months.Goals.{else-months-gt1-via-then-months-gt1+else-is_leap_year, else-months-gt1-via-else-months-gt1}

pub returns-then-is_leap_year-clause-value : goal.returns-then-is_leap_year-clause-value
returns-then-is_leap_year-clause-value c =
    let leap = leap_is c.args.year true c.ranges.year c.if-is_leap_year.ensures in
    ap (λ n. n + 1) c.common_days-days.ensures.value ∙ leap_year c.args.year c.args.months leap c.if-months-gt1.true

pub returns-else-months-gt1-clause-value : goal.returns-else-months-gt1-clause-value
returns-else-months-gt1-clause-value c =
    let y = c.args.year in
    let n = c.args.months in
    c.common_days-days.ensures.value ∙ elim c.else-months-gt1.branch [
      | else-months-gt1-via-then-months-gt1+else-is_leap_year w ↦ sym (common_year y (leap_is y false c.ranges.year w.if-is_leap_year.ensures) n)
      | else-months-gt1-via-else-months-gt1 w ↦ before_march y n w.if-months-gt1.false
    ]
