-- The days of the proleptic Gregorian calendar, as XML Schema 1.1 Part 2, appendix E.3, counts them (timeOnTimeline). There is a
-- year 0, and years go on below it.
use Rattle.std.specs.Prelude.{ℤ, pos, ◌+ℤ◌, ◌-ℤ◌, ◌*ℤ◌, unsigned_abs}
use Rattle.std.specs.Int.{int_div_euclid, int_rem_euclid}
use Rattle.jiff_core.specs.Calendar.{days_of_months}

-- how many of the years from 1 to a year are leap years, with a minus before the year 1
unfoldable pub leap_days : ℤ → ℤ
leap_days y = (int_div_euclid y (pos 4) -ℤ int_div_euclid y (pos 100)) +ℤ int_div_euclid y (pos 400)

-- the days before 1 January of a year, from 1 January of the year 1 on
unfoldable pub days_before_year : ℤ → ℤ
days_before_year y = pos 365 *ℤ (y -ℤ pos 1) +ℤ leap_days (y -ℤ pos 1)

-- the days before the first day of a month, which is counted from January of the year 0 on
unfoldable pub days_before_month : ℤ → ℤ
days_before_month month =
    let year = int_div_euclid month (pos 12) in
    days_before_year year +ℤ pos (days_of_months year (unsigned_abs (int_rem_euclid month (pos 12))))
