-- The lexical forms of days and moments (XML Schema Part 2, sections 3.3.7 to 3.3.9): the digits that are written, and the numbers
-- that have a form.
use Rattle.std.specs.Prelude.{◌≡◌, ℕ, ◌+◌, ◌/◌, ◌%◌, ◌<◌, List, [], ◌∷◌, ◌++◌, ℤ, pos, neg_ℤ, ◌≤ℤ◌, ◌+ℤ◌, ◌*ℤ◌}
use Rattle.csvw_datatype_core.specs.declared.date.DateFormat.TheVariants.{YearFirst}
use Rattle.csvw_datatype_core.specs.declared.moment.MomentFormat.TheVariants.{Seconds}
use Rattle.csvw_datatype_core.specs.Dates.{date_text, IsDay, day_number, ReadsDate}
use Rattle.csvw_datatype_core.specs.JoinedMoments.{ReadsTime}

-- the day number of a day of the years 0001 to 9999
abbrev pub IsDayNumber : ℤ → Type 0
IsDayNumber day = (neg_ℤ (pos 719_162) ≤ℤ day) × (day ≤ℤ pos 2_932_896)

-- the number of a second of those years
abbrev pub IsMomentNumber : ℤ → Type 0
IsMomentNumber moment = (neg_ℤ (pos 62_135_596_800) ≤ℤ moment) × (moment ≤ℤ pos 253_402_300_799)

-- a number below 100 in two digits
abbrev pub two_digits : ℕ → List ℕ
two_digits n = (48 + n / 10) ∷ (48 + n % 10) ∷ []

-- a number below 10,000 in four digits
abbrev pub four_digits : ℕ → List ℕ
four_digits n = two_digits (n / 100) ++ two_digits (n % 100)

-- a date, by its year, month and day
abbrev pub date_digits : ℕ → ℕ → ℕ → List ℕ
date_digits y m d = date_text YearFirst (four_digits y) (two_digits m) (two_digits d)

-- a time of day after a "T", by its hour, minute and second
abbrev pub time_digits : ℕ → ℕ → ℕ → List ℕ
time_digits h m s = 84 ∷ (two_digits h ++ (58 ∷ (two_digits m ++ (58 ∷ two_digits s))))

-- the date with this day number is added at the end
pub record AppendsDate (old new : List ℕ) (day : ℤ) : Type 0 where
  pub text : List ℕ
  pub appended : new ≡ old ++ text
  pub is_date : ReadsDate YearFirst text day

-- the time of day is added at the end
pub record AppendsTime (old new : List ℕ) (second : ℕ) : Type 0 where
  pub text : List ℕ
  pub appended : new ≡ old ++ text
  pub is_time : ReadsTime Seconds text second

-- the calendar's year, month and day of a day number
pub record IsFields (day : ℤ) (y m d : ℕ) : Type 0 where
  pub year : y < 10_000
  pub is_day : IsDay y m d
  pub is_value : day ≡ day_number y m d

-- the day and the second of its day that a moment is
pub record IsDayAndSecond (moment day : ℤ) (second : ℕ) : Type 0 where
  pub is_day : IsDayNumber day
  pub is_second : second < 86_400
  pub is_value : moment ≡ (day *ℤ pos 86_400) +ℤ pos second
