-- Moments whose text has a `T` between the date and the time of day (Model for Tabular Data, section 6.4.4; XML Schema Part 2,
-- section 3.3.7).
use Rattle.std.specs.Prelude.{◌≡◌, ℕ, ◌+◌, ◌*◌, ◌<◌, List, [], ◌∷◌, ◌++◌, length, ℤ, pos, ◌+ℤ◌, ◌*ℤ◌}
use Rattle.std.specs.List.{AllByRecursion}
use Rattle.std.specs.Char.{IsAsciiDigit}
use Rattle.std.specs.Str.Parse.{digits_value}
use Rattle.csvw_datatype_core.specs.declared.date.DateFormat.TheVariants.{YearFirst}
use Rattle.csvw_datatype_core.specs.declared.moment.MomentFormat.{MomentFormat}
use Rattle.csvw_datatype_core.specs.declared.moment.MomentFormat.TheVariants.{Seconds, Minutes, Spaced}
use Rattle.csvw_datatype_core.specs.Dates.{ReadsDate}

-- two digits that are below a limit
abbrev pub IsPair : List ℕ → ℕ → Type 0
IsPair ds limit = AllByRecursion IsAsciiDigit ds × (length ds ≡ 2) × (digits_value 10 ds < limit)

-- the seconds are ":" and two digits; they are absent if the format has none
abbrev pub IsSeconds : MomentFormat → List ℕ → List ℕ → Type 0
IsSeconds Seconds tail ds = (tail ≡ 58 ∷ ds) × IsPair ds 60
IsSeconds Minutes tail ds = (tail ≡ []) × (ds ≡ [])
IsSeconds (Spaced date time) tail ds = ⊥

-- the text is "T" and a time of day, which is this second of its day
pub record ReadsTime (format : MomentFormat) (text : List ℕ) (second : ℕ) : Type 0 where
  pub h : List ℕ
  pub m : List ℕ
  pub tail : List ℕ
  pub s : List ℕ
  pub is_hour : IsPair h 24
  pub is_minute : IsPair m 60
  pub is_second : IsSeconds format tail s
  pub spelled : text ≡ 84 ∷ (h ++ (58 ∷ (m ++ tail)))
  pub is_value : second ≡ digits_value 10 h * 3600 + digits_value 10 m * 60 + digits_value 10 s

-- the text is a date and a time of day; a day has 86,400 seconds
pub record ReadsJoined (format : MomentFormat) (text : List ℕ) (moment : ℤ) : Type 0 where
  pub date : List ℕ
  pub time : List ℕ
  pub day : ℤ
  pub second : ℕ
  pub is_date : ReadsDate YearFirst date day
  pub is_time : ReadsTime format time second
  pub spelled : text ≡ date ++ time
  pub is_value : moment ≡ (day *ℤ pos 86_400) +ℤ pos second
