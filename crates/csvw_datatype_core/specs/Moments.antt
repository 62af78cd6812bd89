-- Moments: the texts that write a date and a time of day without a zone, and which moment (Model for Tabular Data, section 6.4.4;
-- XML Schema Part 2, section 3.3.7).
use Rattle.std.specs.Prelude.{◌≡◌, ℕ, Some, List, ◌∷◌, ◌++◌, ℤ, pos, ◌+ℤ◌, ◌*ℤ◌}
use Rattle.csvw_datatype_core.specs.declared.date.DateFormat.{DateFormat}
use Rattle.csvw_datatype_core.specs.declared.time.TimeFormat.{TimeFormat}
use Rattle.csvw_datatype_core.specs.declared.moment.MomentFormat.{MomentFormat}
use Rattle.csvw_datatype_core.specs.declared.moment.MomentFormat.TheVariants.{Seconds, Minutes, Spaced}
use Rattle.csvw_datatype_core.specs.Dates.{ReadsDate}
use Rattle.csvw_datatype_core.specs.JoinedMoments.{ReadsJoined}
use Rattle.csvw_datatype_core.specs.Values.{time_value}

-- the text is a date of a format, one space, and a time of day of a format; a day has 86,400 seconds
pub record ReadsSpaced (date_format : DateFormat) (time_format : TimeFormat) (text : List ℕ) (moment : ℤ) : Type 0 where
  pub date : List ℕ
  pub time : List ℕ
  pub day : ℤ
  pub second : ℕ
  pub is_date : ReadsDate date_format date day
  pub is_time : time_value time_format time ≡ Some second
  pub spelled : text ≡ date ++ (32 ∷ time)
  pub is_value : moment ≡ (day *ℤ pos 86_400) +ℤ pos second

-- the text is this moment
abbrev pub ReadsMoment : MomentFormat → List ℕ → ℤ → Type 0
ReadsMoment Seconds text moment = ReadsJoined Seconds text moment
ReadsMoment Minutes text moment = ReadsJoined Minutes text moment
ReadsMoment (Spaced date time) text moment = ReadsSpaced date time text moment
