-- Moments with parts of a second or a zone in a format: the value of each text (Model for Tabular Data, section 6.4.4).
use Rattle.std.specs.Prelude.{ℕ, ◌+◌, ◌==◌, nat_le, Option, Some, None, option_map, option_and_then, if◌then◌else◌, List, [], ◌∷◌, length, drop, take, ℤ}
use Rattle.csvw_datatype_core.specs.declared.date_time.DateTime.{DateTime}
use Rattle.csvw_datatype_core.specs.declared.date_time.Zone.{Zone}
use Rattle.csvw_datatype_core.specs.declared.moment.MomentFormat.{MomentFormat}
use Rattle.csvw_datatype_core.specs.declared.moment.MomentFormat.TheVariants.{Seconds, Minutes, Spaced}
use Rattle.csvw_datatype_core.specs.declared.time.TimeFormat.{TimeFormat}
use Rattle.csvw_datatype_core.specs.declared.time.TimeFormat.TheVariants as times
use Rattle.csvw_datatype_core.specs.declared.stamp_format.OffsetForm.{OffsetForm}
use Rattle.csvw_datatype_core.specs.declared.stamp_format.OffsetForm.TheVariants as forms
use Rattle.csvw_datatype_core.specs.declared.stamp_format.UtcMark.{UtcMark}
use Rattle.csvw_datatype_core.specs.declared.stamp_format.UtcMark.TheVariants as marks
use Rattle.csvw_datatype_core.specs.declared.stamp_format.ZoneGap.{ZoneGap}
use Rattle.csvw_datatype_core.specs.declared.stamp_format.ZoneGap.TheVariants as gaps
use Rattle.csvw_datatype_core.specs.declared.stamp_format.ZoneFormat.{ZoneFormat}
use Rattle.csvw_datatype_core.specs.declared.stamp_format.StampFormat.{StampFormat}
use Rattle.csvw_datatype_core.specs.DateParts.{is_empty}
use Rattle.csvw_datatype_core.specs.DateTimes.{at_utc, east, west, fraction_at, minutes_of, parts_of, placed_by, trimmed}
use Rattle.csvw_datatype_core.specs.Fields.{◌>>=◌, after_separator, two_at}
use Rattle.csvw_datatype_core.specs.Instants.{Moment, placed_instant}
use Rattle.csvw_datatype_core.specs.PartFields.{no_zone}
use Rattle.csvw_datatype_core.specs.Times.{last_two}
use Rattle.csvw_datatype_core.specs.Values.{at_space, joined_value, moment_value}

-- ---- the date and the time of day

-- the number of bytes of a time of day
abbrev pub time_len : TimeFormat → ℕ
time_len times.Seconds = 8
time_len times.CompactSeconds = 6
time_len times.Minutes = 5
time_len times.CompactMinutes = 4

-- a date, one space and a time of day: the date is the text before the first space
abbrev pub spaced_len : TimeFormat → Option (List ℕ × List ℕ) → ℕ
spaced_len time None = 0
spaced_len time (Some x) = length x.0 + (1 + time_len time)

-- how many bytes of a text are its date and its time of day
abbrev pub moment_len : MomentFormat → List ℕ → ℕ
moment_len Seconds bs = 19
moment_len Minutes bs = 16
moment_len (Spaced date time) bs = spaced_len time (at_space bs)

-- the moment that so many bytes are, and the text after them
abbrev pub moment_in : MomentFormat → ℕ → List ℕ → Option (ℤ × List ℕ)
moment_in format n bs = option_map (λ m. (m, drop n bs)) (moment_value format (take n bs))

-- as much for a format with a `T`
abbrev pub joined_in : MomentFormat → ℕ → List ℕ → Option (ℤ × List ℕ)
joined_in format n bs = option_map (λ m. (m, drop n bs)) (joined_value format (take n bs))

-- the moment that a text begins with, and the text after it
abbrev pub moment_at : MomentFormat → List ℕ → Option (ℤ × List ℕ)
moment_at format bs = moment_in format (moment_len format bs) bs

-- ---- the parts of a second

abbrev pub within : ℕ → List ℕ × List ℕ → Option (List ℕ × List ℕ)
within most x = if nat_le (length x.0) most then Some x else None

-- a point and up to so many digits, or nothing: the digits, and the text after them
abbrev pub fraction_within : ℕ → List ℕ → Option (List ℕ × List ℕ)
fraction_within most bs = fraction_at bs >>= within most

-- ---- the zone

-- the minutes of an offset up to the end of the text
abbrev pub offset_minutes : OffsetForm → List ℕ → Option ℕ
offset_minutes forms.Short bs = if is_empty bs then Some 0 else last_two bs
offset_minutes forms.Basic bs = last_two bs
offset_minutes forms.Extended bs = after_separator 58 bs >>= last_two

-- the hours and the minutes of an offset, after its sign
unfoldable pub offset_digits : OffsetForm → List ℕ → Option (ℕ × ℕ)
offset_digits form bs = do
  h ← two_at bs
  m ← offset_minutes form h.1
  Some (h.0, m)

-- after a "Z"
abbrev pub utc_at : UtcMark → List ℕ → Option (Option ℤ)
utc_at marks.Allowed bs = at_utc bs
utc_at marks.Digits bs = None

-- how many minutes an offset is ahead of "Z"
abbrev pub offset_at : ZoneFormat → List ℕ → Option (Option ℤ)
offset_at zone [] = None
offset_at zone (b ∷ bs) =
    if b == 90 then utc_at zone.utc bs
    else (if b == 43 then east (minutes_of (offset_digits zone.form bs))
    else (if b == 45 then west (minutes_of (offset_digits zone.form bs))
    else None))

abbrev pub after_gap : ZoneGap → List ℕ → Option (List ℕ)
after_gap gaps.None bs = Some bs
after_gap gaps.Space bs = after_separator 32 bs

-- the zone at the end of a text: it is there exactly if the format has one
abbrev pub ending_at : Option ZoneFormat → List ℕ → Option (Option ℤ)
ending_at None bs = no_zone bs
ending_at (Some zone) bs = after_gap zone.gap bs >>= offset_at zone

-- ---- the text

-- the second, the digits of its parts without zeros at their end, and the minutes of the zone
unfoldable pub stamp_parts : StampFormat → List ℕ → Option (ℤ × List ℕ × Option ℤ)
stamp_parts format bs = do
  x ← moment_at format.moment bs
  fraction ← fraction_within format.digits x.1
  minutes ← ending_at format.zone fraction.1
  Some (x.0, trimmed fraction.0, minutes)

-- the value that a text writes, as the same text without a format would have it
abbrev pub stamp_value : StampFormat → Zone → List ℕ → Option DateTime
stamp_value format zone bs = option_and_then (placed_by zone) (stamp_parts format bs)

-- ---- texts in a format or without one

-- the second, the digits of its parts, and the zone that a text writes
abbrev pub written_parts : Option StampFormat → List ℕ → Option (ℤ × List ℕ × Option ℤ)
written_parts None bs = parts_of bs
written_parts (Some format) bs = stamp_parts format bs

-- the value that it writes
abbrev pub written_value : Option StampFormat → Zone → List ℕ → Option DateTime
written_value format zone bs = option_and_then (placed_by zone) (written_parts format bs)

-- the moment on the time line that it writes
abbrev pub written_instant : Option StampFormat → List ℕ → Option Moment
written_instant format bs = option_map (λ (x : ℤ × List ℕ × Option ℤ). placed_instant x.0 x.1 x.2) (written_parts format bs)
