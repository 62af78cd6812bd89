-- Times of day with parts of a second and a zone: the patterns, what a text writes, and the one text of each value (XML Schema 1.1 Part 2, section
-- 3.3.8 and appendix E.3; Model for Tabular Data, section 6.4.4).
use Rattle.std.specs.Prelude.{ℕ, ◌-◌, ◌*◌, ◌/◌, ◌%◌, ◌==◌, ◌&&◌, nat_lt, nat_le, Bool, true, false, Option, Some, None, option_map, if◌then◌else◌}
use Rattle.std.specs.Prelude.{List, [], ◌++◌, drop, take, ℤ, pos, neg_ℤ, ◌+ℤ◌, ◌*ℤ◌, unsigned_abs}
use Rattle.csvw_datatype_core.specs.declared.clock.ClockFormat.{ClockFormat}
use Rattle.csvw_datatype_core.specs.declared.clock.ClockFormat.TheVariants as clocks
use Rattle.csvw_datatype_core.specs.declared.clock.ClockPattern.{ClockPattern}
use Rattle.csvw_datatype_core.specs.declared.time.TimeFormat.{TimeFormat}
use Rattle.csvw_datatype_core.specs.declared.time.TimeFormat.TheVariants as times
use Rattle.csvw_datatype_core.specs.DateTimes.{fraction_at, fraction_text, trimmed, zone_at}
use Rattle.csvw_datatype_core.specs.Fields.{◌>>=◌}
use Rattle.csvw_datatype_core.specs.Instants.{Moment, placed_instant}
use Rattle.csvw_datatype_core.specs.Offsets.{offset_text}
use Rattle.csvw_datatype_core.specs.PatternLists.{time_format_of}
use Rattle.csvw_datatype_core.specs.StampFormats.{fraction_pattern, fraction_split, zone_pattern, zone_split}
use Rattle.csvw_datatype_core.specs.Stamps.{ending_at, fraction_within, time_len}
use Rattle.csvw_datatype_core.specs.Times.{clock, time_pattern}
use Rattle.csvw_datatype_core.specs.Values.{time_value}

-- ---- the patterns

abbrev pub is_seconds : TimeFormat → Bool
is_seconds times.Seconds = true
is_seconds times.CompactSeconds = false
is_seconds times.Minutes = false
is_seconds times.CompactMinutes = false

-- a pattern has up to 255 digits of a second, and they are after "HH:mm:ss"
abbrev pub is_clock_pattern : ClockPattern → Bool
is_clock_pattern p = nat_le p.digits 255 && (if p.digits == 0 then true else is_seconds p.time)

-- a format for any number of digits has no pattern
abbrev pub has_pattern : ClockFormat → Bool
has_pattern (clocks.Pattern p) = is_clock_pattern p
has_pattern clocks.Any = false

abbrev pub clock_pattern : ClockFormat → List ℕ
clock_pattern (clocks.Pattern p) = (time_pattern p.time ++ fraction_pattern p.digits) ++ zone_pattern p.zone
clock_pattern clocks.Any = []

abbrev pub clock_if : ClockPattern → Option ClockFormat
clock_if p = if is_clock_pattern p then Some (clocks.Pattern p) else None

-- the format whose pattern the text is
unfoldable pub clock_format_of : List ℕ → Option ClockFormat
clock_format_of bs = do
  z ← zone_split bs
  f ← fraction_split z.0
  time ← time_format_of f.0
  clock_if (record { time = time; digits = f.1; zone = z.1 })

-- ---- what a text writes

-- The second of its day, the digits of its parts without zeros at their end, and how many minutes the zone is ahead of "Z", if there is a zone.
unfoldable pub clock_parts : ClockFormat → List ℕ → Option (ℕ × List ℕ × Option ℤ)
clock_parts (clocks.Pattern p) bs = do
  second ← time_value p.time (take (time_len p.time) bs)
  fraction ← fraction_within p.digits (drop (time_len p.time) bs)
  minutes ← ending_at p.zone fraction.1
  Some (second, trimmed fraction.0, minutes)
clock_parts clocks.Any bs = do
  second ← time_value times.Seconds (take 8 bs)
  fraction ← fraction_at (drop 8 bs)
  minutes ← zone_at fraction.1
  Some (second, trimmed fraction.0, minutes)

-- the moment of a time of day on the time line, where all times of day are on one day
abbrev pub clock_instant : List ℕ → Option Moment
clock_instant bs = option_map (λ (x : ℕ × List ℕ × Option ℤ). placed_instant (pos x.0) x.1 x.2) (clock_parts clocks.Any bs)

-- the moment of the time of day that a text writes in a format
abbrev pub clock_start : ClockFormat → List ℕ → Option Moment
clock_start format bs = option_map (λ (x : ℕ × List ℕ × Option ℤ). placed_instant (pos x.0) x.1 x.2) (clock_parts format bs)

-- ---- the one text

-- A zone is at most 14 hours ahead of "Z", or behind it. So the seconds of a time of day in the zone "Z" are counted from 14 hours before its day.
abbrev pub zoned_second : ℕ → ℤ → ℕ
zoned_second second minutes = unsigned_abs ((pos second +ℤ (minutes *ℤ neg_ℤ (pos 60))) +ℤ pos 50_400)

-- The hour and the zone that are written. A time of day whose day is the same in the zone "Z" is in that zone. Another one is in the nearest zone of whole
-- hours in which its day is the same: in the first hour of the day if it is on the day before, and in the last one if it is on the day after.
abbrev pub zoned_hour : ℕ → ℕ
zoned_hour h = if nat_lt h 14 then 0 else (if nat_lt h 38 then h - 14 else 23)

abbrev pub zoned_minutes : ℕ → ℤ
zoned_minutes h = if nat_lt h 14 then pos ((14 - h) * 60) else (if nat_lt h 38 then pos 0 else neg_ℤ (pos ((h - 37) * 60)))

abbrev pub clock_in : ℕ → ℕ → List ℕ
clock_in hour n = clock hour (n / 60 % 60) (n % 60)

abbrev pub zoned_text : ℕ → List ℕ → List ℕ
zoned_text n ds = clock_in (zoned_hour (n / 3600)) n ++ (fraction_text ds ++ offset_text (zoned_minutes (n / 3600)))

abbrev pub clock_text : ℕ → List ℕ → Option ℤ → List ℕ
clock_text second ds None = clock_in (second / 3600) second ++ fraction_text ds
clock_text second ds (Some minutes) = zoned_text (zoned_second second minutes) ds

-- the one text of the time of day that a text writes
abbrev pub clock_form : ClockFormat → List ℕ → Option (List ℕ)
clock_form format bs = option_map (λ (x : ℕ × List ℕ × Option ℤ). clock_text x.0 x.1 x.2) (clock_parts format bs)
