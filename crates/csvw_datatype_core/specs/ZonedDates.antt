-- Dates that may have a zone: the patterns, what a text writes, and the value of each (XML Schema 1.1 Part 2, section 3.3.9 and appendix E.3; Model for
-- Tabular Data, section 6.4.4). Two dates with a zone are the same if they begin at the same time.
use Rattle.std.specs.Prelude.{ℕ, ◌+◌, ◌&&◌, not, Bool, Option, Some, None, option_map, option_and_then, if◌then◌else◌, List, [], ◌++◌, drop, take}
use Rattle.std.specs.Prelude.{ℤ, pos, neg_ℤ, ◌+ℤ◌, ◌*ℤ◌}
use lib.Signed.{lt_z}
use Rattle.csvw_datatype_core.specs.declared.date.DateFormat.{DateFormat}
use Rattle.csvw_datatype_core.specs.declared.date.DateFormat.TheVariants.{YearFirst, Compact, DayFirst, MonthFirst}
use Rattle.csvw_datatype_core.specs.declared.date.FieldDigits.{FieldDigits}
use Rattle.csvw_datatype_core.specs.declared.date.FieldDigits.TheVariants.{Two, OneOrTwo}
use Rattle.csvw_datatype_core.specs.declared.zoned_date.ZonedDate.{ZonedDate}
use Rattle.csvw_datatype_core.specs.declared.zoned_date.ZonedDate.TheVariants as values
use Rattle.csvw_datatype_core.specs.declared.zoned_date.ZonedDateFormat.{ZonedDateFormat}
use Rattle.csvw_datatype_core.specs.DateParts.{digit_count}
use Rattle.csvw_datatype_core.specs.DatePatterns.{date_pattern}
use Rattle.csvw_datatype_core.specs.DateTimes.{zone_at}
use Rattle.csvw_datatype_core.specs.Fields.{◌>>=◌}
use Rattle.csvw_datatype_core.specs.Forms.{date_form}
use Rattle.csvw_datatype_core.specs.Instants.{Moment, local_instant, placed_instant}
use Rattle.csvw_datatype_core.specs.Offsets.{offset_text}
use Rattle.csvw_datatype_core.specs.PatternLists.{date_format_of}
use Rattle.csvw_datatype_core.specs.StampFormats.{zone_pattern, zone_split}
use Rattle.csvw_datatype_core.specs.Stamps.{ending_at}
use Rattle.csvw_datatype_core.specs.Values.{date_value}

-- ---- the patterns

abbrev pub zoned_pattern : ZonedDateFormat → List ℕ
zoned_pattern f = date_pattern f.date ++ zone_pattern f.zone

-- the format whose pattern the text is
unfoldable pub zoned_format_of : List ℕ → Option ZonedDateFormat
zoned_format_of bs = do
  z ← zone_split bs
  date ← date_format_of z.0
  Some (record { date = date; zone = z.1 })

-- ---- what a text writes

-- the bytes of two numbers, the separators after them, and a year
abbrev pub numbers_len : List ℕ → ℕ
numbers_len bs = digit_count bs + (digit_count (drop (digit_count bs + 1) bs) + 6)

abbrev pub fields_len : FieldDigits → List ℕ → ℕ
fields_len Two bs = 10
fields_len OneOrTwo bs = numbers_len bs

-- how many bytes of a text are its date
abbrev pub date_len : DateFormat → List ℕ → ℕ
date_len YearFirst bs = 10
date_len Compact bs = 8
date_len (DayFirst digits by) bs = fields_len digits bs
date_len (MonthFirst digits by) bs = fields_len digits bs

-- The day, and how many minutes the zone is ahead of "Z", if there is a zone.
unfoldable pub date_parts : Option ZonedDateFormat → List ℕ → Option (ℤ × Option ℤ)
date_parts (Some f) bs = do
  day ← date_value f.date (take (date_len f.date bs) bs)
  minutes ← ending_at f.zone (drop (date_len f.date bs) bs)
  Some (day, minutes)
date_parts None bs = do
  day ← date_value YearFirst (take 10 bs)
  minutes ← zone_at (drop 10 bs)
  Some (day, minutes)

-- ---- the value

-- the day is in the years 0001 to 9999
abbrev pub is_day_number : ℤ → Bool
is_day_number day = not (lt_z day (neg_ℤ (pos 719_162))) && not (lt_z (pos 2_932_896) day)

abbrev pub dated : ℤ → ℤ → Option ZonedDate
dated day minutes = if is_day_number day then Some (values.Written (date_form day ++ offset_text minutes)) else None

-- The day and the offset of a date with a zone: the offset is from -11:59 to +12:00. With a greater one it is the day before, in the zone that is 24 hours
-- behind, and with a lower one the day after, in the zone that is 24 hours ahead.
abbrev pub shifted : ℤ → ℤ → ℤ × ℤ
shifted day minutes =
    if lt_z (pos 720) minutes then (day +ℤ neg_ℤ (pos 1), minutes +ℤ neg_ℤ (pos 1440))
    else (if lt_z (neg_ℤ (pos 720)) minutes then (day, minutes)
    else (day +ℤ pos 1, minutes +ℤ pos 1440))

abbrev pub dated_pair : ℤ × ℤ → Option ZonedDate
dated_pair x = dated x.0 x.1

abbrev pub in_zone : ℤ → ℤ → Option ZonedDate
in_zone day minutes = dated_pair (shifted day minutes)

abbrev pub placed_day : ℤ × Option ℤ → Option ZonedDate
placed_day (day, None) = Some (values.Day day)
placed_day (day, Some minutes) = in_zone day minutes

-- the value that a text writes
abbrev pub zoned_date_value : Option ZonedDateFormat → List ℕ → Option ZonedDate
zoned_date_value format bs = option_and_then placed_day (date_parts format bs)

-- ---- the time line

-- the moment at which a day begins
abbrev pub day_instant : ℤ → Moment
day_instant day = local_instant (day *ℤ pos 86_400)

-- the moment at which the date that a text writes begins
abbrev pub zoned_date_instant : List ℕ → Option Moment
zoned_date_instant bs = option_map (λ (x : ℤ × Option ℤ). placed_instant (x.0 *ℤ pos 86_400) [] x.1) (date_parts None bs)

-- the moment at which the date that a text writes in a format begins
abbrev pub date_start : Option ZonedDateFormat → List ℕ → Option Moment
date_start format bs = option_map (λ (x : ℤ × Option ℤ). placed_instant (x.0 *ℤ pos 86_400) [] x.1) (date_parts format bs)
