-- The one text of a year, a month or a day alone (XML Schema 1.1 Part 2, sections 3.3.10 to 3.3.14 and appendix E.3). Texts of days are the same
-- value if the days begin at the same time, where a day of each year is in the year 1972, and a day of each month in December 1972.
use Rattle.std.specs.Prelude.{ℕ, ◌+◌, ◌-◌, ◌==◌, ◌&&◌, ◌||◌, nat_lt, Option, Some, None, option_map, if◌then◌else◌, List, [], ◌∷◌, ◌++◌}
use Rattle.std.specs.Prelude.{ℤ, pos, neg_ℤ, ◌+ℤ◌, ◌*ℤ◌}
use lib.Signed.{lt_z}
use Rattle.csvw_datatype_core.specs.declared.date_part.DatePart.{DatePart}
use Rattle.csvw_datatype_core.specs.declared.date_part.DatePart.TheVariants as parts
use Rattle.csvw_datatype_core.specs.DateParts.{days_of, plain_form}
use Rattle.csvw_datatype_core.specs.Instants.{Moment, placed_instant}
use Rattle.csvw_datatype_core.specs.LexicalDates.{two_digits}
use Rattle.csvw_datatype_core.specs.Offsets.{offset_text}
use Rattle.csvw_datatype_core.specs.PartFields.{part_fields}

-- ---- days that begin at the same time

-- The month and the day before a day, in the same year. The month 0 is no month: then the day before is in the same month.
abbrev pub day_before : ℕ → ℕ → Option (ℕ × ℕ)
day_before m d = if nat_lt 1 d then Some (m, d - 1) else (if nat_lt 1 m then Some (m - 1, days_of (m - 1)) else None)

-- the month and the day after a day, in the same way
abbrev pub day_after : ℕ → ℕ → Option (ℕ × ℕ)
day_after m d = if nat_lt d (days_of m) then Some (m, d + 1) else (if nat_lt 0 m && nat_lt m 12 then Some (m + 1, 1) else None)

-- another day with another offset, if there is that day, or else the day with its own
abbrev pub moved : ℕ × ℕ × ℤ → ℤ → Option (ℕ × ℕ) → ℕ × ℕ × Option ℤ
moved x other None = (x.0, x.1, Some x.2)
moved x other (Some day) = (day.0, day.1, Some other)

-- The day that begins at the same time with an offset from -11:59 to +12:00, if there is one. The offset is in minutes.
abbrev pub shifted : ℕ → ℕ → Option ℤ → ℕ × ℕ × Option ℤ
shifted m d None = (m, d, None)
shifted m d (Some z) =
    if lt_z (pos 720) z then moved (m, d, z) (z +ℤ neg_ℤ (pos 1440)) (day_before m d)
    else (if lt_z z (neg_ℤ (pos 719)) then moved (m, d, z) (z +ℤ pos 1440) (day_after m d)
    else (m, d, Some z))

-- the days of the year 1972 before a month, or 0 for the month 0
abbrev pub days_before : ℕ → ℕ
days_before m =
    if (m == 0) || (m == 1) then 0
    else (if m == 2 then 31
    else (if m == 3 then 60
    else (if m == 4 then 91
    else (if m == 5 then 121
    else (if m == 6 then 152
    else (if m == 7 then 182
    else (if m == 8 then 213
    else (if m == 9 then 244
    else (if m == 10 then 274
    else (if m == 11 then 305
    else 335))))))))))

-- the moment at which a day begins, in seconds from the day before the first one of its year 1972 or, without a month, of its month
abbrev pub start_of_day : ℕ → ℕ → Option ℤ → Moment
start_of_day m d zone = placed_instant (pos (days_before m + d) *ℤ pos 86_400) [] zone

-- the moment at which the day that a text writes begins
abbrev pub day_start : DatePart → List ℕ → Option Moment
day_start part bs = option_map (λ (x : List ℕ × ℕ × ℕ × Option ℤ). start_of_day x.1 x.2 x.3) (part_fields part bs)

-- ---- the texts

abbrev pub zone_text : Option ℤ → List ℕ
zone_text None = []
zone_text (Some z) = offset_text z

-- the digits of a month, if there is one
abbrev pub month_text : ℕ → List ℕ
month_text m = if m == 0 then [] else two_digits m

-- a day of a month or, with the month 0, a day alone
abbrev pub day_text : ℕ × ℕ × Option ℤ → List ℕ
day_text x = 45 ∷ 45 ∷ (month_text x.0 ++ (45 ∷ (two_digits x.1 ++ zone_text x.2)))

-- the one text of the day that a text writes
abbrev pub day_form : DatePart → List ℕ → Option (List ℕ)
day_form part bs = option_map (λ (x : List ℕ × ℕ × ℕ × Option ℤ). day_text (shifted x.1 x.2 x.3)) (part_fields part bs)

-- the one text of the part of a date that a text writes
abbrev pub date_part_form : DatePart → List ℕ → Option (List ℕ)
date_part_form parts.Year bs = plain_form parts.Year bs
date_part_form parts.YearMonth bs = plain_form parts.YearMonth bs
date_part_form parts.Month bs = plain_form parts.Month bs
date_part_form parts.MonthDay bs = day_form parts.MonthDay bs
date_part_form parts.Day bs = day_form parts.Day bs
