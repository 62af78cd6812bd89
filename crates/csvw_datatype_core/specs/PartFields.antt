-- The fields of a year, a month or a day alone (XML Schema 1.1 Part 2, sections 3.3.10 to 3.3.14).
use Rattle.std.specs.Prelude.{ℕ, ◌-◌, Option, Some, None, if◌then◌else◌, List, [], length, take, ℤ}
use Rattle.csvw_datatype_core.specs.declared.date_part.DatePart.{DatePart}
use Rattle.csvw_datatype_core.specs.declared.date_part.DatePart.TheVariants as parts
use Rattle.csvw_datatype_core.specs.DateParts.{after_year, number_at, days_of, is_empty}
use Rattle.csvw_datatype_core.specs.DateTimes.{zone_at}
use Rattle.csvw_datatype_core.specs.Fields.{◌>>=◌, after_separator}

-- the text before its end
abbrev pub before : List ℕ → List ℕ → List ℕ
before rest bs = take (length bs - length rest) bs

-- the text of a year with its "-", and the text after it
abbrev pub year_at : List ℕ → Option (List ℕ × List ℕ)
year_at bs = do
  rest ← after_year bs
  Some (before rest bs, rest)

-- The text of the year, the month and the day, and the text after them. A part without a year has an empty one, and one without a month or a day 0.
unfoldable pub fields_at : DatePart → List ℕ → Option (List ℕ × ℕ × ℕ × List ℕ)
fields_at parts.Year bs = do
  y ← year_at bs
  Some (y.0, 0, 0, y.1)
fields_at parts.YearMonth bs = do
  y ← year_at bs
  rest ← after_separator 45 y.1
  m ← number_at 12 rest
  Some (y.0, m.0, 0, m.1)
fields_at parts.Month bs = do
  rest ← after_separator 45 bs
  rest ← after_separator 45 rest
  m ← number_at 12 rest
  Some ([], m.0, 0, m.1)
fields_at parts.MonthDay bs = do
  rest ← after_separator 45 bs
  rest ← after_separator 45 rest
  m ← number_at 12 rest
  rest ← after_separator 45 m.1
  d ← number_at (days_of m.0) rest
  Some ([], m.0, d.0, d.1)
fields_at parts.Day bs = do
  rest ← after_separator 45 bs
  rest ← after_separator 45 rest
  rest ← after_separator 45 rest
  d ← number_at 31 rest
  Some ([], 0, d.0, d.1)

-- no zone at the end of a text
abbrev pub no_zone : List ℕ → Option (Option ℤ)
no_zone bs = if is_empty bs then Some None else None

-- the text of the year, the month and the day that a text writes, and how many minutes its zone is ahead of "Z", if it has one
unfoldable pub part_fields : DatePart → List ℕ → Option (List ℕ × ℕ × ℕ × Option ℤ)
part_fields part bs = do
  x ← fields_at part bs
  zone ← zone_at x.3
  Some (x.0, x.1, x.2, zone)
