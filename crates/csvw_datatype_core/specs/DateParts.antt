-- Years, months and days alone: the texts that write one, and the one text of years and months (XML Schema 1.1 Part 2, sections 3.3.10 to 3.3.14).
use Rattle.std.specs.Prelude.{ℕ, ◌-◌, ◌==◌, ◌&&◌, ◌||◌, not, nat_lt, nat_le, Bool, true, false, Option, Some, None, if◌then◌else◌, codes}
use Rattle.std.specs.Prelude.{List, [], ◌∷◌, ◌++◌, length, drop, take, bytes_eq}
use Rattle.std.specs.List.{take_while}
use Rattle.std.specs.Char.{is_ascii_digit}
use Rattle.csvw_datatype_core.specs.declared.date_part.DatePart.{DatePart}
use Rattle.csvw_datatype_core.specs.declared.date_part.DatePart.TheVariants as parts
use Rattle.csvw_datatype_core.specs.Fields.{◌>>=◌, after_separator, two_at, at_end}

-- how many digits a text begins with
abbrev pub digit_count : List ℕ → ℕ
digit_count bs = length (take_while is_ascii_digit bs)

-- the text after its "-", if it begins with one
abbrev pub after_minus : List ℕ → List ℕ
after_minus [] = []
after_minus (b ∷ bs) = if b == 45 then bs else b ∷ bs

abbrev pub begins_with_zero : List ℕ → Bool
begins_with_zero [] = false
begins_with_zero (b ∷ bs) = b == 48

-- a year has four digits, or more than four of which the first isn't 0
abbrev pub is_year : List ℕ → ℕ → Bool
is_year bs n = (n == 4) || (nat_lt 4 n && not (begins_with_zero bs))

abbrev pub after_digits : List ℕ → Option (List ℕ)
after_digits bs = if is_year bs (digit_count bs) then Some (drop (digit_count bs) bs) else None

-- the text after a year, which may be negative
abbrev pub after_year : List ℕ → Option (List ℕ)
after_year bs = after_digits (after_minus bs)

-- two digits that are a number from 1 to the last one, and the text after them
abbrev pub up_to : ℕ → ℕ × List ℕ → Option (ℕ × List ℕ)
up_to last x = if nat_lt 0 x.0 && nat_le x.0 last then Some x else None

abbrev pub number_at : ℕ → List ℕ → Option (ℕ × List ℕ)
number_at last bs = two_at bs >>= up_to last

-- the number of days that a month has in some year
abbrev pub days_of : ℕ → ℕ
days_of m = if m == 2 then 29 else (if (m == 4) || (m == 6) || (m == 9) || (m == 11) then 30 else 31)

-- the text after a part of a date
unfoldable pub after_part : DatePart → List ℕ → Option (List ℕ)
after_part parts.Year bs = after_year bs
after_part parts.YearMonth bs = do
  rest ← after_year bs
  rest ← after_separator 45 rest
  m ← number_at 12 rest
  Some m.1
after_part parts.Month bs = do
  rest ← after_separator 45 bs
  rest ← after_separator 45 rest
  m ← number_at 12 rest
  Some m.1
after_part parts.MonthDay bs = do
  rest ← after_separator 45 bs
  rest ← after_separator 45 rest
  m ← number_at 12 rest
  rest ← after_separator 45 m.1
  d ← number_at (days_of m.0) rest
  Some d.1
after_part parts.Day bs = do
  rest ← after_separator 45 bs
  rest ← after_separator 45 rest
  rest ← after_separator 45 rest
  d ← number_at 31 rest
  Some d.1

-- an offset is up to 14 hours
abbrev pub is_offset : ℕ → ℕ → Bool
is_offset h m = (nat_lt h 14 && nat_lt m 60) || ((h == 14) && (m == 0))

-- the hours and the minutes of an offset, after its sign
unfoldable pub offset_fields : List ℕ → Option (ℕ × ℕ)
offset_fields bs = do
  h ← two_at bs
  rest ← after_separator 58 h.1
  m ← two_at rest
  end ← at_end m.1
  Some (h.0, m.0)

abbrev pub are_offset : Option (ℕ × ℕ) → Bool
are_offset None = false
are_offset (Some x) = is_offset x.0 x.1

abbrev pub is_empty : List ℕ → Bool
is_empty [] = true
is_empty (b ∷ bs) = false

-- a text is a zone: nothing, "Z", or an offset with its sign
abbrev pub is_zone : List ℕ → Bool
is_zone [] = true
is_zone (b ∷ bs) = if b == 90 then is_empty bs else (((b == 43) || (b == 45)) && are_offset (offset_fields bs))

abbrev pub ends_part : Option (List ℕ) → Bool
ends_part None = false
ends_part (Some bs) = is_zone bs

-- the text writes a part of a date, which may have a zone
abbrev pub is_date_part : DatePart → List ℕ → Bool
is_date_part part bs = ends_part (after_part part bs)

-- the text after a start, if it begins with it, and the text before an ending, if it ends with it
abbrev pub after_start : List ℕ → List ℕ → Option (List ℕ)
after_start start bs = if bytes_eq (take (length start) bs) start then Some (drop (length start) bs) else None

abbrev pub before_ending : List ℕ → List ℕ → Option (List ℕ)
before_ending ending bs =
    if bytes_eq (drop (length bs - length ending) bs) ending then Some (take (length bs - length ending) bs) else None

-- "-0000" is the year 0, whose text is "0000"
abbrev pub year_and_rest : List ℕ → Option (List ℕ) → List ℕ × List ℕ
year_and_rest bs None = ([], bs)
year_and_rest bs (Some rest) = (codes "0000", rest)

abbrev pub plain_year : List ℕ → List ℕ × List ℕ
plain_year bs = year_and_rest bs (after_start (codes "-0000") bs)

-- the offset 0 is "Z"
abbrev pub front_and_zone : List ℕ → Option (List ℕ) → List ℕ × List ℕ
front_and_zone bs None = (bs, [])
front_and_zone bs (Some front) = (front, codes "Z")

abbrev pub either : {X : Type 0} → Option X → Option X → Option X
either None o = o
either (Some x) o = Some x

abbrev pub plain_zone : List ℕ → List ℕ × List ℕ
plain_zone bs = front_and_zone bs (either (before_ending (codes "+00:00") bs) (before_ending (codes "-00:00") bs))

abbrev pub plain : List ℕ → List ℕ
plain bs = ((plain_year bs).0 ++ (plain_zone (plain_year bs).1).0) ++ (plain_zone (plain_year bs).1).1

-- the one text of the year, the month of a year or the month that a text writes
abbrev pub plain_form : DatePart → List ℕ → Option (List ℕ)
plain_form part bs = if is_date_part part bs then Some (plain bs) else None
