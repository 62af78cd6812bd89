-- Dates: the texts that write a date, and which date (Model for Tabular Data, section 6.4.4).
use Rattle.std.specs.Prelude.{◌≡◌, ℕ, ◌≤◌, ◌⊎◌, Bool, true, false, List, ◌∷◌, ◌++◌, length, ℤ, pos}
use Rattle.std.specs.List.{AllByRecursion}
use Rattle.std.specs.Char.{IsAsciiDigit}
use Rattle.std.specs.Str.Parse.{digits_value}
use Rattle.jiff_core.specs.Calendar.{IsDate, days_from_civil}
use Rattle.csvw_datatype_core.specs.declared.date.Separator.{Separator}
use Rattle.csvw_datatype_core.specs.declared.date.Separator.TheVariants.{Dash, Slash, Dot}
use Rattle.csvw_datatype_core.specs.declared.date.FieldDigits.{FieldDigits}
use Rattle.csvw_datatype_core.specs.declared.date.FieldDigits.TheVariants.{Two, OneOrTwo}
use Rattle.csvw_datatype_core.specs.declared.date.DateFormat.{DateFormat}
use Rattle.csvw_datatype_core.specs.declared.date.DateFormat.TheVariants.{YearFirst, Compact, DayFirst, MonthFirst}

abbrev pub separator_byte : Separator → ℕ
separator_byte Dash = 45
separator_byte Slash = 47
separator_byte Dot = 46

-- a day or a month has two digits, with a zero before it if it is below ten
abbrev pub is_padded : FieldDigits → Bool
is_padded Two = true
is_padded OneOrTwo = false

-- the text of a date whose fields are these digits
abbrev pub date_text : DateFormat → List ℕ → List ℕ → List ℕ → List ℕ
date_text YearFirst y m d = y ++ (45 ∷ (m ++ (45 ∷ d)))
date_text Compact y m d = y ++ (m ++ d)
date_text (DayFirst digits by) y m d = d ++ (separator_byte by ∷ (m ++ (separator_byte by ∷ y)))
date_text (MonthFirst digits by) y m d = m ++ (separator_byte by ∷ (d ++ (separator_byte by ∷ y)))

-- a day or a month may have one digit
abbrev pub MayBeShort : DateFormat → Type 0
MayBeShort (DayFirst digits by) = is_padded digits ≡ false
MayBeShort (MonthFirst digits by) = is_padded digits ≡ false
MayBeShort _ = ⊥

-- the digits of a day or a month, and its number
pub record IsField (format : DateFormat) (digits : List ℕ) : Type 0 where
  pub are_digits : AllByRecursion IsAsciiDigit digits
  pub count : (length digits ≡ 2) ⊎ (MayBeShort format × (length digits ≡ 1))

-- the calendar has the day, in the years 0001 to 9999
abbrev pub IsDay : ℕ → ℕ → ℕ → Type 0
IsDay y m d = (1 ≤ y) × IsDate (pos y) (pos m) (pos d)

-- days since 1 January 1970
abbrev pub day_number : ℕ → ℕ → ℕ → ℤ
day_number y m d = days_from_civil (pos y) m d

-- the text writes the date with this day number
pub record ReadsDate (format : DateFormat) (text : List ℕ) (day : ℤ) : Type 0 where
  pub y : List ℕ
  pub m : List ℕ
  pub d : List ℕ
  pub year : AllByRecursion IsAsciiDigit y × (length y ≡ 4)
  pub month : IsField format m
  pub date : IsField format d
  pub spelled : text ≡ date_text format y m d
  pub is_day : IsDay (digits_value 10 y) (digits_value 10 m) (digits_value 10 d)
  pub is_value : day ≡ day_number (digits_value 10 y) (digits_value 10 m) (digits_value 10 d)
