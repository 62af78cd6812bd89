-- Times of day: the texts that write one, and their fields (Model for Tabular Data, section 6.4.4; XML Schema 1.1 Part 2,
-- section 3.3.8).
use Rattle.std.specs.Prelude.{ℕ, Option, Some, codes, List, ◌∷◌, ◌++◌}
use Rattle.csvw_datatype_core.specs.declared.time.TimeFormat.{TimeFormat}
use Rattle.csvw_datatype_core.specs.declared.time.TimeFormat.TheVariants as formats
use Rattle.csvw_datatype_core.specs.Fields.{◌>>=◌, after_separator, two_at, at_end}
use Rattle.csvw_datatype_core.specs.LexicalDates.{two_digits}

-- the patterns, with the letters of Unicode Technical Standard 35, "Date Field Symbol Table"
abbrev pub time_pattern : TimeFormat → List ℕ
time_pattern formats.Seconds = codes "HH:mm:ss"
time_pattern formats.CompactSeconds = codes "HHmmss"
time_pattern formats.Minutes = codes "HH:mm"
time_pattern formats.CompactMinutes = codes "HHmm"

-- the text after what separates two fields
abbrev pub after_colon : TimeFormat → List ℕ → Option (List ℕ)
after_colon formats.Seconds bs = after_separator 58 bs
after_colon formats.CompactSeconds bs = Some bs
after_colon formats.Minutes bs = after_separator 58 bs
after_colon formats.CompactMinutes bs = Some bs

-- two digits that are the seconds, and then the end
abbrev pub last_two : List ℕ → Option ℕ
last_two bs = do
  s ← two_at bs
  end ← at_end s.1
  Some s.0

-- no seconds, which are 0
abbrev pub no_seconds : List ℕ → Option ℕ
no_seconds bs = do
  end ← at_end bs
  Some 0

abbrev pub seconds_at : TimeFormat → List ℕ → Option ℕ
seconds_at formats.Seconds bs = after_separator 58 bs >>= last_two
seconds_at formats.CompactSeconds bs = last_two bs
seconds_at formats.Minutes bs = no_seconds bs
seconds_at formats.CompactMinutes bs = no_seconds bs

-- the hour, the minute and the second
unfoldable pub clock_fields : TimeFormat → List ℕ → Option (ℕ × ℕ × ℕ)
clock_fields format bs = do
  h ← two_at bs
  rest ← after_colon format h.1
  m ← two_at rest
  s ← seconds_at format m.1
  Some (h.0, m.0, s)

-- the text of a time of day in the format "HH:mm:ss"
abbrev pub clock : ℕ → ℕ → ℕ → List ℕ
clock h m s = two_digits h ++ (58 ∷ (two_digits m ++ (58 ∷ two_digits s)))
