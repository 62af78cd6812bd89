-- The fields of a time of day, from the start of a text (Model for Tabular Data, section 6.4.4).
use Rattle.std.specs.Prelude.{ℕ, ◌<◌, Option, Some, None, List}
use Rattle.csvw_datatype_core.specs.declared.moment.MomentFormat.{MomentFormat}
use Rattle.csvw_datatype_core.specs.declared.moment.MomentFormat.TheVariants.{Seconds, Minutes, Spaced}
use Rattle.csvw_datatype_core.specs.Fields.{◌>>=◌, after_separator, two_at, at_end}

-- the seconds at the end of a text
abbrev pub second_field : MomentFormat → List ℕ → Option ℕ
second_field Seconds bs = do
  rest ← after_separator 58 bs
  s ← two_at rest
  end ← at_end s.1
  Some s.0
second_field Minutes bs = do
  end ← at_end bs
  Some 0
second_field (Spaced date time) bs = None

unfoldable pub time_fields : MomentFormat → List ℕ → Option (ℕ × ℕ × ℕ)
time_fields format bs = do
  rest ← after_separator 84 bs
  h ← two_at rest
  rest ← after_separator 58 h.1
  m ← two_at rest
  s ← second_field format m.1
  Some (h.0, m.0, s)

-- hours, minutes and seconds of a day
abbrev pub IsTimeOfDay : ℕ → ℕ → ℕ → Type 0
IsTimeOfDay h m s = (h < 24) × (m < 60) × (s < 60)
