-- The fields at the start of a text of a date or a moment.
use Rattle.std.specs.Prelude.{ℕ, ◌+◌, ◌-◌, ◌*◌, Bool, not, ◌&&◌, ◌==◌, Option, Some, None, List, [], ◌∷◌, if◌then◌else◌}
use Rattle.std.specs.Char.{is_ascii_digit}
use Rattle.csvw_datatype_core.specs.declared.date.DateFormat.{DateFormat}
use Rattle.csvw_datatype_core.specs.declared.date.DateFormat.TheVariants.{YearFirst, Compact, DayFirst, MonthFirst}
use Rattle.csvw_datatype_core.specs.Dates.{separator_byte, is_padded}

abbrev pub option_view : {A B : Type 0} → (A → B) → Option A → Option B
option_view f None = None
option_view f (Some x) = Some (f x)

infixl 10 ◌>>=◌
abbrev pub ◌>>=◌ : {A B : Type 0} → Option A → (A → Option B) → Option B
(Some x) >>= f = f x
None >>= f = None

abbrev pub at_end : List ℕ → Option (Unit {0})
at_end [] = Some tt
at_end (b ∷ bs) = None

abbrev pub after_separator : ℕ → List ℕ → Option (List ℕ)
after_separator by [] = None
after_separator by (b ∷ bs) = if b == by then Some bs else None

abbrev pub two_at : List ℕ → Option (ℕ × List ℕ)
two_at (a ∷ b ∷ bs) = if is_ascii_digit a && is_ascii_digit b then Some ((a - 48) * 10 + (b - 48), bs) else None
two_at _ = None

abbrev pub short_at : Bool → List ℕ → Option (ℕ × List ℕ)
short_at padded [] = None
short_at padded (a ∷ []) = if not padded && is_ascii_digit a then Some (a - 48, []) else None
short_at padded (a ∷ b ∷ bs) = if is_ascii_digit a && is_ascii_digit b then Some ((a - 48) * 10 + (b - 48), bs)
    else (if not padded && is_ascii_digit a then Some (a - 48, b ∷ bs) else None)

abbrev pub four_at : List ℕ → Option (ℕ × List ℕ)
four_at bs = do
  high ← two_at bs
  low ← two_at high.1
  Some (high.0 * 100 + low.0, low.1)

unfoldable pub date_fields : DateFormat → List ℕ → Option (ℕ × ℕ × ℕ)
date_fields YearFirst bs = do
  y ← four_at bs
  rest ← after_separator 45 y.1
  m ← two_at rest
  rest ← after_separator 45 m.1
  d ← two_at rest
  end ← at_end d.1
  Some (y.0, m.0, d.0)
date_fields Compact bs = do
  y ← four_at bs
  m ← two_at y.1
  d ← two_at m.1
  end ← at_end d.1
  Some (y.0, m.0, d.0)
date_fields (DayFirst digits by) bs = do
  d ← short_at (is_padded digits) bs
  rest ← after_separator (separator_byte by) d.1
  m ← short_at (is_padded digits) rest
  rest ← after_separator (separator_byte by) m.1
  y ← four_at rest
  end ← at_end y.1
  Some (y.0, m.0, d.0)
date_fields (MonthFirst digits by) bs = do
  m ← short_at (is_padded digits) bs
  rest ← after_separator (separator_byte by) m.1
  d ← short_at (is_padded digits) rest
  rest ← after_separator (separator_byte by) d.1
  y ← four_at rest
  end ← at_end y.1
  Some (y.0, m.0, d.0)
