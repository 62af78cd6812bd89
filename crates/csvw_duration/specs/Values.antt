-- Durations: the texts that write one, and the value of each (XML Schema 1.1 Part 2, sections 3.3.6, 3.4.26 and 3.4.27).
use Rattle.std.specs.Prelude.{ℕ, ◌+◌, ◌*◌, ◌<◌, ◌^◌, ◌==◌, ◌&&◌, nat_lt, Bool, false, Option, Some, None, if◌then◌else◌, List, [], ◌∷◌}
use Rattle.csvw_duration.specs.declared.value.DurationKind.{DurationKind}
use Rattle.csvw_duration.specs.declared.value.DurationKind.TheVariants as kinds
use Rattle.csvw_duration.specs.Digits.{◌>>=◌, number_at, after_byte, at_end, fraction_at, trimmed}

-- The number before a letter, and the text after the letter. A text without that field is the number 0 and the text.
abbrev pub found_field : List ℕ → Option (ℕ × List ℕ) → ℕ × List ℕ
found_field bs None = (0, bs)
found_field bs (Some x) = x

unfoldable pub read_field : ℕ → List ℕ → Option (ℕ × List ℕ)
read_field letter bs = do
  n ← number_at bs
  rest ← after_byte letter n.1
  Some (n.0, rest)

abbrev pub field : ℕ → List ℕ → ℕ × List ℕ
field letter bs = found_field bs (read_field letter bs)

-- the months of the fields Y and M, and the text after them
abbrev pub months_at : List ℕ → ℕ × List ℕ
months_at bs = (12 * (field 89 bs).0 + (field 77 (field 89 bs).1).0, (field 77 (field 89 bs).1).1)

-- the seconds of the fields H and M, and the text after them
abbrev pub minutes_at : List ℕ → ℕ × List ℕ
minutes_at bs = (3600 * (field 72 bs).0 + 60 * (field 77 (field 72 bs).1).0, (field 77 (field 72 bs).1).1)

-- The number of the field S, and the digits after its point without zeros at their end. The text ends there.
unfoldable pub written_second : List ℕ → Option (ℕ × List ℕ)
written_second bs = do
  n ← number_at bs
  f ← fraction_at n.1
  rest ← after_byte 83 f.1
  end ← at_end rest
  Some (n.0, trimmed f.0)

abbrev pub second_at : List ℕ → Option (ℕ × List ℕ)
second_at [] = Some (0, [])
second_at (b ∷ bs) = written_second (b ∷ bs)

abbrev pub plus_seconds : ℕ → Option (ℕ × List ℕ) → Option (ℕ × List ℕ)
plus_seconds n None = None
plus_seconds n (Some x) = Some (n + x.0, x.1)

-- the fields H, M and S
abbrev pub clock_fields : List ℕ → Option (ℕ × List ℕ)
clock_fields bs = plus_seconds (minutes_at bs).0 (second_at (minutes_at bs).1)

-- the fields after a T, one or more
abbrev pub after_t : List ℕ → Option (ℕ × List ℕ)
after_t [] = None
after_t (b ∷ bs) = clock_fields (b ∷ bs)

-- the fields with their T, or the end of the text
abbrev pub clock_at : List ℕ → Option (ℕ × List ℕ)
clock_at [] = Some (0, [])
clock_at (b ∷ bs) = if b == 84 then after_t bs else None

-- the fields D, H, M and S
abbrev pub seconds_at : List ℕ → Option (ℕ × List ℕ)
seconds_at bs = plus_seconds (86_400 * (field 68 bs).0) (clock_at (field 68 bs).1)

-- the months, the seconds and the digits of the fraction of the fields
abbrev pub with_months : ℕ → Option (ℕ × List ℕ) → Option (ℕ × ℕ × List ℕ)
with_months m None = None
with_months m (Some x) = Some (m, x.0, x.1)

abbrev pub whole_months : ℕ × List ℕ → Option (ℕ × ℕ × List ℕ)
whole_months (m, []) = Some (m, 0, [])
whole_months (m, b ∷ bs) = None

abbrev pub fields_at : DurationKind → List ℕ → Option (ℕ × ℕ × List ℕ)
fields_at kinds.Any bs = with_months (months_at bs).0 (seconds_at (months_at bs).1)
fields_at kinds.YearMonth bs = whole_months (months_at bs)
fields_at kinds.DayTime bs = with_months 0 (seconds_at bs)

-- the fields after a P, one or more
abbrev pub after_p : DurationKind → List ℕ → Option (ℕ × ℕ × List ℕ)
after_p kind [] = None
after_p kind (b ∷ bs) = fields_at kind (b ∷ bs)

abbrev pub unsigned_at : DurationKind → List ℕ → Option (ℕ × ℕ × List ℕ)
unsigned_at kind bs = after_byte 80 bs >>= after_p kind

abbrev pub begins_with_minus : List ℕ → Bool
begins_with_minus [] = false
begins_with_minus (b ∷ bs) = b == 45

abbrev pub after_minus : List ℕ → List ℕ
after_minus [] = []
after_minus (b ∷ bs) = if b == 45 then bs else b ∷ bs

-- the months, the seconds and the digits of the fraction of a duration, after its sign
abbrev pub duration_fields : DurationKind → List ℕ → Option (ℕ × ℕ × List ℕ)
duration_fields kind bs = unsigned_at kind (after_minus bs)

-- there are less than 10^9 years and less than 10^9 days
abbrev pub is_small : ℕ × ℕ × List ℕ → Bool
is_small x = nat_lt x.0 12_000_000_000 && nat_lt x.1 86_400_000_000_000

-- months and seconds that nine digits for each number allow
abbrev pub IsBounded : ℕ → ℕ → Type 0
IsBounded months seconds = (months < 10 ^ 11) × (seconds < 10 ^ 15)
