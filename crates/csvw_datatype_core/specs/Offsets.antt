-- The one text of an offset (XML Schema 1.1 Part 2, section 3.3.7.2).
use Rattle.std.specs.Prelude.{ℕ, ◌/◌, ◌%◌, if◌then◌else◌, codes, List, ◌∷◌, ◌++◌, ℤ, pos, unsigned_abs}
use Rattle.std.specs.Ordering.{int_eq}
use lib.Signed.{lt_z}
use Rattle.csvw_datatype_core.specs.LexicalDates.{two_digits}

abbrev pub hours_and_minutes : ℕ → List ℕ
hours_and_minutes n = two_digits (n / 60) ++ (58 ∷ two_digits (n % 60))

abbrev pub sign_of : ℤ → ℕ
sign_of minutes = if lt_z minutes (pos 0) then 45 else 43

-- the offset of so many minutes: 0 is "Z", and another one has a sign, hours and minutes
abbrev pub offset_text : ℤ → List ℕ
offset_text minutes = if int_eq minutes (pos 0) then codes "Z" else sign_of minutes ∷ hours_and_minutes (unsigned_abs minutes)
