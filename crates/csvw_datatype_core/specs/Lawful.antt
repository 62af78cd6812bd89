-- The test of the characters of a number format.
use Rattle.std.specs.Prelude.{ℕ, ◌==◌, ◌||◌, not, Bool, true, Option, Some, None}
use Rattle.std.specs.Char.{is_ascii_digit}

abbrev pub is_free : ℕ → Bool
is_free c = not (is_ascii_digit c || (c == 43 || c == 45 || c == 37 || c == 0x2030 || c == 9 || c == 10 || c == 13))

abbrev pub is_free_option : Option ℕ → Bool
is_free_option None = true
is_free_option (Some c) = is_free c

abbrev pub differ : Option ℕ → Option ℕ → Bool
differ (Some a) (Some b) = not (a == b)
differ (Some a) None = true
differ None b = true
