-- Classes of characters: white space, and unreserved and reserved characters of a URI (XML 1.0, production S; RFC 3986, sections
-- 2.2 and 2.3).
use Rattle.std.specs.Prelude.{ℕ, ◌==◌, ◌||◌, ◌&&◌, Bool, nat_le, codes}
use Rattle.std.specs.List.{list_any}

-- from lo to hi
abbrev pub is_within : ℕ → ℕ → ℕ → Bool
is_within lo hi c = nat_le lo c && nat_le c hi

-- tab, line feed, carriage return, space
abbrev pub is_white_char : ℕ → Bool
is_white_char c = c == 9 || c == 10 || c == 13 || c == 32

-- an ASCII letter
abbrev pub is_letter_char : ℕ → Bool
is_letter_char c = is_within 65 90 c || is_within 97 122 c

-- an ASCII digit
abbrev pub is_digit_char : ℕ → Bool
is_digit_char c = is_within 48 57 c

-- an ASCII letter or digit, `-`, `.`, `_` or `~`
abbrev pub is_unreserved_char : ℕ → Bool
is_unreserved_char c = is_letter_char c || is_digit_char c || c == 45 || c == 46 || c == 95 || c == 126

-- one of :/?#[]@!$&'()*+,;=
abbrev pub is_reserved_char : ℕ → Bool
is_reserved_char c = list_any (λ r. c == r) (codes ":/?#[]@!$&'()*+,;=")
