-- Lines that are sent in parts, and how control characters are shown in them.
use Rattle.std.specs.Prelude.{◌≡◌, ℕ, ◌+◌, List, [], ◌∷◌, ◌++◌, codes, encode_utf8, flat_map, if◌then◌else◌, nat_lt, ◌/◌, ◌%◌}
use Rattle.std.specs.Char.{is_control}
use Rattle.std.specs.Str.{chars}
use Rattle.csvw_streams.specs.Streams.{Stream, Sends}

-- The room had these bytes, and more came. What the room has no more was sent.
pub record SendsOn (s : Stream) (before bytes after : List ℕ) : Type 0 where
  pub sent : List ℕ
  pub sends : Sends s sent
  pub parts : before ++ bytes ≡ sent ++ after

-- the hexadecimal digit of a number below 16, in upper case
abbrev pub hex_digit : ℕ → ℕ
hex_digit n = if nat_lt n 10 then 48 + n else 55 + n

-- A character of a line. A control character (U+0000 to U+001F, U+007F to U+009F) is written as `\u` and four hexadecimal digits.
abbrev pub shown : ℕ → List ℕ
shown c = if is_control c then codes "\\u00" ++ (hex_digit (c / 16) ∷ hex_digit (c % 16) ∷ []) else encode_utf8 c

-- a text of a line
abbrev pub shown_text : List ℕ → List ℕ
shown_text text = flat_map shown (chars text)
