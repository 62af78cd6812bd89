-- Texts of hexBinary (XML Schema 1.1 part 2, section 3.3.15).
use Rattle.std.specs.Prelude.{ℕ, List, Option, Some, None, Result, Ok, Err}
use Rattle.std.specs.Result.{result_ok}
use Rattle.hex.specs.Hex.{decode_of, encode_upper}
use Rattle.hex.specs.declared.error.FromHexError.{FromHexError}

-- the bytes in upper-case digits
abbrev pub upper_form : Result (List ℕ) FromHexError → Option (List ℕ)
upper_form (Ok bytes) = Some (encode_upper bytes)
upper_form (Err e) = None

-- the canonical text of the bytes that pairs of digits of either case write
unfoldable pub hex_form : List ℕ → Option (List ℕ)
hex_form text = upper_form (decode_of text)

-- the bytes of a text
unfoldable pub hex_bytes : List ℕ → Option (List ℕ)
hex_bytes text = result_ok (decode_of text)
