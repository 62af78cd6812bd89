-- Percent-encoding of all but the unreserved characters (RFC 3986, sections 2.1 and 2.3).
use Rattle.std.specs.Prelude.{ℕ, List, [], ◌∷◌, if◌then◌else◌}
use Rattle.std.specs.List.{flat_map}
use Rattle.percent_encoding.specs.Percent.{percent_encode_byte}
use Rattle.csvw_text.specs.Class.{is_unreserved_char}

-- unreserved characters stay, and each other byte becomes a triplet
abbrev pub encoded_byte : ℕ → List ℕ
encoded_byte b = if is_unreserved_char b then b ∷ [] else percent_encode_byte b

abbrev pub percent_encoded : List ℕ → List ℕ
percent_encoded text = flat_map encoded_byte text
