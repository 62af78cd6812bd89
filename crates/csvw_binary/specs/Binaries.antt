-- Texts of binary data: those of each type, the canonical text, and how many octets it writes (XML Schema 1.1 part 2, sections 3.3.15
-- and 3.3.16).
use Rattle.std.specs.Prelude.{◌≡◌, ℕ, List, Option}
use Rattle.hex.specs.Hex.{IsBytes, encode_upper}
use Rattle.base64.specs.Engines.{standard}
use Rattle.base64.specs.GeneralPurpose.{encode_of}
use Rattle.csvw_binary.specs.declared.binary.BinaryForm.{BinaryForm}
use Rattle.csvw_binary.specs.declared.binary.BinaryForm.TheVariants.{Hex, Base64}
use Rattle.csvw_binary.specs.HexTexts.{hex_bytes, hex_form}
use Rattle.csvw_binary.specs.Base64Texts.{base64_bytes, base64_form}
use Rattle.csvw_binary.specs.Octets.{hex_octets, base64_octets}

-- the canonical text of the bytes that a text writes
abbrev pub binary_form : BinaryForm → List ℕ → Option (List ℕ)
binary_form Hex text = hex_form text
binary_form Base64 text = base64_form text

-- how many octets a canonical text writes: the length of the bytes that it decodes to
abbrev pub octet_count : BinaryForm → List ℕ → ℕ
octet_count Hex text = hex_octets text
octet_count Base64 text = base64_octets text

-- the canonical text of some bytes
abbrev pub encoded : BinaryForm → List ℕ → List ℕ
encoded Hex bytes = encode_upper bytes
encoded Base64 bytes = encode_of standard bytes

-- a text is the canonical text of some bytes
abbrev pub IsEncoded : BinaryForm → List ℕ → Type 0
IsEncoded form text = (bytes : List ℕ) × IsBytes bytes × (text ≡ encoded form bytes)

-- the bytes that a canonical text decodes to
abbrev pub decoded : BinaryForm → List ℕ → Option (List ℕ)
decoded Hex text = hex_bytes text
decoded Base64 text = base64_bytes text
