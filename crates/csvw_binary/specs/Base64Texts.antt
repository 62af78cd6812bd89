-- Texts of base64Binary (XML Schema 1.1 part 2, section 3.3.16; RFC 4648, section 4).
use Rattle.std.specs.Prelude.{ℕ, ◌==◌, not, List, Option, Some, None, Result, Ok, Err}
use Rattle.std.specs.List.{filter}
use Rattle.std.specs.Result.{result_ok}
use Rattle.base64.specs.Engines.{standard}
use Rattle.base64.specs.GeneralPurpose.{decode_of}
use Rattle.base64.specs.declared.decode.DecodeError.{DecodeError}

-- a text without its spaces
abbrev pub without_spaces : List ℕ → List ℕ
without_spaces text = filter (λ b. not (b == 32)) text

-- a text that decodes
abbrev pub if_decoded : List ℕ → Result (List ℕ) DecodeError → Option (List ℕ)
if_decoded text (Ok bytes) = Some text
if_decoded text (Err e) = None

-- the text itself, if it is the encoding of some bytes
unfoldable pub encoding : List ℕ → Option (List ℕ)
encoding text = if_decoded text (decode_of standard text)

-- the text without its spaces, if that is the encoding of some bytes
abbrev pub base64_form : List ℕ → Option (List ℕ)
base64_form text = encoding (without_spaces text)

-- the bytes of a text without spaces
unfoldable pub base64_bytes : List ℕ → Option (List ℕ)
base64_bytes text = result_ok (decode_of standard text)
