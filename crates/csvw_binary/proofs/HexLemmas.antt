-- The digits of bytes are read again as the bytes. The check doesn't find it by itself: it needs the round trip of `hex`.
use Rattle.std.proofs.Common.{◌≡◌, ℕ, List, length, Some, Result, Ok, Err, refl, sym, ap, ◌∙◌, arith}
use Rattle.std.specs.Result.{result_ok}
use Rattle.std.proofs.lemmas.Option.{same_Some}
use Rattle.hex.specs.Hex.{IsBytes, decode_of, encode_upper, upper_digits}
use Rattle.hex.specs.declared.error.FromHexError.{FromHexError}
use Rattle.hex.proofs.HexLemmas.{decode_of-ok, decode_of-encode_upper, length-encode_with}
use Rattle.csvw_binary.specs.HexTexts.{hex_bytes, hex_form, upper_form}
use Rattle.csvw_binary.specs.Octets.{hex_octets}

-- the canonical text of bytes is their text
pub hex_of_bytes : (bytes : List ℕ) → IsBytes bytes → hex_form (encode_upper bytes) ≡ Some (encode_upper bytes)
unfolding hex_form
hex_of_bytes bytes are = ap upper_form (decode_of-encode_upper bytes are)

from_decoded : (r : Result (List ℕ) FromHexError) (text form : List ℕ) → decode_of text ≡ r → upper_form r ≡ Some form → hex_form form ≡ Some form
from_decoded (Err e) text form is made = cc
from_decoded (Ok bytes) text form is made =
    let same : encode_upper bytes ≡ form = same_Some (encode_upper bytes) form made in
    let ok = decode_of-ok text bytes is in
    ap hex_form (sym same) ∙ hex_of_bytes bytes ok.3 ∙ made

pub same_hex : (text form : List ℕ) → hex_form text ≡ Some form → hex_form form ≡ Some form
unfolding hex_form
same_hex text form made = from_decoded (decode_of text) text form refl made

pub hex_octets_of : (bytes : List ℕ) → hex_octets (encode_upper bytes) ≡ length bytes
hex_octets_of bytes = omega (arith, length-encode_with upper_digits bytes)

bytes_from : (r : Result (List ℕ) FromHexError) (text form : List ℕ) → decode_of text ≡ r → upper_form r ≡ Some form
    → (bytes : List ℕ) × (decode_of form ≡ Ok bytes) × (form ≡ encode_upper bytes)
bytes_from (Err e) text form is made = cc
bytes_from (Ok bytes) text form is made =
    let same : encode_upper bytes ≡ form = same_Some (encode_upper bytes) form made in
    let ok = decode_of-ok text bytes is in
    (bytes, ap (λ (t : List ℕ). decode_of t) (sym same) ∙ decode_of-encode_upper bytes ok.3, sym same)

-- the bytes of a canonical text
pub hex_bytes_of : (text form : List ℕ) → hex_form text ≡ Some form
    → (bytes : List ℕ) × (hex_bytes form ≡ Some bytes) × (form ≡ encode_upper bytes)
unfolding hex_form hex_bytes
hex_bytes_of text form made =
    let found = bytes_from (decode_of text) text form refl made in
    (found.0, ap (λ (r : Result (List ℕ) FromHexError). result_ok r) found.1, found.2)
