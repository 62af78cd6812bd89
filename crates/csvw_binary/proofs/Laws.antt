-- The laws, for both types.
use Rattle.std.proofs.Common.{◌≡◌, ◌∙◌, ap, subst, sym, ℕ, List, length, Option, Some}
use Rattle.std.specs.Option.{IsSomeAnd}
use Rattle.hex.specs.Hex.{IsBytes}
use Rattle.csvw_binary.specs.declared.binary.BinaryForm.{BinaryForm}
use Rattle.csvw_binary.specs.declared.binary.BinaryForm.TheVariants.{Hex, Base64}
use Rattle.csvw_binary.specs.Binaries.{binary_form, decoded, encoded, octet_count}
use Rattle.csvw_binary.proofs.HexLemmas.{hex_bytes_of, hex_of_bytes, hex_octets_of, same_hex}
use Rattle.csvw_binary.proofs.Base64Lemmas.{base64_bytes_of, base64_of_bytes, same_base64}
use Rattle.csvw_binary.proofs.OctetLemmas.{base64_octets_of}

pub same_form : (form : BinaryForm) (text canonical : List ℕ) → binary_form form text ≡ Some canonical → binary_form form canonical ≡ Some canonical
same_form Hex text canonical = same_hex text canonical
same_form Base64 text canonical = same_base64 text canonical

pub form_of_bytes : (form : BinaryForm) (bytes : List ℕ) → IsBytes bytes
    → (binary_form form (encoded form bytes) ≡ Some (encoded form bytes)) × (octet_count form (encoded form bytes) ≡ length bytes)
form_of_bytes Hex bytes are = (hex_of_bytes bytes are, hex_octets_of bytes)
form_of_bytes Base64 bytes are = (base64_of_bytes bytes are, base64_octets_of bytes)

some_and : (form : BinaryForm) (canonical : List ℕ)
    → (bytes : List ℕ) × (decoded form canonical ≡ Some bytes) × (canonical ≡ encoded form bytes)
    → ((bytes : List ℕ) → octet_count form (encoded form bytes) ≡ length bytes)
    → IsSomeAnd (decoded form canonical) (λ bytes. (canonical ≡ encoded form bytes) × (octet_count form canonical ≡ length bytes))
some_and form canonical found count =
    let Q : List ℕ → Type 0 = λ bytes. (canonical ≡ encoded form bytes) × (octet_count form canonical ≡ length bytes) in
    let P : Option (List ℕ) → Type 0 = λ o. IsSomeAnd o Q in
    subst P (sym found.1) (found.2, ap (λ (t : List ℕ). octet_count form t) found.2 ∙ count found.0)

pub octets_of_form : (form : BinaryForm) (text canonical : List ℕ) → IsBytes text → binary_form form text ≡ Some canonical
    → IsSomeAnd (decoded form canonical) (λ bytes. (canonical ≡ encoded form bytes) × (octet_count form canonical ≡ length bytes))
octets_of_form Hex text canonical are made = some_and Hex canonical (hex_bytes_of text canonical made) hex_octets_of
octets_of_form Base64 text canonical are made = some_and Base64 canonical (base64_bytes_of text canonical are made) base64_octets_of
