-- The encoding of bytes has no spaces, and is read again as the bytes. The check doesn't find it by itself: it needs the round trip
-- of `base64`, and what its table holds.
use Rattle.std.proofs.Common.{◌≡◌, ℕ, ◌<◌, ◌==◌, Bool, true, not, List, [], ◌∷◌, length, replicate, slice_index, Some, Result, Ok, Err, refl, sym, ap, ◌∙◌, arith, inl, inr}
use Rattle.std.specs.List.{All, filter}
use Rattle.std.specs.Result.{result_ok}
use Rattle.std.proofs.lemmas.Bool.{and_parts, cases_lt}
use Rattle.std.proofs.lemmas.List.{get_or_past}
use Rattle.std.proofs.lemmas.Option.{same_Some}
use Rattle.std.proofs.lemmas.List.Elements.{All-head, All-tail, All-append, All-replicate, All-weaker, All-filter, All-from_get_or, All-get_or, filter_passes}
use Rattle.base64.specs.Engines.{standard}
use Rattle.base64.specs.GeneralPurpose.{IsBytes, decode_of, encode_of}
use Rattle.base64.specs.Rfc4648.{encode_symbols, padding_len}
use Rattle.base64.specs.declared.decode.DecodeError.{DecodeError}
use Rattle.base64.proofs.EngineFacts.{decode_of-encode_of, decode_of_strict}
use Rattle.csvw_binary.specs.Base64Texts.{base64_bytes, base64_form, encoding, if_decoded, without_spaces}
use Rattle.csvw_binary.proofs.Symbols.{IsPlain, plain_symbols, symbols as standard_symbols}

abbrev no_space : ℕ → Bool
no_space b = not (b == 32)

filter_kept : (p : ℕ → Bool) (xs : List ℕ) → All (λ x. p x ≡ true) xs → filter p xs ≡ xs
filter_kept p [] h = refl
filter_kept p (x ∷ xs) h =
    let first : p x ≡ true = All-head (λ x. p x ≡ true) x xs h in
    let others = filter_kept p xs (All-tail (λ x. p x ≡ true) x xs h) in
    rw first (ap (λ (l : List ℕ). x ∷ l) others)

without_spaces_twice : (text : List ℕ) → without_spaces (without_spaces text) ≡ without_spaces text
without_spaces_twice text = filter_kept no_space (without_spaces text) (filter_passes no_space text)

if_decoded_same : (text form : List ℕ) (r : Result (List ℕ) DecodeError) → if_decoded text r ≡ Some form → text ≡ form
if_decoded_same text form (Ok bytes) made = same_Some text form made
if_decoded_same text form (Err e) made = cc

encoding_same : (text form : List ℕ) → encoding text ≡ Some form → text ≡ form
unfolding encoding
encoding_same text form made = if_decoded_same text form (decode_of standard text) made

pub same_base64 : (text form : List ℕ) → base64_form text ≡ Some form → base64_form form ≡ Some form
same_base64 text form made =
    let same : without_spaces text ≡ form = encoding_same (without_spaces text) form made in
    ap (λ (t : List ℕ). encoding (without_spaces t)) (sym same) ∙ ap encoding (without_spaces_twice text) ∙ made

encoding_of_bytes : (bytes : List ℕ) → IsBytes bytes → encoding (encode_of standard bytes) ≡ Some (encode_of standard bytes)
unfolding encoding
encoding_of_bytes bytes are = ap (if_decoded (encode_of standard bytes)) (decode_of-encode_of standard bytes refl are)

no_spaces : (bytes : List ℕ) → without_spaces (encode_of standard bytes) ≡ encode_of standard bytes
no_spaces bytes =
    let symbols = All-weaker IsPlain (λ c. no_space c ≡ true) (λ c plain. (and_parts (not (c == 61)) (no_space c) plain).1)
    (encode_symbols standard_symbols bytes) (plain_symbols bytes) in
    filter_kept no_space (encode_of standard bytes)
    (All-append (λ c. no_space c ≡ true) (encode_symbols standard_symbols bytes) (replicate (padding_len (length bytes)) 61) symbols
    (All-replicate (λ c. no_space c ≡ true) (padding_len (length bytes)) 61 refl))

pub base64_of_bytes : (bytes : List ℕ) → IsBytes bytes → base64_form (encode_of standard bytes) ≡ Some (encode_of standard bytes)
base64_of_bytes bytes are = ap encoding (no_spaces bytes) ∙ encoding_of_bytes bytes are

abbrev IsByte : ℕ → Type 0
IsByte b = b < 256

without_spaces_bytes : (text : List ℕ) → IsBytes text → IsBytes (without_spaces text)
without_spaces_bytes text are i =
    let all : All IsByte (without_spaces text) = All-filter no_space IsByte text (All-from_get_or IsByte text 0 (λ k within. are k)) in
    elim (cases_lt i (length (without_spaces text))) [
      | inl within ↦ All-get_or IsByte (without_spaces text) i 0 within all
      | inr past ↦
          let zero : slice_index (without_spaces text) i ≡ 0 = get_or_past (without_spaces text) i 0 past in
          omega (arith, zero)
    ]

bytes_from : (text form : List ℕ) (r : Result (List ℕ) DecodeError) → if_decoded text r ≡ Some form → (bytes : List ℕ) × (r ≡ Ok bytes) × (text ≡ form)
bytes_from text form (Ok bytes) made = (bytes, refl, same_Some text form made)
bytes_from text form (Err e) made = cc

encoding_bytes : (text form : List ℕ) → IsBytes text → encoding text ≡ Some form
    → (bytes : List ℕ) × (base64_bytes form ≡ Some bytes) × (form ≡ encode_of standard bytes)
unfolding encoding base64_bytes
encoding_bytes text form are made =
    let found = bytes_from text form (decode_of standard text) made in (
      found.0,
      ap (λ (t : List ℕ). result_ok (decode_of standard t)) (sym found.2) ∙ ap (λ (r : Result (List ℕ) DecodeError). result_ok r) found.1,
      sym found.2 ∙ decode_of_strict standard text found.0 (refl, refl) are found.1,
    )

-- the bytes of a canonical text
pub base64_bytes_of : (text form : List ℕ) → IsBytes text → base64_form text ≡ Some form
    → (bytes : List ℕ) × (base64_bytes form ≡ Some bytes) × (form ≡ encode_of standard bytes)
base64_bytes_of text form are made = encoding_bytes (without_spaces text) form (without_spaces_bytes text are) made
