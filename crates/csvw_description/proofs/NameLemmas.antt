-- Names have only characters that may be raw in an IRIREF.
use Rattle.std.proofs.Common.{◌≡◌, ℕ, ◌<◌, ◌%◌, ◌/◌, zero, suc, List, [], ◌∷◌, ◌++◌, Bool, true, false, cond, refl, ap, ◌∙◌, arith, flat_map, ⊎_elim}
use Rattle.std.proofs.Common.{not, All, ◌&&◌, ◌==◌}
use Rattle.std.proofs.lemmas.Bool.{cases_Bool, cond-true, cond-false}
use Rattle.std.proofs.lemmas.Bool.Decides.{nat_tests}
use Rattle.std.proofs.lemmas.List.Folds.{list_all-append}
use Rattle.std.proofs.lemmas.List.Elements.{All-head, All-tail}
use Rattle.std.specs.Prelude.{codes}
use Rattle.std.specs.Fmt.{decimal, digits, digits_onto, digit_glyph}
use Rattle.percent_encoding.proofs.PercentLemmas.{All-percent_encode_byte, IsEscapeByte}
use Rattle.csvw_text.specs.Class.{is_unreserved_char}
use Rattle.csvw_iri.specs.Encoded.{encoded_byte, percent_encoded}
use Rattle.csvw_iri.specs.Safe.{is_forbidden, is_iri}

escape_is_raw : (b : ℕ) → IsEscapeByte b → is_forbidden b ≡ false
escape_is_raw b h = grind (arith, nat_tests)

escapes_are_raw : (bs : List ℕ) → All IsEscapeByte bs → is_iri bs ≡ true
escapes_are_raw [] h = refl
escapes_are_raw (b ∷ bs) h =
    ap (λ x. not x && is_iri bs) (escape_is_raw b (All-head IsEscapeByte b bs h)) ∙ escapes_are_raw bs (All-tail IsEscapeByte b bs h)

unreserved_is_raw : (b : ℕ) → is_unreserved_char b ≡ true → is_forbidden b ≡ false
unreserved_is_raw b h = grind (arith, nat_tests)

is_iri-encoded_byte : (b : ℕ) → is_iri (encoded_byte b) ≡ true
is_iri-encoded_byte b =
    ⊎_elim
    (λ (e : is_unreserved_char b ≡ true). ap is_iri (cond-true _ _ _ e) ∙ ap (λ x. not x && true) (unreserved_is_raw b e))
    (λ (e : is_unreserved_char b ≡ false). ap is_iri (cond-false _ _ _ e) ∙ escapes_are_raw _ (All-percent_encode_byte b))
    (cases_Bool (is_unreserved_char b))

pub is_iri-encoded : (title : List ℕ) → is_iri (percent_encoded title) ≡ true
is_iri-encoded [] = refl
is_iri-encoded (b ∷ bs) =
    list_all-append _ (encoded_byte b) (flat_map encoded_byte bs)
    ∙ ap (λ x. x && is_iri (flat_map encoded_byte bs)) (is_iri-encoded_byte b)
    ∙ is_iri-encoded bs

-- decimal digits
digit_is_raw : (d : ℕ) → d < 10 → is_forbidden (digit_glyph false d) ≡ false
digit_is_raw d h = grind (arith, nat_tests)

chosen_raw : (b : Bool) (x y : List ℕ) → is_iri x ≡ true → is_iri y ≡ true → is_iri (cond b x y) ≡ true
chosen_raw true x y p q = p
chosen_raw false x y p q = q

onto_raw : (k n : ℕ) (acc : List ℕ) → is_iri acc ≡ true → is_iri (digits_onto k 10 false n acc) ≡ true
onto_raw zero n acc h = h
onto_raw (suc k) n acc h =
    let small : n % 10 < 10 = omega arith in
    let more : is_iri (digit_glyph false (n % 10) ∷ acc) ≡ true = ap (λ x. not x && is_iri acc) (digit_is_raw (n % 10) small) ∙ h in
    chosen_raw (n / 10 == 0) (digit_glyph false (n % 10) ∷ acc) (digits_onto k 10 false (n / 10) (digit_glyph false (n % 10) ∷ acc)) more
    (onto_raw k (n / 10) (digit_glyph false (n % 10) ∷ acc) more)

pub is_iri-decimal : (n : ℕ) → is_iri (decimal n) ≡ true
unfolding digits
is_iri-decimal n = onto_raw 64 n [] refl

pub is_iri-numbered : (n : ℕ) → is_iri (codes "_col." ++ decimal n) ≡ true
is_iri-numbered n = is_iri-decimal n
