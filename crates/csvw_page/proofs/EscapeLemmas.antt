-- Escaped texts, by bytes and by characters.
use Rattle.std.proofs.Common.{◌≡◌, ℕ, ◌<◌, ◌≤◌, List, [], ◌∷◌, ◌++◌, refl, ap, sym}
use Rattle.std.proofs.Common.{◌∙◌, arith, flat_map, nat_lt, encode_utf8, encode_utf8_all, ⊎_elim, append-nil, ◌==◌}
use lib.Utf8.{encode}
use Rattle.std.proofs.lemmas.Bool.{cond-false, cond_both, cases_lt}
use Rattle.std.proofs.lemmas.Bool.Decides.{nat_tests}
use Rattle.std.proofs.lemmas.Str.{encode_ascii}
use Rattle.std.proofs.lemmas.Grind.{flat_map-append}
use Rattle.csvw_page.specs.Escape.{escape}

abbrev pub escape_byte : ℕ → List ℕ
escape_byte b = escape b (b ∷ [])

-- what a character becomes
abbrev pub escape_char : ℕ → List ℕ
escape_char c = escape c (encode_utf8 c)

plain : (c : ℕ) (bytes : List ℕ) → 128 ≤ c → escape c bytes ≡ bytes
plain c bytes h =
    cond-false (c == 60) _ _ (grind (arith, nat_tests)) ∙ cond-false (c == 62) _ _ (grind (arith, nat_tests))
    ∙ cond-false (c == 38) _ _ (grind (arith, nat_tests)) ∙ cond-false (c == 34) _ _ (grind (arith, nat_tests))
    ∙ cond-false (c == 39) _ _ (grind (arith, nat_tests))

keep_cons : (b : ℕ) (bs : List ℕ) → 128 ≤ b → flat_map escape_byte bs ≡ bs → flat_map escape_byte (b ∷ bs) ≡ b ∷ bs
keep_cons b bs h rest = ap (λ x. x ++ flat_map escape_byte bs) (plain b (b ∷ []) h) ∙ ap (λ x. b ∷ x) rest

high_encode : (c : ℕ) → 128 ≤ c → flat_map escape_byte (encode c) ≡ encode c
unfolding encode
high_encode c h =
    let P : List ℕ → Type 0 = λ bs. flat_map escape_byte bs ≡ bs in
    rw (cond-false (nat_lt c 128) (c ∷ []) _ (grind (arith, nat_tests)))
    (cond_both (nat_lt c 2048) _ _ P
    (λ e. keep_cons _ _ (omega arith) (keep_cons _ _ (omega arith) refl))
    (λ e. cond_both (nat_lt c 65536) _ _ P
    (λ e'. keep_cons _ _ (omega arith) (keep_cons _ _ (omega arith) (keep_cons _ _ (omega arith) refl)))
    (λ e'. keep_cons _ _ (omega arith) (keep_cons _ _ (omega arith) (keep_cons _ _ (omega arith) (keep_cons _ _ (omega arith) refl))))))

pub flat_map-encode : (c : ℕ) → flat_map escape_byte (encode_utf8 c) ≡ escape_char c
flat_map-encode c =
    ⊎_elim
    (λ (low : c < 128). rw (encode_ascii c low) (append-nil (escape_byte c)))
    (λ (high : 128 ≤ c). high_encode c high ∙ sym (plain c (encode_utf8 c) high))
    (cases_lt c 128)

pub flat_map-encodes : (cs : List ℕ) → flat_map escape_byte (encode_utf8_all cs) ≡ flat_map escape_char cs
flat_map-encodes [] = refl
flat_map-encodes (c ∷ cs) =
    flat_map-append escape_byte (encode_utf8 c) (encode_utf8_all cs)
    ∙ ap (λ x. x ++ flat_map escape_byte (encode_utf8_all cs)) (flat_map-encode c)
    ∙ ap (λ x. escape_char c ++ x) (flat_map-encodes cs)
