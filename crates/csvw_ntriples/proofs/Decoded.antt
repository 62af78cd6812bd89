-- The bytes of a text, and its characters.
use Rattle.std.proofs.Common.{◌≡◌, ◌<◌, ◌≤◌, ◌+◌, ℕ, List, [], ◌∷◌, ◌++◌, refl, sym, ap, ◌∙◌, subst, arith, true, false, Bool, cond, not, ◌/◌, ◌%◌}
use Rattle.std.proofs.Common.{◌&&◌, append-nil}
use Rattle.std.proofs.lemmas.Bool.{and_parts}
use Rattle.std.proofs.lemmas.Bool.Decides.{nat_tests}
use Rattle.std.proofs.lemmas.Str.{encode_ascii, encodes-append}
use Rattle.std.proofs.lemmas.List.Concat.{flat_map-append}
use Rattle.std.proofs.lemmas.List.Folds.{list_all-append}
use Rattle.std.specs.Prelude.{nat_lt, nat_le, flat_map, encode_utf8_all}
use Rattle.std.specs.List.{list_all, list_any}
use lib.Utf8.{encode}
use Rattle.csvw_iri.specs.Safe.{is_forbidden, is_iri}
use Rattle.csvw_ntriples.specs.Character.{is_raw_in_iri}
use Rattle.csvw_ntriples.specs.Escape.{needs_escape}
use Rattle.csvw_ntriples.specs.Written.{escaped}
use Rattle.csvw_ntriples.proofs.EscapeLemmas.{flat_map-escaped}

-- outside ASCII
abbrev is_high : ℕ → Bool
is_high b = nat_le 128 b

high : (b : ℕ) → 128 ≤ b → is_high b ≡ true
high b h = grind (arith, nat_tests)

next_high : (n : ℕ) → is_high (128 + n) ≡ true
next_high n = high (128 + n) (omega arith)

lead_high : (k n : ℕ) → 128 ≤ k → is_high (k + n) ≡ true
lead_high k n h = high (k + n) (omega arith)

chosen_high : (b : Bool) (x y : List ℕ) → list_all is_high x ≡ true → list_all is_high y ≡ true → list_all is_high (cond b x y) ≡ true
chosen_high true x y p q = p
chosen_high false x y p q = q

two_high : (x y : ℕ) → is_high x ≡ true → is_high y ≡ true → list_all is_high (x ∷ y ∷ []) ≡ true
two_high x y p q = rw (p, q) refl

three_high : (x y z : ℕ) → is_high x ≡ true → is_high y ≡ true → is_high z ≡ true → list_all is_high (x ∷ y ∷ z ∷ []) ≡ true
three_high x y z p q r = rw (p, q, r) refl

four_high : (w x y z : ℕ) → is_high w ≡ true → is_high x ≡ true → is_high y ≡ true → is_high z ≡ true → list_all is_high (w ∷ x ∷ y ∷ z ∷ []) ≡ true
four_high w x y z p q r s = rw (p, q, r, s) refl

not_below : (c : ℕ) → 128 ≤ c → nat_lt c 128 ≡ false
not_below c h = grind (arith, nat_tests)

-- a character outside ASCII has no byte of ASCII
encode_high : (c : ℕ) → 128 ≤ c → list_all is_high (encode c) ≡ true
unfolding encode
encode_high c h =
    rw (not_below c h)
    (chosen_high (nat_lt c 2048) _ _ (two_high _ _ (lead_high 192 (c / 64) (omega arith)) (next_high (c % 64)))
    (chosen_high (nat_lt c 65536) _ _ (three_high _ _ _ (lead_high 224 (c / 4096) (omega arith)) (next_high ((c / 64) % 64)) (next_high (c % 64)))
    (four_high _ _ _ _ (lead_high 240 (c / 262144) (omega arith)) (next_high ((c / 4096) % 64)) (next_high ((c / 64) % 64)) (next_high (c % 64)))))

-- IRIs
and_true : (a b : Bool) → a ≡ true → b ≡ true → (a && b) ≡ true
and_true true b h k = k
and_true false b h k = cc

allowed : ℕ → Bool
allowed b = not (is_forbidden b)

raw_low : (c : ℕ) → not (is_forbidden c) ≡ true → is_raw_in_iri c ≡ true
raw_low c h = grind (arith, nat_tests)

raw_high : (c : ℕ) → 128 ≤ c → is_raw_in_iri c ≡ true
raw_high c h = grind (arith, nat_tests)

below : (c : ℕ) → nat_lt c 128 ≡ true → c < 128
below c h = grind (arith, nat_tests)

above : (c : ℕ) → nat_lt c 128 ≡ false → 128 ≤ c
above c h = grind (arith, nat_tests)

raw_one : (c : ℕ) (b : Bool) → nat_lt c 128 ≡ b → list_all (λ x. not (is_forbidden x)) (encode c) ≡ true → is_raw_in_iri c ≡ true
raw_one c true e h =
    let alone : list_all (λ x. not (is_forbidden x)) (c ∷ []) ≡ true =
    subst (λ (z : List ℕ). list_all (λ x. not (is_forbidden x)) z ≡ true) (encode_ascii c (below c e)) h in
    raw_low c (and_parts (not (is_forbidden c)) true alone).0
raw_one c false e h = raw_high c (above c e)

-- an IRI of bytes is one of characters
pub raw_chars : (cs : List ℕ) → is_iri (encode_utf8_all cs) ≡ true → list_all is_raw_in_iri cs ≡ true
raw_chars [] h = refl
raw_chars (c ∷ cs) h =
    let both = and_parts (list_all (λ x. not (is_forbidden x)) (encode c)) (is_iri (encode_utf8_all cs))
    (sym (list_all-append (λ x. not (is_forbidden x)) (encode c) (encode_utf8_all cs)) ∙ h) in
    and_true _ _ (raw_one c (nat_lt c 128) refl both.0) (raw_chars cs both.1)

-- literals
plain_high : (b : ℕ) → is_high b ≡ true → needs_escape b ≡ false
plain_high b h = grind (arith, nat_tests)

none_escaped : (bs : List ℕ) → list_all is_high bs ≡ true → list_any needs_escape bs ≡ false
none_escaped [] h = refl
none_escaped (b ∷ bs) h =
    let both = and_parts (is_high b) (list_all is_high bs) h in
    rw (plain_high b both.0) (none_escaped bs both.1)

escaped_high : (c : ℕ) → 128 ≤ c → escaped c ≡ c ∷ []
escaped_high c h = grind (arith, nat_tests)

is_low : ℕ → Bool
is_low c = nat_lt c 128

escaped_low : (c : ℕ) → c < 128 → list_all (λ x. nat_lt x 128) (escaped c) ≡ true
escaped_low c h = grind (arith, nat_tests)

pub encodes_low : (cs : List ℕ) → list_all (λ x. nat_lt x 128) cs ≡ true → encode_utf8_all cs ≡ cs
encodes_low [] h = refl
encodes_low (c ∷ cs) h =
    let both = and_parts (nat_lt c 128) (list_all (λ x. nat_lt x 128) cs) h in
    rw (encode_ascii c (below c both.0), encodes_low cs both.1) refl

escaped_one : (c : ℕ) (b : Bool) → nat_lt c 128 ≡ b → flat_map escaped (encode c) ≡ encode_utf8_all (escaped c)
escaped_one c true e =
    ap (flat_map escaped) (encode_ascii c (below c e)) ∙ (append-nil (escaped c) ∙ sym (encodes_low (escaped c) (escaped_low c (below c e))))
escaped_one c false e =
    flat_map-escaped (encode c) (none_escaped (encode c) (encode_high c (above c e)))
    ∙ (sym (append-nil (encode c)) ∙ ap encode_utf8_all (sym (escaped_high c (above c e))))

-- escapes of bytes are those of characters
pub escaped_chars : (cs : List ℕ) → flat_map escaped (encode_utf8_all cs) ≡ encode_utf8_all (flat_map escaped cs)
escaped_chars [] = refl
escaped_chars (c ∷ cs) =
    flat_map-append escaped (encode c) (encode_utf8_all cs)
    ∙ (ap (λ z. z ++ flat_map escaped (encode_utf8_all cs)) (escaped_one c (nat_lt c 128) refl)
    ∙ (ap (λ z. encode_utf8_all (escaped c) ++ z) (escaped_chars cs)
    ∙ sym (encodes-append (escaped c) (flat_map escaped cs))))
