-- Laws of a text made safe.
use Rattle.std.proofs.Common.{◌≡◌, ℕ, ◌<◌, ◌≤◌, List, [], ◌∷◌, ◌++◌, Bool, true, false, cond, refl, ap, sym, ◌∙◌, arith, flat_map, nat_lt}
use Rattle.std.proofs.Common.{encode_utf8, encode_utf8_all, ⊎_elim, not, All, ◌&&◌, append-nil, ◌==◌}
use lib.Utf8.{encode}
use Rattle.std.proofs.lemmas.Bool.{cases_Bool, cond-true, cond-false, cond_both, cases_lt, ne_eqb, and_parts}
use Rattle.std.proofs.lemmas.Bool.Decides.{nat_tests}
use Rattle.std.proofs.lemmas.Str.{encode_ascii}
use Rattle.std.proofs.lemmas.Grind.{flat_map-append}
use Rattle.std.proofs.lemmas.List.Folds.{list_all-append, list_any_none}
use Rattle.std.proofs.lemmas.List.Elements.{All-head, All-tail, All-nil, All-cons, All-append, All-weaker}
use Rattle.percent_encoding.specs.Percent.{percent_encode_byte}
use Rattle.percent_encoding.proofs.PercentLemmas.{All-percent_encode_byte, IsEscapeByte}
use Rattle.url.proofs.InputLemmas.{IsNot}
use Rattle.csvw_iri.specs.Safe.{is_forbidden, is_iri, safe, safe_byte, has_hash}

-- what a character becomes
abbrev pub safe_char : ℕ → List ℕ
safe_char c = cond (is_forbidden c) (percent_encode_byte c) (encode_utf8 c)

not_true : (x : Bool) → not x ≡ true → x ≡ false
not_true true e = sym e
not_true false e = refl

high_is_kept : (b : ℕ) → 128 ≤ b → is_forbidden b ≡ false
high_is_kept b h = grind (arith, nat_tests)

kept : (b : ℕ) → 128 ≤ b → safe_byte b ≡ b ∷ []
kept b h = cond-false _ _ _ (high_is_kept b h)

keep_cons : (b : ℕ) (bs : List ℕ) → 128 ≤ b → flat_map safe_byte bs ≡ bs → flat_map safe_byte (b ∷ bs) ≡ b ∷ bs
keep_cons b bs h rest = ap (λ x. x ++ flat_map safe_byte bs) (kept b h) ∙ ap (λ x. b ∷ x) rest

high_encode : (c : ℕ) → 128 ≤ c → flat_map safe_byte (encode c) ≡ encode c
unfolding encode
high_encode c h =
    let P : List ℕ → Type 0 = λ bs. flat_map safe_byte bs ≡ bs in
    rw (cond-false (nat_lt c 128) (c ∷ []) _ (grind (arith, nat_tests)))
    (cond_both (nat_lt c 2048) _ _ P
    (λ e. keep_cons _ _ (omega arith) (keep_cons _ _ (omega arith) refl))
    (λ e. cond_both (nat_lt c 65536) _ _ P
    (λ e'. keep_cons _ _ (omega arith) (keep_cons _ _ (omega arith) (keep_cons _ _ (omega arith) refl)))
    (λ e'. keep_cons _ _ (omega arith) (keep_cons _ _ (omega arith) (keep_cons _ _ (omega arith) (keep_cons _ _ (omega arith) refl))))))

pub flat_map-encode : (c : ℕ) → flat_map safe_byte (encode_utf8 c) ≡ safe_char c
flat_map-encode c =
    ⊎_elim
    (λ (low : c < 128). rw (encode_ascii c low) (append-nil (safe_byte c)))
    (λ (high : 128 ≤ c). high_encode c high ∙ sym (cond-false _ _ _ (high_is_kept c high)))
    (cases_lt c 128)

pub flat_map-encodes : (cs : List ℕ) → flat_map safe_byte (encode_utf8_all cs) ≡ flat_map safe_char cs
flat_map-encodes [] = refl
flat_map-encodes (c ∷ cs) =
    flat_map-append safe_byte (encode_utf8 c) (encode_utf8_all cs)
    ∙ ap (λ x. x ++ flat_map safe_byte (encode_utf8_all cs)) (flat_map-encode c)
    ∙ ap (λ x. safe_char c ++ x) (flat_map-encodes cs)

escape_is_kept : (b : ℕ) → IsEscapeByte b → is_forbidden b ≡ false
escape_is_kept b h = grind (arith, nat_tests)

escape_bytes : (bs : List ℕ) → All IsEscapeByte bs → is_iri bs ≡ true
escape_bytes [] h = refl
escape_bytes (b ∷ bs) h =
    ap (λ x. not x && is_iri bs) (escape_is_kept b (All-head IsEscapeByte b bs h)) ∙ escape_bytes bs (All-tail IsEscapeByte b bs h)

is_iri-safe_byte : (b : ℕ) → is_iri (safe_byte b) ≡ true
is_iri-safe_byte b =
    ⊎_elim
    (λ (e : is_forbidden b ≡ true). ap is_iri (cond-true _ _ _ e) ∙ escape_bytes _ (All-percent_encode_byte b))
    (λ (e : is_forbidden b ≡ false). ap is_iri (cond-false _ _ _ e) ∙ ap (λ x. not x && true) e)
    (cases_Bool (is_forbidden b))

pub is_iri-safe : (text : List ℕ) → is_iri (safe text) ≡ true
unfolding safe
is_iri-safe [] = refl
is_iri-safe (b ∷ bs) =
    list_all-append _ (safe_byte b) (flat_map safe_byte bs)
    ∙ ap (λ x. x && is_iri (flat_map safe_byte bs)) (is_iri-safe_byte b)
    ∙ is_iri-safe bs

-- a text of which each character may stand raw stays as it is
pub unchanged : (text : List ℕ) → is_iri text ≡ true → safe text ≡ text
unfolding safe
unchanged [] h = refl
unchanged (b ∷ bs) h =
    let both = and_parts _ _ h in
    ap (λ x. x ++ flat_map safe_byte bs) (cond-false _ _ _ (not_true (is_forbidden b) both.0)) ∙ ap (λ x. b ∷ x) (unchanged bs both.1)

-- no `#` comes in where there was none
escape_is_no_hash : (b : ℕ) → IsEscapeByte b → IsNot 35 b
escape_is_no_hash b h e = grind arith

one_no_hash : (b : ℕ) → IsNot 35 b → All (IsNot 35) (safe_byte b)
one_no_hash b h =
    cond_both (is_forbidden b) (percent_encode_byte b) (b ∷ []) (All (IsNot 35))
    (λ e. All-weaker IsEscapeByte (IsNot 35) escape_is_no_hash (percent_encode_byte b) (All-percent_encode_byte b))
    (λ e. All-cons (IsNot 35) b [] h (All-nil (IsNot 35)))

all_no_hash : (text : List ℕ) → All (IsNot 35) text → All (IsNot 35) (flat_map safe_byte text)
all_no_hash [] h = All-nil (IsNot 35)
all_no_hash (b ∷ bs) h =
    All-append (IsNot 35) (safe_byte b) (flat_map safe_byte bs) (one_no_hash b (All-head (IsNot 35) b bs h)) (all_no_hash bs (All-tail (IsNot 35) b bs h))

pub has_hash-safe : (text : List ℕ) → All (IsNot 35) text → has_hash (safe text) ≡ false
unfolding safe
has_hash-safe text h =
    list_any_none _ (flat_map safe_byte text)
    (All-weaker (IsNot 35) (λ b. (b == 35) ≡ false) (λ b n. ne_eqb b 35 n) (flat_map safe_byte text) (all_no_hash text h))
