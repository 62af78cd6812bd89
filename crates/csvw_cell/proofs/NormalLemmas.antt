-- Texts without white space, which steps 1 and 2 leave as they are.
use Rattle.std.proofs.Common.{◌≡◌, ◌∙◌, ◌<◌, ◌≤◌, ℕ, Bool, true, false, List, [], ◌∷◌, refl, sym, ap, ap₂, arith, ◌==◌, ◌+◌, ◌/◌, ◌%◌, cond, nat_lt}
use Rattle.std.proofs.Common.{⊎_elim, ◌-◌, length, min, slice_index_or, take, drop}
use Rattle.std.specs.Prelude.{◌||◌, not, if◌then◌else◌, IsUtf8, chars, encode_utf8, encode_utf8_all}
use lib.Utf8.{encode}
use Rattle.std.specs.List.{list_any}
use Rattle.std.proofs.lemmas.Bool.{false≢true, cond-false, cases_lt}
use Rattle.std.proofs.lemmas.Bool.Decides.{nat_tests}
use Rattle.std.proofs.lemmas.List.Folds.{list_any-append}
use Rattle.std.proofs.lemmas.Str.{encode_ascii, encodes-chars}
use Rattle.std.proofs.Math.Seq.{take-length}
use Rattle.csvw_text.specs.Collapse.{is_break, is_space, spaced, unled, single, collapse}
use Rattle.csvw_datatype.specs.declared.white_space.WhiteSpace.{WhiteSpace}
use Rattle.csvw_datatype.specs.declared.white_space.WhiteSpace.TheVariants as ways
use Rattle.csvw_cell.specs.CellOf.{normalized_by}

neither : (a b : Bool) → (a || b) ≡ false → (a ≡ false) × (b ≡ false)
neither false b e = (refl, e)
neither true b e = absurd (false≢true (sym e))

pub no_space : (b : Bool) → not b ≡ true → b ≡ false
no_space false e = refl
no_space true e = absurd (false≢true e)

-- a character that is no space
other : (c : ℕ) → is_space c ≡ false → ((if is_break c then 32 else c) ≡ c) × ((c == 32) ≡ false)
other c h = (grind (arith, nat_tests), grind (arith, nat_tests))

single_same : (cs : List ℕ) → list_any is_space cs ≡ false → single (spaced cs) ≡ cs
single_same [] e = refl
single_same (c ∷ cs) e =
    let both = neither (is_space c) (list_any is_space cs) e in
    let here = other c both.0 in
    ap (λ x. single (x ∷ spaced cs)) here.0 ∙ cond-false _ _ _ here.1 ∙ ap (λ xs. c ∷ xs) (single_same cs both.1)

unled_same : (cs : List ℕ) → list_any is_space cs ≡ false → unled cs ≡ cs
unled_same [] e = refl
unled_same (c ∷ cs) e = cond-false _ _ _ (other c (neither (is_space c) (list_any is_space cs) e).0).1

spaced_same : (cs : List ℕ) → list_any is_space cs ≡ false → spaced cs ≡ cs
spaced_same [] e = refl
spaced_same (c ∷ cs) e =
    let both = neither (is_space c) (list_any is_space cs) e in
    ap₂ (λ x xs. x ∷ xs) (other c both.0).0 (spaced_same cs both.1)

collapse_same : (cs : List ℕ) → list_any is_space cs ≡ false → collapse cs ≡ cs
collapse_same cs e = ap unled (single_same cs e) ∙ unled_same cs e

-- steps 1 and 2 leave a text without white space
pub stays_by : (way : WhiteSpace) (text : List ℕ) → IsUtf8 text → list_any is_space (chars text) ≡ false → normalized_by way text ≡ text
stays_by ways.Preserve text utf8 none = refl
stays_by ways.Replace text utf8 none = ap encode_utf8_all (spaced_same (chars text) none) ∙ encodes-chars text utf8
stays_by ways.Collapse text utf8 none = ap encode_utf8_all (collapse_same (chars text) none) ∙ encodes-chars text utf8

-- no byte of a character outside ASCII is white space
high_byte : (b : ℕ) → 128 ≤ b → is_space b ≡ false
high_byte b h = grind (arith, nat_tests)

lead : (k n : ℕ) → 128 ≤ k → is_space (k + n) ≡ false
lead k n h = high_byte (k + n) (omega arith)

next : (n : ℕ) → is_space (128 + n) ≡ false
next n = high_byte (128 + n) (omega arith)

chosen : (b : Bool) (x y : List ℕ) → list_any is_space x ≡ false → list_any is_space y ≡ false → list_any is_space (cond b x y) ≡ false
chosen true x y p q = p
chosen false x y p q = q

-- four bytes above all white space
pub four_others : (text : List ℕ) → 4 ≤ length text
    → 32 < min (min (slice_index_or text 0 0) (slice_index_or text 1 0)) (min (slice_index_or text 2 0) (slice_index_or text 3 0))
    → list_any is_space (take (length text - 4) (drop 4 text)) ≡ list_any is_space text
four_others [] h l = absurd (omega (arith, h))
four_others (a ∷ []) h l = absurd (omega (arith, h))
four_others (a ∷ b ∷ []) h l = absurd (omega (arith, h))
four_others (a ∷ b ∷ c ∷ []) h l = absurd (omega (arith, h))
four_others (a ∷ b ∷ c ∷ d ∷ bs) h l =
    let p = printed a (omega (arith, l)) in
    let q = printed b (omega (arith, l)) in
    let r = printed c (omega (arith, l)) in
    let s = printed d (omega (arith, l)) in
    ap (list_any is_space) (ap (λ n. take n bs) (omega arith) ∙ take-length bs) ∙ sym (rw (p, q, r, s) refl)
  where
    printed : (b : ℕ) → 32 < b → is_space b ≡ false
    printed b h = grind (arith, nat_tests)

two : (x y : ℕ) → is_space x ≡ false → is_space y ≡ false → list_any is_space (x ∷ y ∷ []) ≡ false
two x y p q = rw (p, q) refl

three : (x y z : ℕ) → is_space x ≡ false → is_space y ≡ false → is_space z ≡ false → list_any is_space (x ∷ y ∷ z ∷ []) ≡ false
three x y z p q r = rw (p, q, r) refl

four : (w x y z : ℕ) → is_space w ≡ false → is_space x ≡ false → is_space y ≡ false → is_space z ≡ false → list_any is_space (w ∷ x ∷ y ∷ z ∷ []) ≡ false
four w x y z p q r s = rw (p, q, r, s) refl

not_below : (c : ℕ) → 128 ≤ c → nat_lt c 128 ≡ false
not_below c h = grind (arith, nat_tests)

high_encode : (c : ℕ) → 128 ≤ c → list_any is_space (encode c) ≡ false
unfolding encode
high_encode c h =
    let last = 128 + c % 64 in
    let third = 128 + (c / 64) % 64 in
    let second = 128 + (c / 4096) % 64 in
    rw (not_below c h)
    (chosen (nat_lt c 2048) _ _ (two (192 + c / 64) last (lead 192 (c / 64) (omega arith)) (next (c % 64)))
    (chosen (nat_lt c 65536) _ _ (three (224 + c / 4096) third last (lead 224 (c / 4096) (omega arith)) (next ((c / 64) % 64)) (next (c % 64)))
    (four (240 + c / 262144) second third last (lead 240 (c / 262144) (omega arith)) (next ((c / 4096) % 64)) (next ((c / 64) % 64)) (next (c % 64)))))

or_false : (b : Bool) → (b || false) ≡ b
or_false true = refl
or_false false = refl

char_same : (c : ℕ) → list_any is_space (encode_utf8 c) ≡ is_space c
char_same c =
    ⊎_elim
    (λ (low : c < 128). ap (list_any is_space) (encode_ascii c low) ∙ or_false (is_space c))
    (λ (high : 128 ≤ c). high_encode c high ∙ sym (high_byte c high))
    (cases_lt c 128)

chars_same : (cs : List ℕ) → list_any is_space (encode_utf8_all cs) ≡ list_any is_space cs
chars_same [] = refl
chars_same (c ∷ cs) =
    list_any-append is_space (encode_utf8 c) (encode_utf8_all cs)
    ∙ (ap (λ x. x || list_any is_space (encode_utf8_all cs)) (char_same c) ∙ ap (λ x. is_space c || x) (chars_same cs))

-- the bytes of a text tell whether it has white space
pub space_bytes : (text : List ℕ) → IsUtf8 text → list_any is_space text ≡ list_any is_space (chars text)
space_bytes text utf8 = sym (ap (list_any is_space) (encodes-chars text utf8)) ∙ chars_same (chars text)
