-- Bytes and their text.
use Rattle.std.proofs.Common.{◌≡◌, ℕ, zero, suc, ◌+◌, ◌≤◌, Bool, true, false, ◌==◌, if◌then◌else◌, List, [], ◌∷◌, ◌++◌, length, take, drop, refl, sym, ap, ◌∙◌, arith}
use Rattle.std.proofs.Common.{length-drop, chars, subst, length-append}
use Rattle.std.specs.Prelude.{IsUtf8, encode_utf8_all}
use Rattle.std.specs.Str.Lossy.{valid_len_up_to, utf8_valid_len}
use Rattle.std.proofs.lemmas.Grind.{common_steps}
use Rattle.std.proofs.lemmas.Bool.Decides.{nat_tests}
use Rattle.std.proofs.lemmas.List.{take-append-drop, take-append-le}
use Rattle.std.proofs.lemmas.Str.{utf8_valid_len_le, chars-append, chars-nil, encodes-chars, IsUtf8-from_is_utf8, is_utf8-from_IsUtf8, IsUtf8-nil}
use Rattle.std.proofs.lemmas.Str.{IsUtf8-take, IsUtf8-drop, IsCharBoundary-from_drop, IsCharBoundary-from_take, encodes-append}
use Rattle.std.specs.Str.{is_utf8}
use Rattle.csvw_records.specs.Files.{text_of, is_text}

pub take_len : (n : ℕ) (l : List ℕ) → n ≤ length l → length (take n l) ≡ n
take_len n l h = grind (arith, common_steps)

pub drop_past : (front rest : List ℕ) (n : ℕ) → drop (length front + n) (front ++ rest) ≡ drop n rest
drop_past [] rest n = ap (λ k. drop k rest) (let e : length (let e : List ℕ = [] in e) + n ≡ n = omega arith in e)
drop_past (x ∷ xs) rest n = ap (λ k. drop k (x ∷ xs ++ rest)) (let e : length (x ∷ xs) + n ≡ suc (length xs + n) = omega arith in e) ∙ drop_past xs rest n

pub split_chars : (r : List ℕ) (n : ℕ) → IsUtf8 (take n r) → chars r ≡ chars (take n r) ++ chars (drop n r)
split_chars r n u = ap chars (sym (take-append-drop n r)) ∙ chars-append (take n r) (drop n r) u

-- a text is empty where it has no characters
pub text_empty : (bs : List ℕ) → IsUtf8 bs → (length bs == 0) ≡ (length (chars bs) == 0)
text_empty [] u = ap (λ (l : List ℕ). length l == 0) (sym chars-nil)
text_empty (b ∷ bs) u = by_chars (chars (b ∷ bs)) (encodes-chars (b ∷ bs) u)
  where
    some : (x : ℕ) (xs : List ℕ) → (length (x ∷ xs) == 0) ≡ false
    some x xs = grind (arith, nat_tests)

    by_chars : (cs : List ℕ) → encode_utf8_all cs ≡ b ∷ bs → (length (b ∷ bs) == 0) ≡ (length cs == 0)
    by_chars [] e = absurd cc
    by_chars (c ∷ cs) e = some b bs ∙ sym (some c cs)

take_none : (n : ℕ) → take n (let e : List ℕ = [] in e) ≡ []
take_none zero = refl
take_none (suc n) = refl

pub text_none : text_of (let e : List ℕ = [] in e) ≡ []
text_none = ap chars (take_none (utf8_valid_len [])) ∙ chars-nil

-- whether the bytes are a text
pub is_text_of : (bytes : List ℕ) → drop (utf8_valid_len bytes) bytes ≡ [] → is_text bytes ≡ true
is_text_of bytes e =
    let k = utf8_valid_len_le bytes in
    let same : utf8_valid_len bytes ≡ length bytes = omega (arith, k, ap length e, length-drop (utf8_valid_len bytes) bytes) in
    grind (arith, nat_tests)

pub no_text_of : (bytes : List ℕ) → (drop (utf8_valid_len bytes) bytes ≡ [] → ⊥) → is_text bytes ≡ false
no_text_of bytes n = by_test (is_text bytes) refl
  where
    by_test : (b : Bool) → is_text bytes ≡ b → b ≡ false
    by_test false e = refl
    by_test true e = let same : utf8_valid_len bytes ≡ length bytes = grind (arith, nat_tests) in absurd (n (ap (λ n. drop n bytes) same ∙ all bytes))
      where
        all : (l : List ℕ) → drop (length l) l ≡ []
        all l = grind (arith, common_steps)

pub text_ends : (bytes : List ℕ) → is_text bytes ≡ true → drop (utf8_valid_len bytes) bytes ≡ []
text_ends bytes e = let same : utf8_valid_len bytes ≡ length bytes = grind (arith, nat_tests) in ap (λ n. drop n bytes) same ∙ all bytes
  where
    all : (l : List ℕ) → drop (length l) l ≡ []
    all l = grind (arith, common_steps)

pub bytes_more : (old new more : List ℕ) → is_utf8 old ≡ true → is_utf8 new ≡ true → chars new ≡ chars old ++ more
    → (new ≡ old ++ encode_utf8_all more) × IsUtf8 (encode_utf8_all more)
bytes_more old new more u v e =
    let uo = IsUtf8-from_is_utf8 old u in
    let un = IsUtf8-from_is_utf8 new v in
    let spelled : new ≡ old ++ encode_utf8_all more = sym (encodes-chars new un) ∙ ap encode_utf8_all e ∙ encodes-append (chars old) more
    ∙ ap (λ l. l ++ encode_utf8_all more) (encodes-chars old uo) in
    let front : take (length old) new ≡ old = ap (take (length old)) spelled ∙ fronts old (encode_utf8_all more) in
    let back : drop (length old) new ≡ encode_utf8_all more = ap (drop (length old)) spelled ∙ backs old (encode_utf8_all more) in
    let h : length old ≤ length new = (let k = ap length spelled in omega (arith, k, length-append old (encode_utf8_all more))) in
    (spelled, subst IsUtf8 back (IsUtf8-drop new (length old) un (IsCharBoundary-from_take new (length old) un h (subst IsUtf8 (sym front) uo))))
  where
    fronts : (a b : List ℕ) → take (length a) (a ++ b) ≡ a
    fronts a b = grind (arith, common_steps)

    backs : (a b : List ℕ) → drop (length a) (a ++ b) ≡ b
    backs a b = grind (arith, common_steps)

-- a text before a place of it
pub front_text : (text : List ℕ) (n : ℕ) → IsUtf8 text → n ≤ length text → is_utf8 (drop n text) ≡ true → IsUtf8 (take n text)
front_text text n u h e = IsUtf8-take text n u (IsCharBoundary-from_drop text n h (IsUtf8-from_is_utf8 (drop n text) e))

pub no_chars : (l : List ℕ) → length l ≡ 0 → chars l ≡ []
no_chars [] e = chars-nil
no_chars (x ∷ xs) e = absurd (omega (arith, e))

pub text_gone : (l : List ℕ) (n : ℕ) → n ≡ length l → is_utf8 (drop n l) ≡ true
text_gone l n e = ap is_utf8 (gone l n e) ∙ is_utf8-from_IsUtf8 [] IsUtf8-nil
  where
    gone : (l : List ℕ) (n : ℕ) → n ≡ length l → drop n l ≡ []
    gone l n e = grind (arith, common_steps)

-- fronts and ends of lists
pub drop_more : (n : ℕ) (a b : List ℕ) → n ≤ length a → drop n (a ++ b) ≡ drop n a ++ b
drop_more n a b h = grind (arith, common_steps)

pub take_front : (p q : List ℕ) → take (length p) (p ++ q) ≡ p
take_front p q = grind (arith, common_steps)

pub take_all : (n : ℕ) (l : List ℕ) → length l ≤ n → take n l ≡ l
take_all n l h = grind (arith, common_steps)

pub same_front : (a x b y : List ℕ) (n : ℕ) → a ++ x ≡ b ++ y → n ≤ length a → n ≤ length b → take n a ≡ take n b
same_front a x b y n e h k = sym (take-append-le n a x h) ∙ ap (take n) e ∙ take-append-le n b y k

up_to_valid : (bs : List ℕ) (n : ℕ) → IsUtf8 (take (valid_len_up_to bs n) bs)
up_to_valid bs zero = IsUtf8-nil
up_to_valid bs (suc n) = by_test (is_utf8 (take (suc n) bs)) refl (up_to_valid bs n)
  where
    by_test : (b : Bool) → is_utf8 (take (suc n) bs) ≡ b → IsUtf8 (take (valid_len_up_to bs n) bs)
        → IsUtf8 (take (if b then suc n else valid_len_up_to bs n) bs)
    by_test true e h = IsUtf8-from_is_utf8 (take (suc n) bs) e
    by_test false e h = h

-- the bytes before the first that isn't UTF-8 are a text
pub front_valid : (bs : List ℕ) → IsUtf8 (take (utf8_valid_len bs) bs)
unfolding utf8_valid_len
front_valid bs = up_to_valid bs (length bs)
