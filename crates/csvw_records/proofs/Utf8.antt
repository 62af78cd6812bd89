-- The text of bytes with more bytes after them.
use Rattle.std.proofs.Common.{◌≡◌, ℕ, zero, suc, ◌+◌, ◌-◌, ◌<◌, ◌≤◌, Bool, true, false, not, ◌==◌, if◌then◌else◌, List, [], ◌∷◌, ◌++◌, length, take}
use Rattle.std.proofs.Common.{drop, refl, sym, ap, ◌∙◌, subst, arith, append_assoc, length-append, inl, inr, chars}
use Rattle.std.specs.Prelude.{IsUtf8}
use Rattle.std.specs.Str.{is_utf8}
use Rattle.std.specs.Str.Lossy.{valid_len_up_to, utf8_valid_len}
use Rattle.std.proofs.lemmas.Grind.{common_steps}
use Rattle.std.proofs.lemmas.Bool.{cases_lt}
use Rattle.std.proofs.lemmas.List.{take-append-drop}
use Rattle.std.proofs.lemmas.Str.{IsUtf8-from_is_utf8, is_utf8-from_IsUtf8, IsUtf8-nil, IsUtf8-append, IsUtf8-drop, IsCharBoundary-from_take}
use Rattle.std.proofs.lemmas.Str.{utf8_valid_len_le, chars-append}
use Rattle.csvw_records.specs.Files.{text_of, content, without_mark, is_empty}
use Rattle.csvw_records.proofs.Lookahead.{behind_front}

up_to_valid : (bs : List ℕ) (n : ℕ) → IsUtf8 (take (valid_len_up_to bs n) bs)
up_to_valid bs zero = IsUtf8-nil
up_to_valid bs (suc n) = by_test (is_utf8 (take (suc n) bs)) refl (up_to_valid bs n)
  where
    by_test : (b : Bool) → is_utf8 (take (suc n) bs) ≡ b → IsUtf8 (take (valid_len_up_to bs n) bs)
        → IsUtf8 (take (if b then suc n else valid_len_up_to bs n) bs)
    by_test true e h = IsUtf8-from_is_utf8 (take (suc n) bs) e
    by_test false e h = h

up_to_longest : (bs : List ℕ) (n m : ℕ) → valid_len_up_to bs n < m → m ≤ n → IsUtf8 (take m bs) → ⊥
up_to_longest bs zero m h k u = omega (arith, h, k)
up_to_longest bs (suc n) m h k u = by_test (is_utf8 (take (suc n) bs)) refl h (λ g l. up_to_longest bs n m g l u)
  where
    by_test : (b : Bool) → is_utf8 (take (suc n) bs) ≡ b → (if b then suc n else valid_len_up_to bs n) < m → (valid_len_up_to bs n < m → m ≤ n → ⊥) → ⊥
    by_test true e h ih = omega (arith, h, k)
    by_test false e h ih = elim (cases_lt n m) [
      | inl past ↦
          let same : m ≡ suc n = omega (arith, past, k) in
          let z = sym e ∙ is_utf8-from_IsUtf8 (take (suc n) bs) (subst (λ (j : ℕ). IsUtf8 (take j bs)) same u) in absurd cc
      | inr within ↦ ih h within
    ]

pub front_valid : (bs : List ℕ) → IsUtf8 (take (utf8_valid_len bs) bs)
unfolding utf8_valid_len
front_valid bs = up_to_valid bs (length bs)

pub front_longest : (bs : List ℕ) (m : ℕ) → utf8_valid_len bs < m → m ≤ length bs → IsUtf8 (take m bs) → ⊥
unfolding utf8_valid_len
front_longest bs m h k u = up_to_longest bs (length bs) m h k u

valid_is : (bs : List ℕ) (n : ℕ) → n ≤ length bs → IsUtf8 (take n bs) → ((m : ℕ) → n < m → m ≤ length bs → IsUtf8 (take m bs) → ⊥) → utf8_valid_len bs ≡ n
valid_is bs n h u longest =
    let v = utf8_valid_len bs in
    let k = utf8_valid_len_le bs in
    elim (cases_lt v n) [
      | inl less ↦ absurd (front_longest bs n less h u)
      | inr more ↦ elim (cases_lt n v) [
        | inl past ↦ absurd (longest v past k (front_valid bs))
        | inr less ↦ omega (arith, more, less)
      ]
    ]

pub take_len : (n : ℕ) (l : List ℕ) → n ≤ length l → length (take n l) ≡ n
take_len n l h = grind (arith, common_steps)

take_past : (front rest : List ℕ) (n : ℕ) → take (length front + n) (front ++ rest) ≡ front ++ take n rest
take_past [] rest n = ap (λ k. take k rest) (let e : length (let e : List ℕ = [] in e) + n ≡ n = omega arith in e)
take_past (x ∷ xs) rest n = ap (λ k. take k (x ∷ xs ++ rest)) (let e : length (x ∷ xs) + n ≡ suc (length xs + n) = omega arith in e)
    ∙ ap (λ l. x ∷ l) (take_past xs rest n)

pub drop_past : (front rest : List ℕ) (n : ℕ) → drop (length front + n) (front ++ rest) ≡ drop n rest
drop_past [] rest n = ap (λ k. drop k rest) (let e : length (let e : List ℕ = [] in e) + n ≡ n = omega arith in e)
drop_past (x ∷ xs) rest n = ap (λ k. drop k (x ∷ xs ++ rest)) (let e : length (x ∷ xs) + n ≡ suc (length xs + n) = omega arith in e) ∙ drop_past xs rest n

take_seam : (front rest : List ℕ) → take (length front) (front ++ rest) ≡ front
take_seam front rest = grind (arith, common_steps)

-- the longest text of a text and more bytes
module _ (front more : List ℕ) (u : IsUtf8 front) where
  text_on : utf8_valid_len (front ++ more) ≡ length front + utf8_valid_len more
  text_on = valid_is (front ++ more) (length front + w) (let k = utf8_valid_len_le more in omega (arith, k, length-append front more))
      (subst IsUtf8 (sym (take_past front more w)) (IsUtf8-append front (take w more) u (front_valid more)))
      (λ m h k v. later m h k v)
    where
      w : ℕ
      w = utf8_valid_len more

      later : (m : ℕ) → length front + w < m → m ≤ length (front ++ more) → IsUtf8 (take m (front ++ more)) → ⊥
      later m h k v =
          let n = m - length front in
          let e : m ≡ length front + n = omega (arith, h) in
          let full = front ++ take n more in
          let whole : IsUtf8 full = subst IsUtf8 (ap (λ j. take j (front ++ more)) e ∙ take_past front more n) v in
          let seam = IsCharBoundary-from_take full (length front) whole (omega (arith, length-append front (take n more)))
          (subst IsUtf8 (sym (take_seam front (take n more))) u) in
          let tail = IsUtf8-drop full (length front) whole seam in
          front_longest more n (omega (arith, h, e)) (omega (arith, k, e, length-append front more))
          (subst IsUtf8 (behind_front front (take n more) (length front) refl) tail)

-- the text of bytes with a piece behind them
split : (bytes piece : List ℕ) → bytes ++ piece ≡ take (utf8_valid_len bytes) bytes ++ (drop (utf8_valid_len bytes) bytes ++ piece)
split bytes piece = ap (λ l. l ++ piece) (sym (take-append-drop (utf8_valid_len bytes) bytes))
    ∙ append_assoc (take (utf8_valid_len bytes) bytes) (drop (utf8_valid_len bytes) bytes) piece

valid_on : (bytes piece : List ℕ)
    → utf8_valid_len (bytes ++ piece) ≡ length (take (utf8_valid_len bytes) bytes) + utf8_valid_len (drop (utf8_valid_len bytes) bytes ++ piece)
valid_on bytes piece = ap utf8_valid_len (split bytes piece)
    ∙ text_on (take (utf8_valid_len bytes) bytes) (drop (utf8_valid_len bytes) bytes ++ piece) (front_valid bytes)

pub pending_on : (bytes piece : List ℕ) → drop (utf8_valid_len (bytes ++ piece)) (bytes ++ piece)
    ≡ drop (utf8_valid_len (drop (utf8_valid_len bytes) bytes ++ piece)) (drop (utf8_valid_len bytes) bytes ++ piece)
pending_on bytes piece =
    ap (λ n. drop n (bytes ++ piece)) (valid_on bytes piece)
    ∙ ap (drop (length (take (utf8_valid_len bytes) bytes) + utf8_valid_len (drop (utf8_valid_len bytes) bytes ++ piece))) (split bytes piece)
    ∙ drop_past (take (utf8_valid_len bytes) bytes) (drop (utf8_valid_len bytes) bytes ++ piece) (utf8_valid_len (drop (utf8_valid_len bytes) bytes ++ piece))

pub text_more : (bytes piece : List ℕ) → text_of (bytes ++ piece) ≡ text_of bytes ++ text_of (drop (utf8_valid_len bytes) bytes ++ piece)
text_more bytes piece =
    let front = take (utf8_valid_len bytes) bytes in
    let rest = drop (utf8_valid_len bytes) bytes ++ piece in
    ap chars (ap (λ n. take n (bytes ++ piece)) (valid_on bytes piece) ∙ ap (take (length front + utf8_valid_len rest)) (split bytes piece)
    ∙ take_past front rest (utf8_valid_len rest))
    ∙ chars-append front (take (utf8_valid_len rest) rest) (front_valid bytes)

pub by_begun : (t c : List ℕ) → without_mark (t ++ c) ≡ without_mark t ++ (if not (is_empty t) then c else without_mark c)
by_begun [] c = refl
by_begun (x ∷ xs) c = by_test (x == 65279)
  where
    by_test : (b : Bool) → (if b then xs ++ c else x ∷ xs ++ c) ≡ (if b then xs else x ∷ xs) ++ c
    by_test true = refl
    by_test false = refl

-- the content of bytes that go on
pub content_more : (bytes piece : List ℕ) → (more : List ℕ) × (content (bytes ++ piece) ≡ content bytes ++ more)
content_more bytes piece =
    let rest = text_of (drop (utf8_valid_len bytes) bytes ++ piece) in
    ((if not (is_empty (text_of bytes)) then rest else without_mark rest), ap without_mark (text_more bytes piece) ∙ by_begun (text_of bytes) rest)
