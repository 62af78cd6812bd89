-- Bytes and characters at a symbol that is ASCII.
use Rattle.std.proofs.Common.{◌≡◌, ◌∙◌, ℕ, zero, suc, ◌+◌, ◌-◌, ◌<◌, Bool, true, false, ◌&&◌, ◌==◌, if◌then◌else◌, List, [], ◌∷◌, ◌++◌, length, take, drop}
use Rattle.std.proofs.Common.{get_or, refl, sym, ap, subst, arith, length-append, drop-cons, add-one, ◌⊎◌, inl, inr, chars}
use Rattle.std.specs.Prelude.{IsUtf8, encode_utf8_all}
use Rattle.std.proofs.lemmas.Bool.Decides.{nat_tests}
use Rattle.std.proofs.lemmas.List.{take-append-drop}
use Rattle.std.proofs.Math.Seq.{get_or-append_seam}
use Rattle.std.proofs.lemmas.Str.{IsUtf8-take, IsUtf8-drop, IsUtf8-from_ascii, IsCharBoundary-before_ascii, IsCharBoundary-after_ascii, chars-append}
use Rattle.std.proofs.lemmas.Str.{chars-IsAscii, encodes-chars, encodes-append, encode_ascii}
use Rattle.csvw_records.specs.declared.dialect.Dialect.{Dialect}
use Rattle.csvw_records.specs.NextRow.{unsettled}

pub chars_ascii : (b : ℕ) (bs : List ℕ) → b < 128 → chars (b ∷ bs) ≡ b ∷ chars bs
chars_ascii b bs h = chars-append (b ∷ []) bs (IsUtf8-from_ascii (b ∷ []) low) ∙ ap (λ l. l ++ chars bs) (chars-IsAscii (b ∷ []) low)
  where
    low : (i : ℕ) → get_or (b ∷ []) i 0 < 128
    low zero = h
    low (suc i) = omega arith

-- a text at an ASCII byte
pub record AsciiAt (r : List ℕ) (n b : ℕ) : Type 0 where
  pub front : IsUtf8 (take n r)
  pub at : IsUtf8 (drop n r)
  pub back : IsUtf8 (drop (n + 1) r)
  pub here : drop n r ≡ b ∷ drop (n + 1) r
  pub here_chars : chars (drop n r) ≡ b ∷ chars (drop (n + 1) r)
  pub spelled : chars r ≡ chars (take n r) ++ chars (drop n r)

pub split_chars : (r : List ℕ) (n : ℕ) → IsUtf8 (take n r) → chars r ≡ chars (take n r) ++ chars (drop n r)
split_chars r n u = ap chars (sym (take-append-drop n r)) ∙ chars-append (take n r) (drop n r) u

pub ascii_at : (r : List ℕ) (n b : ℕ) → IsUtf8 r → n < length r → get_or r n 0 ≡ b → b < 128 → AsciiAt r n b
ascii_at r n b u h e a =
    let low : get_or r n 0 < 128 = omega (arith, e, a) in
    let front = IsUtf8-take r n u (IsCharBoundary-before_ascii r n h low) in
    let step : drop n r ≡ b ∷ drop (n + 1) r = drop-cons r n 0 h ∙ ap (λ x. x ∷ drop (suc n) r) e ∙ ap (λ k. b ∷ drop k r) (sym (add-one n)) in
    record {
      front = front;
      at = IsUtf8-drop r n u (IsCharBoundary-before_ascii r n h low);
      back = IsUtf8-drop r (n + 1) u (IsCharBoundary-after_ascii r n u h low);
      here = step;
      here_chars = ap chars step ∙ chars_ascii b (drop (n + 1) r) a;
      spelled = split_chars r n front;
    }

-- a test that only ASCII characters pass, and that no byte passes
abbrev pub Fails : (ℕ → Bool) → List ℕ → Type 0
Fails p [] = Unit {0}
Fails p (c ∷ cs) = (p c ≡ false) × Fails p cs

pub fails_right : (p : ℕ → Bool) (xs ys : List ℕ) → Fails p (xs ++ ys) → Fails p ys
fails_right p [] ys a = a
fails_right p (x ∷ xs) ys a = fails_right p xs ys a.1

pub fails_at : (p : ℕ → Bool) (xs : List ℕ) → ((i : ℕ) → i < length xs → p (get_or xs i 0) ≡ false) → Fails p xs
fails_at p [] h = tt
fails_at p (x ∷ xs) h = (h 0 (omega arith), fails_at p xs (λ i k. h (suc i) (omega (arith, k))))

chars_fail : (p : ℕ → Bool) → ((c : ℕ) → p c ≡ true → c < 128) → (cs : List ℕ) → Fails p (encode_utf8_all cs) → Fails p cs
chars_fail p low [] a = tt
chars_fail p low (c ∷ cs) a = (by_test (p c) refl, chars_fail p low cs (fails_right p _ (encode_utf8_all cs) a))
  where
    by_test : (t : Bool) → p c ≡ t → p c ≡ false
    by_test false e = e
    by_test true e =
        let P : List ℕ → Type 0 = λ l. Fails p (l ++ encode_utf8_all cs) in
        (subst P (encode_ascii c (low c e)) a).0

pub none_pass : (p : ℕ → Bool) → ((c : ℕ) → p c ≡ true → c < 128) → (bs : List ℕ) → IsUtf8 bs → Fails p bs → Fails p (chars bs)
none_pass p low bs u a = chars_fail p low (chars bs) (subst (Fails p) (sym (encodes-chars bs u)) a)

-- no CR that may begin a terminator stands at the end
last_cr : (d : Dialect) (cs : List ℕ) → (unsettled d cs ≡ []) ⊎ ((d.line_terminators.crlf ≡ true) × ((front : List ℕ) × (cs ≡ front ++ 13 ∷ [])))
last_cr d [] = inl refl
last_cr d (c ∷ []) = by_test (d.line_terminators.crlf && (c == 13)) refl
  where
    split : (a b : Bool) → (a && b) ≡ true → (a ≡ true) × (b ≡ true)
    split a b e = (grind arith, grind arith)

    by_test : (b : Bool) → (d.line_terminators.crlf && (c == 13)) ≡ b
        → ((if b then c ∷ [] else []) ≡ []) ⊎ ((d.line_terminators.crlf ≡ true) × ((front : List ℕ) × (c ∷ [] ≡ front ++ 13 ∷ [])))
    by_test false e = inl refl
    by_test true e =
        let p = split d.line_terminators.crlf (c == 13) e in
        let x : c ≡ 13 = (let t = p.1 in grind (arith, nat_tests)) in
        inr (p.0, ([], ap (λ k. k ∷ []) x))
last_cr d (c ∷ e ∷ cs) = elim (last_cr d (e ∷ cs)) [
  | inl h ↦ inl h
  | inr (crlf, (front, split)) ↦ inr (crlf, (c ∷ front, ap (λ l. c ∷ l) split))
]

last_byte : (xs : List ℕ) (n : ℕ) (l : List ℕ) → l ≡ xs ++ 13 ∷ [] → length l ≡ n → (0 < n) × (get_or l (n - 1) 0 ≡ 13)
last_byte xs n l e h =
    let k : n - 1 ≡ length xs = omega (arith, h, ap length e, length-append xs (13 ∷ [])) in
    (omega (arith, h, ap length e, length-append xs (13 ∷ [])), ap (λ i. get_or l i 0) k ∙ ap (λ y. get_or y (length xs) 0) e ∙ get_or-append_seam xs 13 [] 0)

pub no_cr : (d : Dialect) (l : List ℕ) → IsUtf8 l → (d.line_terminators.crlf ≡ true → 0 < length l → get_or l (length l - 1) 0 ≡ 13 → ⊥)
    → unsettled d (chars l) ≡ []
no_cr d l u none = elim (last_cr d (chars l)) [
  | inl h ↦ h
  | inr (crlf, (front, split)) ↦
      let spelled : l ≡ encode_utf8_all front ++ 13 ∷ [] = sym (encodes-chars l u) ∙ ap encode_utf8_all split ∙ encodes-append front (13 ∷ [])
      ∙ ap (λ l. encode_utf8_all front ++ (l ++ [])) (encode_ascii 13 (omega arith)) in
      let b = last_byte (encode_utf8_all front) (length l) l spelled refl in
      absurd (none crlf b.0 b.1)
]
