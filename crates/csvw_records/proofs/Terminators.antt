-- A terminator among the bytes of a text and among its characters.
use Rattle.std.proofs.Common.{◌≡◌, ◌∙◌, ℕ, zero, suc, ◌+◌, ◌<◌, Bool, true, false, ◌&&◌, List, [], ◌∷◌, ◌++◌, length, drop, get_or, refl, sym, ap, subst}
use Rattle.std.proofs.Common.{arith, chars, nat_eq, encode_utf8_all, ◌≤◌, ◌⊎◌, inl, inr}
use Rattle.std.specs.Prelude.{IsUtf8}
use Rattle.std.proofs.lemmas.Str.{IsUtf8-drop, IsUtf8-from_ascii, IsCharBoundary-after_ascii, chars-append, chars-IsAscii, encode_ascii, encodes-chars}
use Rattle.std.proofs.lemmas.Bool.{cases_lt}
use Rattle.csvw_records.specs.declared.dialect.Dialect.{Dialect}
use Rattle.csvw_records.specs.Grammar.{terminator_len}
use Rattle.csvw_records.proofs.Complete.{nothing_ends}
use Rattle.csvw_records.proofs.Lookahead.{and_three, is_char, one_end, lf_again, crlf_again}
use Rattle.csvw_records.specs.TerminatorLaws.{TermAt}

pub chars_ascii : (b : ℕ) (bs : List ℕ) → b < 128 → chars (b ∷ bs) ≡ b ∷ chars bs
chars_ascii b bs h = chars-append (b ∷ []) bs (IsUtf8-from_ascii (b ∷ []) low) ∙ ap (λ l. l ++ chars bs) (chars-IsAscii (b ∷ []) low)
  where
    low : (i : ℕ) → get_or (b ∷ []) i 0 < 128
    low zero = h
    low (suc i) = omega arith

one_term : (d : Dialect) (c : ℕ) (cs : List ℕ) → (d.line_terminators.lf ≡ true) × (nat_eq 10 c ≡ true) → TermAt d (c ∷ cs)
one_term d c cs (l, e) =
    let x : c ≡ 10 = is_char 10 c e in
    let P : ℕ → Type 0 = λ k. TermAt d (k ∷ cs) in
    subst P (sym x) (record {
      same = ap (terminator_len d) (chars_ascii 10 cs (omega arith)) ∙ lf_again d (chars cs) l ∙ sym (lf_again d cs l);
      behind = ap (λ n. chars (drop n (10 ∷ cs))) (lf_again d cs l) ∙ sym (ap (drop 1) (chars_ascii 10 cs (omega arith)))
          ∙ ap (λ n. drop n (chars (10 ∷ cs))) (sym (lf_again d cs l));
    })

two_term : (d : Dialect) (c e : ℕ) (cs : List ℕ) → (d.line_terminators.crlf && (nat_eq 13 c && (nat_eq 10 e && true))) ≡ true → TermAt d (c ∷ e ∷ cs)
two_term d c e cs k =
    let p = and_three d.line_terminators.crlf (nat_eq 13 c) (nat_eq 10 e) k in
    let spelled : chars (13 ∷ 10 ∷ cs) ≡ 13 ∷ 10 ∷ chars cs = chars_ascii 13 (10 ∷ cs) (omega arith) ∙ ap (λ l. 13 ∷ l) (chars_ascii 10 cs (omega arith)) in
    let both : c ∷ e ∷ cs ≡ 13 ∷ 10 ∷ cs = ap (λ x. x ∷ e ∷ cs) (is_char 13 c p.1) ∙ ap (λ x. 13 ∷ x ∷ cs) (is_char 10 e p.2) in
    subst (TermAt d) (sym both) (record {
      same = ap (terminator_len d) spelled ∙ crlf_again d (chars cs) p.0 ∙ sym (crlf_again d cs p.0);
      behind = ap (λ n. chars (drop n (13 ∷ 10 ∷ cs))) (crlf_again d cs p.0) ∙ sym (ap (drop 2) spelled)
          ∙ ap (λ n. drop n (chars (13 ∷ 10 ∷ cs))) (sym (crlf_again d cs p.0));
    })

pub term_chars : (d : Dialect) (r : List ℕ) → 0 < terminator_len d r → TermAt d r
term_chars d [] h = absurd (nothing_ends d h)
term_chars d (c ∷ []) h = one_term d c []
    (one_end d.line_terminators.crlf d.line_terminators.lf (nat_eq 13 c) (nat_eq 10 c) false false h (none d.line_terminators.crlf (nat_eq 13 c)))
  where
    none : (a b : Bool) → (a && (b && false)) ≡ false
    none a b = grind arith
term_chars d (c ∷ e ∷ cs) h = by_crlf (d.line_terminators.crlf && (nat_eq 13 c && (nat_eq 10 e && true))) refl
  where
    by_crlf : (b : Bool) → (d.line_terminators.crlf && (nat_eq 13 c && (nat_eq 10 e && true))) ≡ b → TermAt d (c ∷ e ∷ cs)
    by_crlf true k = two_term d c e cs k
    by_crlf false k = one_term d c (e ∷ cs) (one_end d.line_terminators.crlf d.line_terminators.lf (nat_eq 13 c) (nat_eq 10 c) (nat_eq 10 e && true) false h k)

-- text behind a terminator
text_behind : (r : List ℕ) (n b : ℕ) → IsUtf8 r → n < length r → get_or r n 0 ≡ b → b < 128 → (m : ℕ) → m ≡ n + 1 → IsUtf8 (drop m r)
text_behind r n b u h e low m same =
    let ascii : get_or r n 0 < 128 = omega (arith, e, low) in
    subst (λ (k : ℕ). IsUtf8 (drop k r)) (sym same) (IsUtf8-drop r (n + 1) u (IsCharBoundary-after_ascii r n u h ascii))

one_text : (d : Dialect) (c : ℕ) (cs : List ℕ) → (d.line_terminators.lf ≡ true) × (nat_eq 10 c ≡ true) → IsUtf8 (c ∷ cs)
    → IsUtf8 (drop (terminator_len d (c ∷ cs)) (c ∷ cs))
one_text d c cs (l, e) u =
    let x = is_char 10 c e in
    text_behind (c ∷ cs) 0 c u (omega arith) refl (omega (arith, x)) (terminator_len d (c ∷ cs)) (ap (λ k. terminator_len d (k ∷ cs)) x ∙ lf_again d cs l)

two_text : (d : Dialect) (c e : ℕ) (cs : List ℕ) → (d.line_terminators.crlf && (nat_eq 13 c && (nat_eq 10 e && true))) ≡ true → IsUtf8 (c ∷ e ∷ cs)
    → IsUtf8 (drop (terminator_len d (c ∷ e ∷ cs)) (c ∷ e ∷ cs))
two_text d c e cs k u =
    let p = and_three d.line_terminators.crlf (nat_eq 13 c) (nat_eq 10 e) k in
    let x = is_char 13 c p.1 in
    let y = is_char 10 e p.2 in
    text_behind (c ∷ e ∷ cs) 1 e u (omega arith) refl (omega (arith, y)) (terminator_len d (c ∷ e ∷ cs))
    (ap (λ k. terminator_len d (k ∷ e ∷ cs)) x ∙ ap (λ k. terminator_len d (13 ∷ k ∷ cs)) y ∙ crlf_again d cs p.0)

pub term_text : (d : Dialect) (r : List ℕ) → 0 < terminator_len d r → IsUtf8 r → IsUtf8 (drop (terminator_len d r) r)
term_text d [] h u = absurd (nothing_ends d h)
term_text d (c ∷ []) h u = one_text d c []
    (one_end d.line_terminators.crlf d.line_terminators.lf (nat_eq 13 c) (nat_eq 10 c) false false h (none d.line_terminators.crlf (nat_eq 13 c))) u
  where
    none : (a b : Bool) → (a && (b && false)) ≡ false
    none a b = grind arith
term_text d (c ∷ e ∷ cs) h u = by_crlf (d.line_terminators.crlf && (nat_eq 13 c && (nat_eq 10 e && true))) refl
  where
    by_crlf : (b : Bool) → (d.line_terminators.crlf && (nat_eq 13 c && (nat_eq 10 e && true))) ≡ b → IsUtf8 (drop (terminator_len d (c ∷ e ∷ cs)) (c ∷ e ∷ cs))
    by_crlf true k = two_text d c e cs k u
    by_crlf false k = one_text d c (e ∷ cs)
        (one_end d.line_terminators.crlf d.line_terminators.lf (nat_eq 13 c) (nat_eq 10 c) (nat_eq 10 e && true) false h k) u

-- a terminator among the characters is one among the bytes
enc_low : (b : ℕ) (cs : List ℕ) → b < 128 → encode_utf8_all (b ∷ cs) ≡ b ∷ encode_utf8_all cs
enc_low b cs h = ap (λ l. l ++ encode_utf8_all cs) (encode_ascii b h)

one_code : (d : Dialect) (c : ℕ) (cs : List ℕ) → (d.line_terminators.lf ≡ true) × (nat_eq 10 c ≡ true) → 0 < terminator_len d (encode_utf8_all (c ∷ cs))
one_code d c cs (l, e) =
    let P : ℕ → Type 0 = λ k. 0 < terminator_len d (encode_utf8_all (k ∷ cs)) in
    subst P (sym (is_char 10 c e)) (omega (arith, ap (terminator_len d) (enc_low 10 cs (omega arith)), lf_again d (encode_utf8_all cs) l))

two_codes : (d : Dialect) (c e : ℕ) (cs : List ℕ) → (d.line_terminators.crlf && (nat_eq 13 c && (nat_eq 10 e && true))) ≡ true
    → 0 < terminator_len d (encode_utf8_all (c ∷ e ∷ cs))
two_codes d c e cs k =
    let p = and_three d.line_terminators.crlf (nat_eq 13 c) (nat_eq 10 e) k in
    let spelled : encode_utf8_all (13 ∷ 10 ∷ cs) ≡ 13 ∷ 10 ∷ encode_utf8_all cs = enc_low 13 (10 ∷ cs) (omega arith)
    ∙ ap (λ l. 13 ∷ l) (enc_low 10 cs (omega arith)) in
    let both : c ∷ e ∷ cs ≡ 13 ∷ 10 ∷ cs = ap (λ x. x ∷ e ∷ cs) (is_char 13 c p.1) ∙ ap (λ x. 13 ∷ x ∷ cs) (is_char 10 e p.2) in
    let P : List ℕ → Type 0 = λ l. 0 < terminator_len d (encode_utf8_all l) in
    subst P (sym both) (omega (arith, ap (terminator_len d) spelled, crlf_again d (encode_utf8_all cs) p.0))

pub term_codes : (d : Dialect) (cs : List ℕ) → 0 < terminator_len d cs → 0 < terminator_len d (encode_utf8_all cs)
term_codes d [] h = absurd (nothing_ends d h)
term_codes d (c ∷ []) h = one_code d c []
    (one_end d.line_terminators.crlf d.line_terminators.lf (nat_eq 13 c) (nat_eq 10 c) false false h (none d.line_terminators.crlf (nat_eq 13 c)))
  where
    none : (a b : Bool) → (a && (b && false)) ≡ false
    none a b = grind arith
term_codes d (c ∷ e ∷ cs) h = by_crlf (d.line_terminators.crlf && (nat_eq 13 c && (nat_eq 10 e && true))) refl
  where
    by_crlf : (b : Bool) → (d.line_terminators.crlf && (nat_eq 13 c && (nat_eq 10 e && true))) ≡ b → 0 < terminator_len d (encode_utf8_all (c ∷ e ∷ cs))
    by_crlf true k = two_codes d c e cs k
    by_crlf false k = one_code d c (e ∷ cs) (one_end d.line_terminators.crlf d.line_terminators.lf (nat_eq 13 c) (nat_eq 10 c) (nat_eq 10 e && true) false h k)

pub term_same : (d : Dialect) (r : List ℕ) → IsUtf8 r → terminator_len d (chars r) ≡ terminator_len d r
term_same d r u = by_bytes (cases_lt 0 (terminator_len d r))
  where
    by_chars : terminator_len d r ≤ 0 → (0 < terminator_len d (chars r)) ⊎ (terminator_len d (chars r) ≤ 0) → terminator_len d (chars r) ≡ terminator_len d r
    by_chars z (inl h) = let k = term_codes d (chars r) h in absurd (omega (arith, z, k, ap (terminator_len d) (encodes-chars r u)))
    by_chars z (inr h) = omega (arith, z, h)

    by_bytes : (0 < terminator_len d r) ⊎ (terminator_len d r ≤ 0) → terminator_len d (chars r) ≡ terminator_len d r
    by_bytes (inl h) = (term_chars d r h).same
    by_bytes (inr z) = by_chars z (cases_lt 0 (terminator_len d (chars r)))
