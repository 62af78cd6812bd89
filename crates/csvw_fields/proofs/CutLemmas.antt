-- Fields that are cut out of the bytes are fields of the grammar.
use Rattle.std.proofs.Common.{◌≡◌, ◌≢◌, ◌∙◌, ℕ, ◌+◌, ◌-◌, ◌<◌, ◌≤◌, Bool, true, false, ◌&&◌, ◌||◌, ◌==◌, if◌then◌else◌, List, [], ◌∷◌, ◌++◌, length}
use Rattle.std.proofs.Common.{take, drop, get_or, refl, sym, ap, subst, arith, append_assoc, length-take, length-drop, ◌⊎◌, inl, inr, chars, nat_eq}
use Rattle.std.proofs.Common.{Some, None, Option}
use Rattle.std.specs.Prelude.{IsUtf8, encode_utf8_all, slice_range, slice_index, IfSome}
use Rattle.std.specs.Str.{is_utf8}
use Rattle.std.proofs.lemmas.Grind.{common_steps}
use Rattle.std.proofs.lemmas.Bool.Decides.{nat_tests}
use Rattle.std.proofs.lemmas.List.{get_or-take, drop-drop}
use Rattle.std.proofs.lemmas.Str.{IsUtf8-from_is_utf8, is_utf8-from_IsUtf8, encodes-chars}
use Rattle.memchr.specs.Find.{is_byte3, is_byte}
use Rattle.csvw_records.specs.declared.dialect.Dialect.{Dialect}
use Rattle.csvw_fields.specs.declared.bound.Bound.{Bound}
use Rattle.csvw_fields.specs.declared.cut.Cut.{Cut}
use Rattle.csvw_fields.specs.declared.cut.Symbols.{Symbols}
use Rattle.csvw_fields.specs.Bounds.{bytes_at, is_bound, lent_bound}
use Rattle.csvw_fields.specs.Cuts.{IsSymbols, IsBehind, IsCut, NoneBefore}
use Rattle.csvw_records.specs.Grammar.{terminator_len, IsPlain, AreUnits, escape_char}
use Rattle.csvw_records.specs.Lawful.{IsLawful}
use Rattle.csvw_records.specs.NextRow.{unsettled}
use Rattle.csvw_fields.proofs.Tests.{crlf_again, lf_again}
use Rattle.csvw_fields.proofs.BoundLemmas.{lent_is}
use Rattle.csvw_fields.proofs.Ascii.{Fails, fails_at, AsciiAt, ascii_at, none_pass, no_cr}

-- the tests
or_three : (a b c : Bool) → (a || b || c) ≡ false → (a ≡ false) × (b ≡ false) × (c ≡ false)
or_three a b c e = (grind arith, grind arith, grind arith)

pub or_cases : (a b c : Bool) → (a || b || c) ≡ true → (a ≡ true) ⊎ ((b ≡ true) ⊎ (c ≡ true))
or_cases true b c e = inl refl
or_cases false true c e = inr (inl refl)
or_cases false false true e = inr (inr refl)
or_cases false false false e = absurd cc

pub same_of : (a b : ℕ) → (a == b) ≡ true → a ≡ b
same_of a b e = grind (arith, nat_tests)

other_of : (a b : ℕ) → (a == b) ≡ false → a ≢ b
other_of a b e h = grind (arith, nat_tests)

symbols_low : (d : Dialect) (s : Symbols) → IsSymbols d s → (c : ℕ) → is_byte3 s.delimiter s.quote 10 c ≡ true → c < 128
symbols_low d s y c e = elim (or_cases (c == s.delimiter) (c == s.quote) (c == 10) e) [
  | inl h ↦ let k = y.ascii in omega (arith, k, same_of c s.delimiter h)
  | inr (inl h) ↦ let k = y.quote_ascii in omega (arith, k, same_of c s.quote h)
  | inr (inr h) ↦ omega (arith, same_of c 10 h)
]

-- no terminator begins at a character
term_tests : (crlf lf a b x : Bool) → (crlf && (a && (x && true))) ≡ false → b ≡ false
    → ◌≡◌ {A = ℕ} (if crlf && (a && (x && true)) then 2 else (if lf && (b && true) then 1 else 0)) 0
term_tests crlf lf a b x e f = grind arith

flip_false : (a b : ℕ) → a ≢ b → nat_eq b a ≡ false
flip_false a b n = grind (arith, nat_tests)

pub no_term : (d : Dialect) (c x : ℕ) (rest : List ℕ) → c ≢ 10 → (x ≢ 10) ⊎ ((d.line_terminators.crlf && (c == 13)) ≡ false)
    → terminator_len d (c ∷ x ∷ rest) ≡ 0
no_term d c x rest n why = term_tests d.line_terminators.crlf d.line_terminators.lf (nat_eq 13 c) (nat_eq 10 c) (nat_eq 10 x) (by_why why) (flip_false c 10 n)
  where
    last_false : (crlf a : Bool) → (crlf && (a && (false && true))) ≡ false
    last_false crlf a = grind arith

    first_false : (crlf a x : Bool) → (crlf && a) ≡ false → (crlf && (a && (x && true))) ≡ false
    first_false crlf a x e = grind arith

    turned : (c == 13) ≡ nat_eq 13 c
    turned = grind (arith, nat_tests)

    by_why : (x ≢ 10) ⊎ ((d.line_terminators.crlf && (c == 13)) ≡ false) → (d.line_terminators.crlf && (nat_eq 13 c && (nat_eq 10 x && true))) ≡ false
    by_why (inl m) = ap (λ b. d.line_terminators.crlf && (nat_eq 13 c && (b && true))) (flip_false x 10 m) ∙ last_false d.line_terminators.crlf (nat_eq 13 c)
    by_why (inr e) = first_false d.line_terminators.crlf (nat_eq 13 c) (nat_eq 10 x) (ap (λ b. d.line_terminators.crlf && b) (sym turned) ∙ e)

no_quote_char : (d : Dialect) (s : Symbols) (c : ℕ) → IsSymbols d s → c ≢ s.quote → Some c ≢ d.quote_char
no_quote_char d s c y n e = by_quoted s.quoted (e ∙ y.quote)
  where
    by_quoted : (b : Bool) → Some c ≡ (if b then Some s.quote else None) → ⊥
    by_quoted true h = n (let z : c ≡ s.quote = grind arith in z)
    by_quoted false h = absurd cc

pub unsettled_last : (d : Dialect) (c : ℕ) → unsettled d (c ∷ []) ≡ [] → (d.line_terminators.crlf && (c == 13)) ≡ false
unsettled_last d c e = by_test (d.line_terminators.crlf && (c == 13)) e
  where
    by_test : (b : Bool) → (if b then c ∷ [] else []) ≡ [] → b ≡ false
    by_test false h = refl
    by_test true h = absurd cc

-- characters that are no symbols are plain
pub plain_of : (d : Dialect) (s : Symbols) (cs : List ℕ) (x : ℕ) (rest : List ℕ) → IsSymbols d s → Fails (is_byte3 s.delimiter s.quote 10) cs
    → (x ≢ 10) ⊎ (unsettled d cs ≡ []) → IsPlain d cs (x ∷ rest)
plain_of d s [] x rest y a why = tt
plain_of d s (c ∷ []) x rest y a why =
    let t = or_three (c == s.delimiter) (c == s.quote) (c == 10) a.0 in (
      (λ e. other_of c s.delimiter t.0 (e ∙ y.delimiter)),
      no_quote_char d s c y (other_of c s.quote t.1),
      no_term d c x rest (other_of c 10 t.2) (elim why [ inl m ↦ inl m | inr e ↦ inr (unsettled_last d c e) ]),
      tt,
    )
plain_of d s (c ∷ e ∷ cs) x rest y a why =
    let t = or_three (c == s.delimiter) (c == s.quote) (c == 10) a.0 in
    let behind = a.1 in
    let u = or_three (e == s.delimiter) (e == s.quote) (e == 10) behind.0 in (
      (λ h. other_of c s.delimiter t.0 (h ∙ y.delimiter)),
      no_quote_char d s c y (other_of c s.quote t.1),
      no_term d c e (cs ++ x ∷ rest) (other_of c 10 t.2) (inl (other_of e 10 u.2)),
      plain_of d s (e ∷ cs) x rest y a.1 why,
    )

-- the characters before the first symbol
pub none_before : (d : Dialect) (s : Symbols) (r : List ℕ) (at n : ℕ) → IsSymbols d s → IsUtf8 (take n r) → n ≤ at → NoneBefore s r at
    → Fails (is_byte3 s.delimiter s.quote 10) (chars (take n r))
none_before d s r at n y u h none =
    none_pass (is_byte3 s.delimiter s.quote 10) (symbols_low d s y) (take n r) u
    (fails_at (is_byte3 s.delimiter s.quote 10) (take n r) (λ i k. let l : i < n = omega (arith, k, length-take n r) in
    ap (is_byte3 s.delimiter s.quote 10) (get_or-take n r i 0 l) ∙ none i (omega (arith, l, h))))

range_from_zero : (r : List ℕ) (n : ℕ) → slice_range r 0 n ≡ take n r
range_from_zero r n = grind (arith, common_steps)

-- what comes behind a field
behind_here : (d : Dialect) (s : Symbols) (r : List ℕ) (bound : Bound) (at : ℕ) (cut : Cut) → IsUtf8 r → IsSymbols d s → IsUtf8 (drop at r)
    → at ≤ length r → IsBehind d s r bound at cut
    → (cut.next ≤ length r) × (at ≤ cut.next) × (is_utf8 (drop cut.next r) ≡ true)
    × (cut.ends ≡ false → (0 < cut.next) × (chars (drop at r) ≡ d.delimiter ∷ chars (drop cut.next r)))
    × (cut.ends ≡ true → (0 < terminator_len d (drop cut.next r)) × (chars (drop at r) ≡ chars (drop cut.next r)))
behind_here d s r bound at cut u y ua within b = by_ends cut.ends refl
  where
    by_ends : (e : Bool) → cut.ends ≡ e → (cut.next ≤ length r) × (at ≤ cut.next) × (is_utf8 (drop cut.next r) ≡ true)
        × (cut.ends ≡ false → (0 < cut.next) × (chars (drop at r) ≡ d.delimiter ∷ chars (drop cut.next r)))
        × (cut.ends ≡ true → (0 < terminator_len d (drop cut.next r)) × (chars (drop at r) ≡ chars (drop cut.next r)))
    by_ends true e =
        let h = b.ends e in
        let n = h.0 in (
          omega (arith, n, within),
          omega (arith, n),
          is_utf8-from_IsUtf8 (drop cut.next r) (subst (λ (k : ℕ). IsUtf8 (drop k r)) (sym n) ua),
          (λ f. absurd (let z = sym e ∙ f in cc)),
          (λ f. (subst (λ (k : ℕ). 0 < terminator_len d (drop k r)) (sym n) h.1, ap (λ k. chars (drop k r)) (sym n))),
        )
    by_ends false e =
        let h = b.goes_on e in
        let n = h.0 in
        let a = ascii_at r at s.delimiter u h.1 h.2 y.ascii in (
          (let k = h.1 in omega (arith, n, k)),
          omega (arith, n),
          is_utf8-from_IsUtf8 (drop cut.next r) (subst (λ (k : ℕ). IsUtf8 (drop k r)) (sym n) a.back),
          (λ f. (omega (arith, n), a.here_chars ∙ ap (λ x. x ∷ chars (drop (at + 1) r)) (sym y.delimiter) ∙ ap (λ k. d.delimiter ∷ chars (drop k r)) (sym n))),
          (λ f. absurd (let z = sym e ∙ f in cc)),
        )

-- a field without quotes
pub plain_cut : (d : Dialect) (s : Symbols) (r spare : List ℕ) (at : ℕ) (cut : Cut) → IsLawful d → IsSymbols d s → is_utf8 r ≡ true → at < length r
    → (slice_index r at ≡ 10) ⊎ (slice_index r at ≡ s.delimiter) → NoneBefore s r at
    → (d.line_terminators.crlf ≡ true → 0 < at → slice_index r at ≡ 10 → slice_index r (at - 1) ≡ 13 → ⊥) → IsBehind d s r (lent_bound 0 at) at cut
    → IsCut d r spare cut
plain_cut d s r spare at cut w y ur within stands none no_crlf b = by_stands stands
  where
    u : IsUtf8 r
    u = IsUtf8-from_is_utf8 r ur

    with_symbol : (x : ℕ) → slice_index r at ≡ x → x < 128 → (x ≢ 10) ⊎ (x ≡ 10) → IsCut d r spare cut
    with_symbol x e low which =
        let a = ascii_at r at x u within e low in
        let h = behind_here d s r (lent_bound 0 at) at cut u y a.at (omega (arith, within)) b in
        let cs = chars (take at r) in
        let len : length (take at r) ≡ at = grind (arith, common_steps) in
        let why : (x ≢ 10) ⊎ (unsettled d cs ≡ []) = elim which [
          | inl n ↦ inl n
          | inr t ↦ inr (no_cr d (take at r) a.front (λ crlf some cr. (let k : 0 < at = omega (arith, some, len) in
              no_crlf crlf k (e ∙ t) (sym (get_or-take at r (at - 1) 0 (omega (arith, k))) ∙ ap (λ n. get_or (take at r) (n - 1) 0) (sym len) ∙ cr))))
        ] in
        let plain = plain_of d s cs x (chars (drop (at + 1) r)) y (none_before d s r at at y a.front (omega arith) none) why in
        let text = range_from_zero r at in
        record {
          source = cs;
          value = cs;
          after = chars (drop at r);
          spelled = a.spelled;
          field = inl (subst (IsPlain d cs) (sym a.here_chars) plain, refl);
          text = encodes-chars (take at r) a.front ∙ sym (ap (bytes_at r spare) b.bound_is ∙ text);
          bounded = ap (is_bound r spare) b.bound_is
              ∙ lent_is r spare 0 at (omega arith) (omega (arith, within)) (ap is_utf8 text ∙ is_utf8-from_IsUtf8 (take at r) a.front);
          inside = h.0;
          rest_text = h.2;
          goes_on = h.3;
          ends = h.4;
        }

    by_stands : (slice_index r at ≡ 10) ⊎ (slice_index r at ≡ s.delimiter) → IsCut d r spare cut
    by_stands (inl e) = with_symbol 10 e (omega arith) (inr refl)
    by_stands (inr e) = with_symbol s.delimiter e y.ascii (inl (λ h. w.delimiter_lf (y.delimiter ∙ h)))

-- before a delimiter
pub inner_cut : (d : Dialect) (s : Symbols) (r spare : List ℕ) (at : ℕ) (cut : Cut) → IsLawful d → IsSymbols d s → is_utf8 r ≡ true → at < length r
    → NoneBefore s r at → slice_index r at ≡ s.delimiter → cut.bound ≡ lent_bound 0 at → cut.next ≡ at + 1 → cut.ends ≡ false → IsCut d r spare cut
inner_cut d s r spare at cut w y ur within none stands bound next ends =
    plain_cut d s r spare at cut w y ur within (inr stands) none (λ crlf some lf cr. w.delimiter_lf (y.delimiter ∙ sym stands ∙ lf))
    (record { bound_is = bound; ends = λ f. absurd (let z = sym ends ∙ f in cc); goes_on = λ f. (next, within, stands) })

-- before LF
pub lf_cut : (d : Dialect) (s : Symbols) (r spare : List ℕ) (at : ℕ) (cut : Cut) → IsLawful d → IsSymbols d s → is_utf8 r ≡ true → at < length r
    → NoneBefore s r at → slice_index r at ≡ 10 → (d.line_terminators.crlf ≡ true → 0 < at → slice_index r (at - 1) ≡ 13 → ⊥) → d.line_terminators.lf ≡ true
    → cut.bound ≡ lent_bound 0 at → cut.next ≡ at → cut.ends ≡ true → IsCut d r spare cut
lf_cut d s r spare at cut w y ur within none stands no_cr lf bound next ends =
    let a = ascii_at r at 10 (IsUtf8-from_is_utf8 r ur) within stands (omega arith) in
    let term : terminator_len d (drop at r) ≡ 1 = ap (terminator_len d) a.here ∙ lf_again d (drop (at + 1) r) lf in
    plain_cut d s r spare at cut w y ur within (inl stands) none (λ crlf some h cr. no_cr crlf some cr)
    (record { bound_is = bound; ends = λ f. (next, omega (arith, term)); goes_on = λ f. absurd (let z = sym ends ∙ f in cc) })

-- a field without quotes, before CR LF
pub crlf_cut : (d : Dialect) (s : Symbols) (r spare : List ℕ) (at : ℕ) (cut : Cut) → IsLawful d → IsSymbols d s → is_utf8 r ≡ true → at < length r
    → NoneBefore s r at → d.line_terminators.crlf ≡ true → 0 < at → slice_index r at ≡ 10 → slice_index r (at - 1) ≡ 13
    → cut.bound ≡ lent_bound 0 (at - 1) → cut.next ≡ at - 1 → cut.ends ≡ true → IsCut d r spare cut
crlf_cut d s r spare at cut w y ur within none crlf some lf cr bound next ends =
    let u = IsUtf8-from_is_utf8 r ur in
    let n = at - 1 in
    let a = ascii_at r n 13 u (omega (arith, within)) cr (omega arith) in
    let here : n + 1 ≡ at = omega (arith, some) in
    let b = ascii_at r at 10 u within lf (omega arith) in
    let two : drop n r ≡ 13 ∷ 10 ∷ drop (at + 1) r = a.here ∙ ap (λ k. 13 ∷ drop k r) here ∙ ap (λ l. 13 ∷ l) b.here in
    let cs = chars (take n r) in
    let plain = plain_of d s cs 13 (chars (drop (n + 1) r)) y (none_before d s r at n y a.front (omega arith) none) (inl (λ h. omega (arith, h))) in
    let text = range_from_zero r n in
    let term : terminator_len d (drop cut.next r) ≡ 2 = ap (λ k. terminator_len d (drop k r)) next ∙ ap (terminator_len d) two
    ∙ crlf_again d (drop (at + 1) r) crlf in
    record {
      source = cs;
      value = cs;
      after = chars (drop n r);
      spelled = a.spelled;
      field = inl (subst (IsPlain d cs) (sym a.here_chars) plain, refl);
      text = encodes-chars (take n r) a.front ∙ sym (ap (bytes_at r spare) bound ∙ text);
      bounded = ap (is_bound r spare) bound
          ∙ lent_is r spare 0 n (omega arith) (omega (arith, within)) (ap is_utf8 text ∙ is_utf8-from_IsUtf8 (take n r) a.front);
      inside = omega (arith, next, within);
      rest_text = ap (λ k. is_utf8 (drop k r)) next ∙ is_utf8-from_IsUtf8 (drop n r) a.at;
      goes_on = λ f. absurd (let z = sym ends ∙ f in cc);
      ends = λ f. (omega (arith, term), ap (λ k. chars (drop k r)) (sym next));
    }

-- characters in quotes that are no quotes
pub units_of : (d : Dialect) (q : ℕ) (cs : List ℕ) → d.double_quote ≡ true → Fails (is_byte q) cs → AreUnits d q cs cs
units_of d q [] e a = refl
units_of d q (c ∷ cs) e a =
    let n : c ≢ q = other_of c q a.0 in
    let m : c ≢ escape_char d q = λ h. n (h ∙ ap (λ (b : Bool). if b then q else 92) e) in
    (c ∷ [], cs, inl (refl, n, m), refl, units_of d q cs e a.1)

pub byte_low : (q : ℕ) → q < 128 → (c : ℕ) → is_byte q c ≡ true → c < 128
byte_low q h c e = omega (arith, h, same_of c q e)

range_from_one : (r : List ℕ) (m : ℕ) → slice_range r 1 (m + 1) ≡ take m (drop 1 r)
range_from_one r m = ap (λ k. take k (drop 1 r)) (let e : m + 1 - 1 ≡ m = omega arith in e)

-- a field in quotes, the closing one so far behind the opening one
module _ (d : Dialect) (s : Symbols) (r spare : List ℕ) (m : ℕ) (cut : Cut) (y : IsSymbols d s) (ur : is_utf8 r ≡ true) (some : 0 < length r)
    (quoted : s.quoted ≡ true) (opens : slice_index r 0 ≡ s.quote)
    (within : m < length (drop 1 r)) (closes : slice_index (drop 1 r) m ≡ s.quote) where
  opened : AsciiAt r 0 s.quote
  opened = ascii_at r 0 s.quote (IsUtf8-from_is_utf8 r ur) some opens y.quote_ascii

  closed : AsciiAt (drop 1 r) m s.quote
  closed = ascii_at (drop 1 r) m s.quote opened.back within closes y.quote_ascii

  far : m + 1 < length r
  far = omega (arith, within, length-drop 1 r)

  pub quoted_is : (bound : Bound) (value : List ℕ) → AreUnits d s.quote (chars (take m (drop 1 r))) value
      → encode_utf8_all value ≡ bytes_at r spare bound → is_bound r spare bound ≡ true
      → IsBehind d s r bound (m + 2) cut → IsCut d r spare cut
  quoted_is bound value units text bounded b =
      let u = IsUtf8-from_is_utf8 r ur in
      let q = s.quote in
      let inside = drop 1 r in
      let cs = chars (take m inside) in
      let same : drop (m + 1) inside ≡ drop (m + 2) r = drop-drop (m + 1) 1 r ∙ ap (λ n. drop n r) (let z : 1 + (m + 1) ≡ m + 2 = omega arith in z) in
      let k = far in
      let h = behind_here d s r bound (m + 2) cut u y (subst IsUtf8 same closed.back) (omega (arith, k)) b in
      let whole : chars r ≡ q ∷ cs ++ q ∷ [] ++ chars (drop (m + 2) r) =
      opened.here_chars ∙ ap (λ l. q ∷ l) (closed.spelled ∙ ap (λ l. cs ++ l) (closed.here_chars ∙ ap (λ l. q ∷ chars l) same))
      ∙ sym (append_assoc (q ∷ cs) (q ∷ []) (chars (drop (m + 2) r))) in
      let is_quote : d.quote_char ≡ Some q = y.quote ∙ ap (λ (b : Bool). if b then Some q else None) quoted in
      record {
        source = q ∷ cs ++ q ∷ [];
        value = value;
        after = chars (drop (m + 2) r);
        spelled = whole;
        field = inr (q ∷ cs, record { spaces = []; quote = q; inside = cs; is_quote = is_quote; skipped = tt; units = units; spelled = refl }, refl);
        text = text ∙ sym (ap (bytes_at r spare) b.bound_is);
        bounded = ap (is_bound r spare) b.bound_is ∙ bounded;
        inside = h.0;
        rest_text = h.2;
        goes_on = h.3;
        ends = h.4;
      }

  -- no quote stands inside
  pub quoted_cut : ((k : ℕ) → k < m → is_byte s.quote (slice_index (drop 1 r) k) ≡ false) → IsBehind d s r (lent_bound 1 (m + 1)) (m + 2) cut
      → IsCut d r spare cut
  quoted_cut none b =
      let inside = drop 1 r in
      let q = s.quote in
      let k = far in
      let units = units_of d q (chars (take m inside)) y.double (none_pass (is_byte q) (byte_low q y.quote_ascii) (take m inside) closed.front
      (fails_at (is_byte q) (take m inside)
      (λ i k. let l : i < m = omega (arith, k, length-take m inside) in ap (is_byte q) (get_or-take m inside i 0 l) ∙ none i l))) in
      let text = range_from_one r m in
      quoted_is (lent_bound 1 (m + 1)) (chars (take m inside)) units (encodes-chars (take m inside) closed.front ∙ sym text)
      (lent_is r spare 1 (m + 1) (omega arith) (omega (arith, k)) (ap is_utf8 text ∙ is_utf8-from_IsUtf8 (take m inside) closed.front)) b

pub some_gives : {X : Type 0} (P Q : X → Type 0) (r : Option X) → ((x : X) → P x → Q x) → IfSome r P → IfSome r Q
some_gives P Q None f h = tt
some_gives P Q (Some x) f h = f x h

pub not_true : (b : Bool) → (b ≡ true → ⊥) → b ≡ false
not_true true n = absurd (n refl)
not_true false n = refl
