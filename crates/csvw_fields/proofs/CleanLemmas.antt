-- Text without a symbol, as none of its bytes begins one.
use Rattle.std.proofs.Common.{◌≡◌, ◌≢◌, ◌∙◌, ℕ, ◌-◌, ◌<◌, ◌≤◌, Bool, true, false, ◌&&◌, ◌==◌, not, if◌then◌else◌, List, [], ◌∷◌, ◌++◌, length, take}
use Rattle.std.proofs.Common.{drop, zero, suc, get_or, Option, Some, None, refl, sym, ap, subst, arith, append_assoc, append-nil, length-take, ◌⊎◌, inl, inr}
use Rattle.std.proofs.Common.{chars, nat_eq}
use Rattle.std.specs.Prelude.{IsUtf8, encode_utf8, encode_utf8_all, slice_index, unwrap_or}
use Rattle.std.proofs.lemmas.Bool.Decides.{nat_tests}
use Rattle.std.proofs.lemmas.Bool.{cases_lt}
use Rattle.std.proofs.lemmas.List.{get_or-take}
use Rattle.std.proofs.lemmas.Str.{encodes-chars, encode_ascii}
use Rattle.memchr.specs.Find.{is_byte2, is_byte3, IsFirstByte}
use Rattle.csvw_records.specs.declared.dialect.Dialect.{Dialect}
use Rattle.csvw_fields.specs.declared.leads.Leads.{Leads}
use Rattle.csvw_records.specs.declared.scan.State.{State}
use Rattle.csvw_records.specs.declared.scan.State.TheVariants.{Start, Plain, Inside, Escaped, Closed}
use Rattle.csvw_records.specs.declared.scan.Step.TheVariants.{Keep, Skip}
use Rattle.csvw_fields.specs.FieldText.{IsLeads, HasNoSymbol, HasNoEscape, IsApart, IsClean}
use Rattle.csvw_records.specs.Grammar.{terminator_len, IsPlain}
use Rattle.csvw_records.specs.NextRow.{unsettled}
use Rattle.csvw_records.specs.Scan.{Outcome, Found, Broken, Unfinished, quote_is, step_of, run, finish}
use Rattle.csvw_fields.proofs.Ascii.{Fails, fails_at, fails_right, ascii_at, no_cr}
use Rattle.csvw_fields.proofs.Tests.{is_char}
use Rattle.csvw_fields.proofs.CutLemmas.{not_true, no_term, unsettled_last}
use Rattle.csvw_fields.proofs.Tests.{differs}
use Rattle.csvw_records.specs.PassLaws.{ends_at, act_run}
use Rattle.csvw_records.specs.RecordLaws.{RecordLaws}

-- the bytes before the first place
pub first_free : (test : ℕ → Bool) (l : List ℕ) (o : Option ℕ) → IsFirstByte test l o
    → (unwrap_or o (length l) ≤ length l) × ((k : ℕ) → k < unwrap_or o (length l) → test (slice_index l k) ≡ false)
first_free test l None h = (omega arith, λ k m. not_true (test (slice_index l k)) (h k (omega arith) m))
first_free test l (Some n) h = ((let k = h.0.high in omega (arith, k)), λ k m. not_true (test (slice_index l k)) (h.0.before k (omega arith) m))

pub bytes_fail : (test : ℕ → Bool) (l : List ℕ) (n at : ℕ) → n ≤ at → at ≤ length l → ((k : ℕ) → k < at → test (slice_index l k) ≡ false)
    → Fails test (take n l)
bytes_fail test l n at h w free =
    fails_at test (take n l) (λ i k. let m : i < n = omega (arith, k, length-take n l) in ap test (get_or-take n l i 0 m) ∙ free i (omega (arith, m, h)))

-- a character whose first byte doesn't stand there
head_is : (l : List ℕ) (b : ℕ) → take 1 l ≡ b ∷ [] → (more : List ℕ) × (l ≡ b ∷ more)
head_is [] b e = absurd cc
head_is (x ∷ xs) b e = (xs, ap (λ y. y ∷ xs) (let same : x ≡ b = cc in same))

no_char : (test : ℕ → Bool) (s b c : ℕ) (rest : List ℕ) → take 1 (encode_utf8 s) ≡ b ∷ [] → test b ≡ true → Fails test (encode_utf8 c ++ rest) → c ≢ s
no_char test s b c rest e t f same =
    let h = head_is (encode_utf8 s) b e in
    let here : encode_utf8 c ++ rest ≡ b ∷ (h.0 ++ rest) = ap (λ k. encode_utf8 k ++ rest) same ∙ ap (λ l. l ++ rest) h.1 in
    let z : test b ≡ false = (subst (Fails test) here f).0 in
    let y = sym t ∙ z in cc

low_lead : (b : ℕ) → b < 128 → take 1 (encode_utf8 b) ≡ b ∷ []
low_lead b h = ap (take 1) (encode_ascii b h)

no_quote : (o : Option ℕ) (test : ℕ → Bool) (b c : ℕ) (rest : List ℕ) → ((q : ℕ) → o ≡ Some q → take 1 (encode_utf8 q) ≡ b ∷ []) → test b ≡ true
    → Fails test (encode_utf8 c ++ rest) → quote_is o c ≡ false
no_quote None test b c rest e t f = refl
no_quote (Some q) test b c rest e t f = differs c q (no_char test q b c rest (e q refl) t f)

test_first : (a b x : ℕ) → is_byte3 a b x a ≡ true
test_first a b x = grind (arith, nat_tests)

test_second : (a b x : ℕ) → is_byte3 a b x b ≡ true
test_second a b x = grind (arith, nat_tests)

test_third : (a b x : ℕ) → is_byte3 a b x x ≡ true
test_third a b x = grind (arith, nat_tests)

test_one : (a b : ℕ) → is_byte2 a b a ≡ true
test_one a b = grind (arith, nat_tests)

test_two : (a b : ℕ) → is_byte2 a b b ≡ true
test_two a b = grind (arith, nat_tests)

symbols_none : (d : Dialect) (l : Leads) (cs : List ℕ) → IsLeads d l → Fails (is_byte3 l.delimiter l.quote 10) (encode_utf8_all cs) → HasNoSymbol d cs
symbols_none d l [] y f = tt
symbols_none d l (c ∷ cs) y f =
    let test = is_byte3 l.delimiter l.quote 10 in (
      no_char test d.delimiter l.delimiter c (encode_utf8_all cs) y.delimiter (test_first l.delimiter l.quote 10) f,
      no_quote d.quote_char test l.quote c (encode_utf8_all cs) y.quote (test_second l.delimiter l.quote 10) f,
      no_char test 10 10 c (encode_utf8_all cs) (low_lead 10 (omega arith)) (test_third l.delimiter l.quote 10) f,
      symbols_none d l cs y (fails_right test (encode_utf8 c) (encode_utf8_all cs) f),
    )

escapes_none : (d : Dialect) (l : Leads) (cs : List ℕ) → IsLeads d l → Fails (is_byte2 l.quote l.escape) (encode_utf8_all cs) → HasNoEscape d cs
escapes_none d l [] y f = tt
escapes_none d l (c ∷ cs) y f =
    let test = is_byte2 l.quote l.escape in (
      no_quote d.quote_char test l.quote c (encode_utf8_all cs) y.quote (test_one l.quote l.escape) f,
      (λ e. no_char test 92 92 c (encode_utf8_all cs) (low_lead 92 (omega arith))
          (ap (is_byte2 l.quote l.escape) (sym (y.escape e)) ∙ test_two l.quote l.escape) f),
      escapes_none d l cs y (fails_right test (encode_utf8 c) (encode_utf8_all cs) f),
    )

-- no line feed stands where a CR does
behind_cr : (text : List ℕ) (n : ℕ) → IsUtf8 text → slice_index text n ≡ 13 → take 1 (chars (drop n text)) ≢ 10 ∷ []
behind_cr text n u e same =
    let a = ascii_at text n 13 u (within text n 13 e (omega arith)) e (omega arith) in
    let here : (let l : List ℕ = 13 ∷ [] in l) ≡ 10 ∷ [] = sym (ap (take 1) a.here_chars) ∙ same in cc
  where
    within : (l : List ℕ) (n b : ℕ) → slice_index l n ≡ b → 0 < b → n < length l
    within [] n b e h = absurd (omega (arith, e, h))
    within (x ∷ l) zero b e h = omega arith
    within (x ∷ l) (suc n) b e h = let k = within l n b e h in omega (arith, k)

-- what stands before the first place is clean
pub plain_clean : (d : Dialect) (l : Leads) (text : List ℕ) (o : Option ℕ) (n : ℕ) → IsLeads d l → IsUtf8 text → IsUtf8 (take n text)
    → IsFirstByte (is_byte3 l.delimiter l.quote 10) text o → n ≤ unwrap_or o (length text)
    → (0 < n → slice_index text (n - 1) ≡ 13 → slice_index text n ≡ 13) → IsClean d Plain (chars (take n text)) (chars (drop n text))
plain_clean d l text o n y whole u h w last =
    let f = first_free (is_byte3 l.delimiter l.quote 10) text o h in
    let fails = bytes_fail (is_byte3 l.delimiter l.quote 10) text n (unwrap_or o (length text)) w f.0 f.1 in
    let long : length (take n text) ≡ n = (let k = f.0 in omega (arith, w, k, length-take n text)) in (
      symbols_none d l (chars (take n text)) y (subst (Fails (is_byte3 l.delimiter l.quote 10)) (sym (encodes-chars (take n text) u)) fails),
      by_last long (cases_lt 0 n) (nat_eq 13 (slice_index text (n - 1))) refl,
    )
  where
    none_last : length (take n text) ≡ n → (0 < n → slice_index text (n - 1) ≡ 13 → ⊥) → IsApart d (chars (take n text)) (chars (drop n text))
    none_last long none = inl (no_cr d (take n text) u (λ crlf some e.
        let m : 0 < n = omega (arith, some, long) in
        none m (sym (get_or-take n text (n - 1) 0 (omega (arith, m))) ∙ ap (λ k. get_or (take n text) (k - 1) 0) (sym long) ∙ e)))

    by_last : length (take n text) ≡ n → (0 < n) ⊎ (n ≤ 0) → (b : Bool) → nat_eq 13 (slice_index text (n - 1)) ≡ b
        → IsApart d (chars (take n text)) (chars (drop n text))
    by_last long (inr z) b e = none_last long (λ m. absurd (omega (arith, m, z)))
    by_last long (inl m) false e = none_last long (λ k c. let z : nat_eq 13 (slice_index text (n - 1)) ≡ true = grind (arith, nat_tests) in
        let y = sym z ∙ e in cc)
    by_last long (inl m) true e = inr (behind_cr text n whole (last m (is_char 13 (slice_index text (n - 1)) e)))

pub inside_clean : (d : Dialect) (l : Leads) (text : List ℕ) (o : Option ℕ) (n : ℕ) → IsLeads d l → IsUtf8 (take n text)
    → IsFirstByte (is_byte2 l.quote l.escape) text o → n ≤ unwrap_or o (length text) → IsClean d Inside (chars (take n text)) (chars (drop n text))
inside_clean d l text o n y u h w =
    let f = first_free (is_byte2 l.quote l.escape) text o h in
    escapes_none d l (chars (take n text)) y (subst (Fails (is_byte2 l.quote l.escape)) (sym (encodes-chars (take n text) u))
    (bytes_fail (is_byte2 l.quote l.escape) text n (unwrap_or o (length text)) w f.0 f.1))

-- the pass goes on as it was
finish_open : (o : Outcome) → finish o false ≡ o
finish_open (Found values after) = refl
finish_open (Broken stop rest) = refl
finish_open (Unfinished Start vs cur) = refl
finish_open (Unfinished Plain vs cur) = refl
finish_open (Unfinished Inside vs cur) = refl
finish_open (Unfinished Escaped vs cur) = refl
finish_open (Unfinished Closed vs cur) = refl

quote_not : (o : Option ℕ) (c : ℕ) → quote_is o c ≡ false → Some c ≢ o
quote_not None c e f = absurd cc
quote_not (Some q) c e f = let same : c ≡ q = cc in let z : (c == q) ≡ true = grind (arith, nat_tests) in let y = sym z ∙ e in cc

pub alone : (d : Dialect) (c : ℕ) → c ≢ 10 → terminator_len d (c ∷ []) ≡ 0
alone d c n = tests d.line_terminators.crlf d.line_terminators.lf (nat_eq 13 c) (nat_eq 10 c) (let e : nat_eq 10 c ≡ false = grind (arith, nat_tests) in e)
  where
    tests : (crlf lf a b : Bool) → b ≡ false → ◌≡◌ {A = ℕ} (if crlf && (a && false) then 2 else (if lf && (b && true) then 1 else 0)) 0
    tests crlf lf a b e = grind arith

last_none : (d : Dialect) (c : ℕ) (after : List ℕ) → c ≢ 10 → IsApart d (c ∷ []) after → terminator_len d (c ∷ after) ≡ 0
last_none d c [] n u = alone d c n
last_none d c (x ∷ rest) n (inl u) = no_term d c x rest n (inr (unsettled_last d c u))
last_none d c (x ∷ rest) n (inr u) = no_term d c x rest n (inl (λ e. u (ap (λ k. k ∷ []) e)))

plain_chunk : (d : Dialect) (cs after : List ℕ) → HasNoSymbol d cs → IsApart d cs after → IsPlain d cs after
plain_chunk d [] after h u = tt
plain_chunk d (c ∷ []) after h u = (h.0, quote_not d.quote_char c h.1, last_none d c after h.2 u, tt)
plain_chunk d (c ∷ e ∷ cs) after (no_delimiter, no_quote, no_end, others) u =
    (no_delimiter, quote_not d.quote_char c no_quote, no_term d c e (cs ++ after) no_end (inl others.2), plain_chunk d (e ∷ cs) after others u)

inside_keeps : (d : Dialect) (c : ℕ) (ends : Bool) → quote_is d.quote_char c ≡ false → (d.double_quote ≡ false → c ≢ 92) → step_of d Inside c ends ≡ Keep Inside
inside_keeps d c ends q n = rw q (tests d.double_quote (c == 92) (λ e. differs c 92 (n e)))
  where
    tests : (double b : Bool) → (double ≡ false → b ≡ false) → (if not double && b then Skip Escaped else Keep Inside) ≡ Keep Inside
    tests true b h = refl
    tests false b h = rw (h refl) refl

inside_runs : (d : Dialect) (vs : List (List ℕ)) (cur cs after : List ℕ) → HasNoEscape d cs
    → run d Inside vs cur (cs ++ after) ≡ run d Inside vs (cur ++ cs) after
inside_runs d vs cur [] after h = ap (λ l. run d Inside vs l after) (sym (append-nil cur))
inside_runs d vs cur (c ∷ cs) after h =
    ap (act_run d vs cur c (cs ++ after)) (inside_keeps d c (ends_at d (c ∷ cs ++ after)) h.0 h.1)
    ∙ inside_runs d vs (cur ++ c ∷ []) cs after h.2 ∙ ap (λ l. run d Inside vs l after) (append_assoc cur (c ∷ []) cs)

nothing_runs : (d : Dialect) (st : State) (vs : List (List ℕ)) (cur cs after : List ℕ) → cs ≡ [] → run d st vs cur (cs ++ after) ≡ run d st vs (cur ++ cs) after
nothing_runs d st vs cur cs after e = ap (λ l. run d st vs cur (l ++ after)) e ∙ ap (λ l. run d st vs l after) (sym (append-nil cur))
    ∙ ap (λ l. run d st vs (cur ++ l) after) (sym e)

module _ (laws : RecordLaws) where
  pub clean_runs : (d : Dialect) (st : State) (vs : List (List ℕ)) (cur cs after : List ℕ) → IsClean d st cs after
      → run d st vs cur (cs ++ after) ≡ run d st vs (cur ++ cs) after
  clean_runs d Start vs cur cs after h = nothing_runs d Start vs cur cs after h
  clean_runs d Plain vs cur cs after h =
      sym (finish_open (run d Plain vs cur (cs ++ after))) ∙ laws.passes.run_plain false d vs cur cs after (plain_chunk d cs after h.0 h.1)
      ∙ finish_open (run d Plain vs (cur ++ cs) after)
  clean_runs d Inside vs cur cs after h = inside_runs d vs cur cs after h
  clean_runs d Escaped vs cur cs after h = nothing_runs d Escaped vs cur cs after h
  clean_runs d Closed vs cur cs after h = nothing_runs d Closed vs cur cs after h

pub nothing_clean : (d : Dialect) (st : State) (cs after : List ℕ) → cs ≡ [] → IsClean d st cs after
nothing_clean d Start cs after e = e
nothing_clean d Plain cs after e = (subst (HasNoSymbol d) (sym e) tt, inl (ap (unsettled d) e))
nothing_clean d Inside cs after e = subst (HasNoEscape d) (sym e) tt
nothing_clean d Escaped cs after e = e
nothing_clean d Closed cs after e = e
