-- A row of the grammar is read as that row.
use Rattle.std.proofs.Common.{◌≡◌, ◌≢◌, ℕ, ◌<◌, Bool, true, false, ◌&&◌, ◌==◌, not, if◌then◌else◌, List, [], ◌∷◌, ◌++◌, Some, refl, sym, ap, ◌∙◌}
use Rattle.std.proofs.Common.{subst, arith, append_assoc, append-nil, ◌⊎◌, inl, inr, IsTrue}
use Rattle.csvw_records.specs.declared.dialect.Dialect.{Dialect}
use Rattle.csvw_records.specs.declared.stop.RowStop.TheVariants.{BadQuote, TextAfterQuote}
use Rattle.csvw_records.specs.declared.scan.State.TheVariants.{Start, Plain, Inside, Escaped, Closed}
use Rattle.csvw_records.specs.declared.scan.Step.TheVariants.{Keep, Skip, Open, Next, End, Stop}
use Rattle.csvw_records.specs.Grammar.{terminator_len, IsPlain, AreSkipped, AreUnits, escape_char, IsQuoted, IsField, AreFields}
use Rattle.csvw_records.specs.Lawful.{IsLawful}
use Rattle.csvw_records.specs.Files.{EndsRow}
use Rattle.csvw_records.specs.Scan.{Found, quote_is, pass}
use Rattle.csvw_records.proofs.RunSteps.{run_by, differs, no_quote, no_end, run_plain}
use Rattle.csvw_records.specs.PassLaws.{ends_at}
use Rattle.std.proofs.lemmas.Bool.Decides.{nat_tests}

-- a delimiter or a terminator comes after the field
abbrev pub IsAfter : Bool → Dialect → List ℕ → Type 0
IsAfter f d after = EndsRow f d after ⊎ ((more : List ℕ) × (after ≡ d.delimiter ∷ more))

no_terminator_tests : (crlf lf a b x y : Bool) → a ≡ false → b ≡ false → ◌≡◌ {A = ℕ} (if crlf && (a && x) then 2 else (if lf && (b && y) then 1 else 0)) 0
no_terminator_tests crlf lf a b x y e f = grind arith

pub no_terminator : (d : Dialect) (c : ℕ) (rest : List ℕ) → c ≢ 13 → c ≢ 10 → terminator_len d (c ∷ rest) ≡ 0
no_terminator d c rest n m =
    no_terminator_tests d.line_terminators.crlf d.line_terminators.lf _ _ _ true (differs 13 c (λ e. n (sym e))) (differs 10 c (λ e. m (sym e)))

pub has_end : (d : Dialect) (text : List ℕ) → 0 < terminator_len d text → ends_at d text ≡ true
has_end d text h = grind (arith, nat_tests)

pub same_test : (a : ℕ) → (a == a) ≡ true
same_test a = grind (arith, nat_tests)

-- at what comes after a field, it doesn't matter how the field was read
start_ends : (e b q s : Bool) → e ≡ true → (if e then End else (if b then Next else (if q then Open else (if s then Keep Start else Keep Plain)))) ≡ End
start_ends e b q s h = grind arith

start_next : (e b q s : Bool) → e ≡ false → b ≡ true
    → (if e then End else (if b then Next else (if q then Open else (if s then Keep Start else Keep Plain)))) ≡ Next
start_next e b q s h k = grind arith

plain_ends : (e b q : Bool) → e ≡ true → (if e then End else (if b then Next else (if q then Stop BadQuote else Keep Plain))) ≡ End
plain_ends e b q h = grind arith

plain_next : (e b q : Bool) → e ≡ false → b ≡ true → (if e then End else (if b then Next else (if q then Stop BadQuote else Keep Plain))) ≡ Next
plain_next e b q h k = grind arith

closed_ends : (e b q : Bool) → e ≡ true → (if e then End else (if b then Next else (if q then Keep Inside else Stop TextAfterQuote))) ≡ End
closed_ends e b q h = grind arith

closed_next : (e b q : Bool) → e ≡ false → b ≡ true → (if e then End else (if b then Next else (if q then Keep Inside else Stop TextAfterQuote))) ≡ Next
closed_next e b q h k = grind arith

pub closed_keep : (e b q : Bool) → e ≡ false → b ≡ false → q ≡ true
    → (if e then End else (if b then Next else (if q then Keep Inside else Stop TextAfterQuote))) ≡ Keep Inside
closed_keep e b q h k j = grind arith

start_open : (e b q s : Bool) → e ≡ false → b ≡ false → q ≡ true
    → (if e then End else (if b then Next else (if q then Open else (if s then Keep Start else Keep Plain)))) ≡ Open
start_open e b q s h k j = grind arith

start_skip : (e b q s : Bool) → e ≡ false → b ≡ false → q ≡ false → s ≡ true
    → (if e then End else (if b then Next else (if q then Open else (if s then Keep Start else Keep Plain)))) ≡ Keep Start
start_skip e b q s h k j i = grind arith

start_keep : (e b q s : Bool) → e ≡ false → b ≡ false → q ≡ false → s ≡ false
    → (if e then End else (if b then Next else (if q then Open else (if s then Keep Start else Keep Plain)))) ≡ Keep Plain
start_keep e b q s h k j i = grind arith

delimiter_no_end : (d : Dialect) (more : List ℕ) → IsLawful d → ends_at d (d.delimiter ∷ more) ≡ false
delimiter_no_end d more w = no_end d (d.delimiter ∷ more) (no_terminator d d.delimiter more w.delimiter_cr w.delimiter_lf)

pub nothing_ends : (d : Dialect) → 0 < terminator_len d [] → ⊥
nothing_ends d h = let e : terminator_len d [] ≡ 0 =
    no_terminator_tests d.line_terminators.crlf d.line_terminators.lf false false true true refl refl in omega arith

at_end_start : (f : Bool) (d : Dialect) (vs : List (List ℕ)) (cur : List ℕ) → IsTrue f → pass f d Start vs cur [] ≡ pass f d Plain vs cur []
at_end_start true d vs cur t = refl
at_end_start false d vs cur t = absurd (grind arith)

at_end_closed : (f : Bool) (d : Dialect) (vs : List (List ℕ)) (cur : List ℕ) → IsTrue f → pass f d Closed vs cur [] ≡ pass f d Plain vs cur []
at_end_closed true d vs cur t = refl
at_end_closed false d vs cur t = absurd (grind arith)

at_end_found : (f : Bool) (d : Dialect) (vs : List (List ℕ)) (cur : List ℕ) → IsTrue f → pass f d Plain vs cur [] ≡ Found (vs ++ cur ∷ []) []
at_end_found true d vs cur t = refl
at_end_found false d vs cur t = absurd (grind arith)

pub start_after : (f : Bool) (d : Dialect) (vs : List (List ℕ)) (cur after : List ℕ) → IsLawful d → IsAfter f d after
    → pass f d Start vs cur after ≡ pass f d Plain vs cur after
start_after f d vs cur [] w (inl (inl h)) = absurd (nothing_ends d h)
start_after f d vs cur [] w (inl (inr (t, e))) = at_end_start f d vs cur t
start_after f d vs cur (c ∷ cs) w (inl (inr (t, e))) = absurd cc
start_after f d vs cur (c ∷ cs) w (inl (inl h)) =
    run_by f d Start vs cur c cs End (start_ends _ _ _ _ (has_end d (c ∷ cs) h))
    ∙ sym (run_by f d Plain vs cur c cs End (plain_ends _ _ _ (has_end d (c ∷ cs) h)))
start_after f d vs cur after w (inr (more, e)) =
    let P : List ℕ → Type 0 = λ l. pass f d Start vs cur l ≡ pass f d Plain vs cur l in
    subst P (sym e) (run_by f d Start vs cur d.delimiter more Next (start_next _ _ _ _ (delimiter_no_end d more w) (same_test d.delimiter))
    ∙ sym (run_by f d Plain vs cur d.delimiter more Next (plain_next _ _ _ (delimiter_no_end d more w) (same_test d.delimiter))))

pub closed_after : (f : Bool) (d : Dialect) (vs : List (List ℕ)) (cur after : List ℕ) → IsLawful d → IsAfter f d after
    → pass f d Closed vs cur after ≡ pass f d Plain vs cur after
closed_after f d vs cur [] w (inl (inl h)) = absurd (nothing_ends d h)
closed_after f d vs cur [] w (inl (inr (t, e))) = at_end_closed f d vs cur t
closed_after f d vs cur (c ∷ cs) w (inl (inr (t, e))) = absurd cc
closed_after f d vs cur (c ∷ cs) w (inl (inl h)) =
    run_by f d Closed vs cur c cs End (closed_ends _ _ _ (has_end d (c ∷ cs) h))
    ∙ sym (run_by f d Plain vs cur c cs End (plain_ends _ _ _ (has_end d (c ∷ cs) h)))
closed_after f d vs cur after w (inr (more, e)) =
    let P : List ℕ → Type 0 = λ l. pass f d Closed vs cur l ≡ pass f d Plain vs cur l in
    subst P (sym e) (run_by f d Closed vs cur d.delimiter more Next (closed_next _ _ _ (delimiter_no_end d more w) (same_test d.delimiter))
    ∙ sym (run_by f d Plain vs cur d.delimiter more Next (plain_next _ _ _ (delimiter_no_end d more w) (same_test d.delimiter))))

-- a plain field
pub run_start : (f : Bool) (d : Dialect) (vs : List (List ℕ)) (cur source after : List ℕ) → IsLawful d → IsPlain d source after → IsAfter f d after
    → pass f d Start vs cur (source ++ after) ≡ pass f d Plain vs (cur ++ source) after
run_start f d vs cur [] after w p a = start_after f d vs cur after w a ∙ ap (λ l. pass f d Plain vs l after) (sym (append-nil cur))
run_start f d vs cur (c ∷ cs) after w p a =
    let e = no_end d (c ∷ cs ++ after) p.2 in
    let b = differs c d.delimiter p.0 in
    let q = no_quote d.quote_char c p.1 in
    let joined : pass f d Plain vs ((cur ++ c ∷ []) ++ cs) after ≡ pass f d Plain vs (cur ++ c ∷ cs) after =
    ap (λ l. pass f d Plain vs l after) (append_assoc cur (c ∷ []) cs) in
    let byskip : (s : Bool) → (d.skip_initial_space && (c == 32)) ≡ s → pass f d Start vs cur (c ∷ cs ++ after) ≡ pass f d Plain vs (cur ++ c ∷ cs) after =
    λ s. elim s as (λ (v : Bool). (d.skip_initial_space && (c == 32)) ≡ v → pass f d Start vs cur (c ∷ cs ++ after) ≡ pass f d Plain vs (cur ++ c ∷ cs) after) [
      | true ↦ λ h. run_by f d Start vs cur c (cs ++ after) (Keep Start) (start_skip _ _ _ _ e b q h)
          ∙ run_start f d vs (cur ++ c ∷ []) cs after w p.3 a ∙ joined
      | false ↦ λ h. run_by f d Start vs cur c (cs ++ after) (Keep Plain) (start_keep _ _ _ _ e b q h) ∙ run_plain f d vs (cur ++ c ∷ []) cs after p.3 ∙ joined
    ] in
    byskip _ refl

is_some_quote : (d : Dialect) (q : ℕ) → d.quote_char ≡ Some q → quote_is d.quote_char q ≡ true
is_some_quote d q e = rw e (same_test q)

-- spaces in front of a quote
pub run_skipped : (f : Bool) (d : Dialect) (vs : List (List ℕ)) (cur spaces rest : List ℕ) (q : ℕ) → d.quote_char ≡ Some q → AreSkipped d q spaces
    → pass f d Start vs cur (spaces ++ rest) ≡ pass f d Start vs (cur ++ spaces) rest
run_skipped f d vs cur [] rest q e s = ap (λ l. pass f d Start vs l rest) (sym (append-nil cur))
run_skipped f d vs cur (c ∷ cs) rest q e s =
    let cr : c ≢ 13 = λ h. omega (arith, s.1) in
    let lf : c ≢ 10 = λ h. omega (arith, s.1) in
    let quote : quote_is d.quote_char c ≡ false = rw e (differs c q s.3) in
    let both : (d.skip_initial_space && (c == 32)) ≡ true = grind (arith, nat_tests, s.0, s.1) in
    run_by f d Start vs cur c (cs ++ rest) (Keep Start)
    (start_skip _ _ _ _ (no_end d (c ∷ cs ++ rest) (no_terminator d c (cs ++ rest) cr lf)) (differs c d.delimiter s.2) quote both)
    ∙ run_skipped f d vs (cur ++ c ∷ []) cs rest q e s.4
    ∙ ap (λ l. pass f d Start vs l rest) (append_assoc cur (c ∷ []) cs)

inside_keep : (q e : Bool) → q ≡ false → e ≡ false → (if q then Skip Closed else (if e then Skip Escaped else Keep Inside)) ≡ Keep Inside
inside_keep q e h k = grind arith

inside_escape : (q e : Bool) → q ≡ false → e ≡ true → (if q then Skip Closed else (if e then Skip Escaped else Keep Inside)) ≡ Skip Escaped
inside_escape q e h k = grind arith

inside_close : (q e : Bool) → q ≡ true → (if q then Skip Closed else (if e then Skip Escaped else Keep Inside)) ≡ Skip Closed
inside_close q e h = grind arith

no_backslash : (double : Bool) (q c : ℕ) → c ≢ (if double then q else 92) → (not double && (c == 92)) ≡ false
no_backslash true q c n = refl
no_backslash false q c n = differs c 92 n

pub quote_no_end : (d : Dialect) (q : ℕ) (rest : List ℕ) → IsLawful d → d.quote_char ≡ Some q → ends_at d (q ∷ rest) ≡ false
quote_no_end d q rest w e = no_end d (q ∷ rest) (no_terminator d q rest (λ h. w.quote_cr (e ∙ ap Some h)) (λ h. w.quote_lf (e ∙ ap Some h)))

pub quote_no_delimiter : (d : Dialect) (q : ℕ) → IsLawful d → d.quote_char ≡ Some q → (q == d.delimiter) ≡ false
quote_no_delimiter d q w e = differs q d.delimiter (λ h. w.apart (e ∙ ap Some h))

-- one unit: itself
unit_plain : (f : Bool) (d : Dialect) (vs : List (List ℕ)) (cur rest : List ℕ) (q c : ℕ) → d.quote_char ≡ Some q → c ≢ q → c ≢ escape_char d q
    → pass f d Inside vs cur (c ∷ rest) ≡ pass f d Inside vs (cur ++ c ∷ []) rest
unit_plain f d vs cur rest q c e n m =
    let quote : quote_is d.quote_char c ≡ false = rw e (differs c q n) in
    run_by f d Inside vs cur c rest (Keep Inside) (inside_keep _ _ quote (no_backslash d.double_quote q c m))

-- one unit: an escape
unit_escape : (f : Bool) (d : Dialect) (vs : List (List ℕ)) (cur rest : List ℕ) (q c : ℕ) (double : Bool) → IsLawful d → d.quote_char ≡ Some q
    → d.double_quote ≡ double
    → (double ≡ true → c ≡ q) → pass f d Inside vs cur ((if double then q else 92) ∷ c ∷ rest) ≡ pass f d Inside vs (cur ++ c ∷ []) rest
unit_escape f d vs cur rest q c true w e b h =
    let P : ℕ → Type 0 = λ x. pass f d Inside vs cur (q ∷ x ∷ rest) ≡ pass f d Inside vs (cur ++ x ∷ []) rest in
    let both : (d.double_quote && quote_is d.quote_char q) ≡ true = rw b (is_some_quote d q e) in
    subst P (sym (h refl)) (run_by f d Inside vs cur q (q ∷ rest) (Skip Closed) (inside_close _ _ (is_some_quote d q e))
    ∙ run_by f d Closed vs cur q rest (Keep Inside) (closed_keep _ _ _ (quote_no_end d q rest w e) (quote_no_delimiter d q w e) both))
unit_escape f d vs cur rest q c false w e b h =
    let quote : quote_is d.quote_char 92 ≡ false = rw e (differs 92 q (λ k. w.quote_escape b (e ∙ ap Some (sym k)))) in
    let slash : (not d.double_quote && (92 == 92)) ≡ true = rw b refl in
    run_by f d Inside vs cur 92 (c ∷ rest) (Skip Escaped) (inside_escape _ _ quote slash)
    ∙ run_by f d Escaped vs cur c rest (Keep Inside) refl

-- what stands between the quotes
pub run_units : (f : Bool) (d : Dialect) (vs : List (List ℕ)) (cur inside value rest : List ℕ) (q : ℕ) → IsLawful d → d.quote_char ≡ Some q
    → AreUnits d q inside value
    → pass f d Inside vs cur (inside ++ rest) ≡ pass f d Inside vs (cur ++ value) rest
run_units f d vs cur inside [] rest q w e u =
    ap (λ l. pass f d Inside vs cur (l ++ rest)) u ∙ ap (λ l. pass f d Inside vs l rest) (sym (append-nil cur))
run_units f d vs cur inside (c ∷ cs) rest q w e (unit, more, inl (u, n, m), spelled, units) =
    ap (λ l. pass f d Inside vs cur (l ++ rest)) (spelled ∙ ap (λ l. l ++ more) u)
    ∙ unit_plain f d vs cur (more ++ rest) q c e n m
    ∙ run_units f d vs (cur ++ c ∷ []) more cs rest q w e units
    ∙ ap (λ l. pass f d Inside vs l rest) (append_assoc cur (c ∷ []) cs)
run_units f d vs cur inside (c ∷ cs) rest q w e (unit, more, inr (u, h), spelled, units) =
    ap (λ l. pass f d Inside vs cur (l ++ rest)) (spelled ∙ ap (λ l. l ++ more) u)
    ∙ unit_escape f d vs cur (more ++ rest) q c d.double_quote w e refl (λ b. h (subst IsTrue (sym b) refl))
    ∙ run_units f d vs (cur ++ c ∷ []) more cs rest q w e units
    ∙ ap (λ l. pass f d Inside vs l rest) (append_assoc cur (c ∷ []) cs)

-- a quoted field
pub run_quoted : (f : Bool) (d : Dialect) (vs : List (List ℕ)) (source value after : List ℕ) → IsLawful d → IsQuoted d source value → IsAfter f d after
    → pass f d Start vs [] (source ++ after) ≡ pass f d Plain vs value after
run_quoted f d vs source value after w (opened, o, spelled) a =
    let q = o.quote in
    let regrouped : source ++ after ≡ o.spaces ++ q ∷ (o.inside ++ q ∷ after) =
    ap (λ l. l ++ after) (spelled ∙ ap (λ l. l ++ q ∷ []) o.spelled) ∙ simp append_assoc in
    ap (pass f d Start vs []) regrouped
    ∙ run_skipped f d vs [] o.spaces (q ∷ (o.inside ++ q ∷ after)) q o.is_quote o.skipped
    ∙ run_by f d Start vs o.spaces q (o.inside ++ q ∷ after) Open
    (start_open _ _ _ _ (quote_no_end d q (o.inside ++ q ∷ after) w o.is_quote) (quote_no_delimiter d q w o.is_quote) (is_some_quote d q o.is_quote))
    ∙ run_units f d vs [] o.inside value (q ∷ after) q w o.is_quote o.units
    ∙ run_by f d Inside vs value q after (Skip Closed) (inside_close _ _ (is_some_quote d q o.is_quote))
    ∙ closed_after f d vs value after w a

pub run_field : (f : Bool) (d : Dialect) (vs : List (List ℕ)) (source value after : List ℕ) → IsLawful d → IsField d source value after → IsAfter f d after
    → pass f d Start vs [] (source ++ after) ≡ pass f d Plain vs value after
run_field f d vs source value after w (inl (p, e)) a = run_start f d vs [] source after w p a ∙ ap (λ l. pass f d Plain vs l after) (sym e)
run_field f d vs source value after w (inr u) a = run_quoted f d vs source value after w u a

pub plain_found : (f : Bool) (d : Dialect) (vs : List (List ℕ)) (cur after : List ℕ) → EndsRow f d after
    → pass f d Plain vs cur after ≡ Found (vs ++ cur ∷ []) after
plain_found f d vs cur [] (inl h) = absurd (nothing_ends d h)
plain_found f d vs cur [] (inr (t, e)) = at_end_found f d vs cur t
plain_found f d vs cur (c ∷ cs) (inl h) = run_by f d Plain vs cur c cs End (plain_ends _ _ _ (has_end d (c ∷ cs) h))
plain_found f d vs cur (c ∷ cs) (inr (t, e)) = absurd cc

-- a row of these fields
pub run_fields : (f : Bool) (d : Dialect) (vs : List (List ℕ)) (row : List ℕ) (values : List (List ℕ)) (after : List ℕ) → IsLawful d
    → AreFields d row values after → EndsRow f d after
    → pass f d Start vs [] (row ++ after) ≡ Found (vs ++ values) after
run_fields f d vs row [] after w a h = absurd a
run_fields f d vs row (v ∷ []) after w a h = run_field f d vs row v after w a (inl h) ∙ plain_found f d vs v after h
run_fields f d vs row (v ∷ u ∷ us) after w (source, more, spelled, field, fields) h =
    ap (λ l. pass f d Start vs [] (l ++ after)) spelled
    ∙ ap (pass f d Start vs []) (append_assoc source (d.delimiter ∷ more) after)
    ∙ run_field f d vs source v (d.delimiter ∷ more ++ after) w field (inr (more ++ after, refl))
    ∙ run_by f d Plain vs v d.delimiter (more ++ after) Next (plain_next _ _ _ (delimiter_no_end d (more ++ after) w) (same_test d.delimiter))
    ∙ run_fields f d (vs ++ v ∷ []) more (u ∷ us) after w fields h
    ∙ ap (λ l. Found l after) (append_assoc vs (v ∷ []) (u ∷ us))
