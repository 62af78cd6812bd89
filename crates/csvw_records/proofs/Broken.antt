-- The rule that a pass finds broken, and how the text before it was read.
use Rattle.std.proofs.Common.{◌≡◌, ◌≢◌, ℕ, Bool, true, false, ◌&&◌, ◌==◌, not, if◌then◌else◌, List, [], ◌∷◌, ◌++◌, Some, refl, sym, ap, ◌∙◌, subst}
use Rattle.std.proofs.Common.{arith, append_assoc, append-nil, inl, inr, IsTrue}
use Rattle.csvw_records.specs.declared.dialect.Dialect.{Dialect}
use Rattle.csvw_records.specs.declared.stop.RowStop.TheVariants.{BadQuote, TextAfterQuote}
use Rattle.csvw_records.specs.declared.scan.State.{State}
use Rattle.csvw_records.specs.declared.scan.State.TheVariants.{Start, Plain, Inside, Escaped, Closed}
use Rattle.csvw_records.specs.declared.scan.Step.{Step}
use Rattle.csvw_records.specs.declared.scan.Step.TheVariants.{Keep, Skip, Open, Next, End, Stop}
use Rattle.csvw_records.specs.Grammar.{terminator_len, IsPlain, AreSkipped, AreUnits, IsUnit, IsOpened, IsField}
use Rattle.csvw_records.specs.Stops.{AfterFields}
use Rattle.csvw_records.specs.Scan.{quote_is, step_of, run}
use Rattle.csvw_records.specs.PassLaws.{ends_at, act_run}
use Rattle.csvw_records.proofs.Sound.{start_view, plain_view, inside_view, closed_view, no_ends_is, is_same, not_same, no_quote_is, quote_here, no_quote_here}
use Rattle.csvw_records.proofs.Sound.{and_both, not_true, keep_unit, escape_unit, double_unit, same_quote}
use Rattle.csvw_records.specs.RowLaws.{IsReading, Tells}

fields_snoc : (d : Dialect) (text : List ℕ) (values : List (List ℕ)) (source more v : List ℕ) → AfterFields d text values (source ++ d.delimiter ∷ more)
    → IsField d source v (d.delimiter ∷ more) → AfterFields d text (values ++ v ∷ []) more
fields_snoc d text [] source more v a f = (source, more, a, f, refl)
fields_snoc d text (u ∷ us) source more v (s, m, e, g, a) f = (s, m, e, g, fields_snoc d m us source more v a f)

plain_snoc : (d : Dialect) (src : List ℕ) (c : ℕ) (cs : List ℕ) → IsPlain d src (c ∷ cs) → c ≢ d.delimiter → Some c ≢ d.quote_char
    → terminator_len d (c ∷ cs) ≡ 0
    → IsPlain d (src ++ c ∷ []) cs
plain_snoc d [] c cs p n q t = (n, q, t, tt)
plain_snoc d (x ∷ xs) c cs p n q t =
    (p.0, p.1, subst (λ (l : List ℕ). terminator_len d (x ∷ l) ≡ 0) (sym (append_assoc xs (c ∷ []) cs)) p.2, plain_snoc d xs c cs p.3 n q t)

skipped_snoc : (d : Dialect) (q : ℕ) (src : List ℕ) (c : ℕ) → AreSkipped d q src → IsTrue d.skip_initial_space → c ≡ 32 → c ≢ d.delimiter → c ≢ q
    → AreSkipped d q (src ++ c ∷ [])
skipped_snoc d q [] c s t e n m = (t, e, n, m, tt)
skipped_snoc d q (x ∷ xs) c s t e n m = (s.0, s.1, s.2, s.3, skipped_snoc d q xs c s.4 t e n m)

skipped_last : (d : Dialect) (q : ℕ) (src : List ℕ) (c : ℕ) → AreSkipped d q (src ++ c ∷ []) → IsTrue d.skip_initial_space × (c ≡ 32)
skipped_last d q [] c s = (s.0, s.1)
skipped_last d q (x ∷ xs) c s = skipped_last d q xs c s.4

units_snoc : (d : Dialect) (q : ℕ) (inside value unit : List ℕ) (c : ℕ) → AreUnits d q inside value → IsUnit d q unit c
    → AreUnits d q (inside ++ unit) (value ++ c ∷ [])
units_snoc d q inside [] unit c u i = (unit, [], i, ap (λ l. l ++ unit) u ∙ sym (append-nil unit), refl)
units_snoc d q inside (v ∷ vs) unit c (one, more, i', e, u) i =
    (one, more ++ unit, i', ap (λ l. l ++ unit) e ∙ append_assoc one more unit, units_snoc d q more vs unit c u i)

opened_snoc : (d : Dialect) (source value unit : List ℕ) (c : ℕ) (o : IsOpened d source value) → IsUnit d o.quote unit c
    → IsOpened d (source ++ unit) (value ++ c ∷ [])
opened_snoc d source value unit c o i = record {
  spaces = o.spaces;
  quote = o.quote;
  inside = o.inside ++ unit;
  is_quote = o.is_quote;
  skipped = o.skipped;
  units = units_snoc d o.quote o.inside value unit c o.units i;
  spelled = ap (λ l. l ++ unit) o.spelled ∙ append_assoc o.spaces (o.quote ∷ o.inside) unit;
}

plain_stops : (e b q : Bool) → (if e then End else (if b then Next else (if q then Stop BadQuote else Keep Plain))) ≡ Stop BadQuote → q ≡ true
plain_stops true b q h = absurd cc
plain_stops false true q h = absurd cc
plain_stops false false true h = refl
plain_stops false false false h = absurd cc

closed_stops : (e b q : Bool) → (if e then End else (if b then Next else (if q then Keep Inside else Stop TextAfterQuote))) ≡ Stop TextAfterQuote
    → (e ≡ false) × (b ≡ false) × (q ≡ false)
closed_stops true b q h = absurd cc
closed_stops false true q h = absurd cc
closed_stops false false true h = absurd cc
closed_stops false false false h = (refl, refl, refl)

-- the text behind what was read of the field
abbrev Ih : Dialect → List ℕ → List ℕ → Type 0
Ih d text cs = (st : State) (vs : List (List ℕ)) (cur : List ℕ) (values : List (List ℕ)) (src : List ℕ) → AfterFields d text values (src ++ cs)
    → IsReading d st src cur cs → Tells d text (run d st vs cur cs)

moved : (d : Dialect) (text : List ℕ) (values : List (List ℕ)) (src : List ℕ) (c : ℕ) (cs : List ℕ) → AfterFields d text values (src ++ c ∷ cs)
    → AfterFields d text values ((src ++ c ∷ []) ++ cs)
moved d text values src c cs a = subst (AfterFields d text values) (sym (append_assoc src (c ∷ []) cs)) a

next_field : (d : Dialect) (text : List ℕ) (vs values : List (List ℕ)) (cur src : List ℕ) (c : ℕ) (cs : List ℕ)
    → AfterFields d text values (src ++ c ∷ cs) → c ≡ d.delimiter
    → IsField d src cur (c ∷ cs) → Ih d text cs → Tells d text (run d Start (vs ++ cur ∷ []) [] cs)
next_field d text vs values cur src c cs a e f ih =
    ih Start (vs ++ cur ∷ []) [] (values ++ cur ∷ []) [] (fields_snoc d text values src cs cur
    (subst (λ x. AfterFields d text values (src ++ x ∷ cs)) e a) (subst (λ x. IsField d src cur (x ∷ cs)) e f)) (λ q h. tt, tt, refl)

no_skip : (s b : Bool) (c : ℕ) → (s && (c == 32)) ≡ false → IsTrue s → c ≡ 32 → ⊥
no_skip true b c h t e = let k : (32 == 32) ≡ false = ap (λ x. x == 32) (sym e) ∙ h in absurd cc
no_skip false b c h t e = absurd (grind arith)

by : (d : Dialect) (text : List ℕ) (vs : List (List ℕ)) (cur : List ℕ) (c : ℕ) (cs : List ℕ) (st : State) (s : Step) → step_of d st c (ends_at d (c ∷ cs)) ≡ s
    → Tells d text (act_run d vs cur c cs s) → Tells d text (run d st vs cur (c ∷ cs))
by d text vs cur c cs st s e t = subst (λ (x : Step). Tells d text (act_run d vs cur c cs x)) (sym e) t

in_start : (d : Dialect) (text : List ℕ) (vs values : List (List ℕ)) (cur src : List ℕ) (c : ℕ) (cs : List ℕ) → AfterFields d text values (src ++ c ∷ cs)
    → IsReading d Start src cur (c ∷ cs) → Ih d text cs → Tells d text (run d Start vs cur (c ∷ cs))
in_start d text vs values cur src c cs a (sk, pl, same) ih =
    elim (start_view (ends_at d (c ∷ cs)) (c == d.delimiter) (quote_is d.quote_char c) (d.skip_initial_space && (c == 32))) [
      | inl p ↦ by d text vs cur c cs Start End p.1 tt
      | inr r ↦ elim r [
        | inl p ↦ by d text vs cur c cs Start Next p.2 (next_field d text vs values cur src c cs a (is_same c d.delimiter p.1) (inl (pl, same)) ih)
        | inr r ↦ elim r [
          | inl p ↦ by d text vs cur c cs Start Open p.3 (ih Inside vs [] values (src ++ c ∷ []) (moved d text values src c cs a) (record {
            spaces = src;
            quote = c;
            inside = [];
            is_quote = quote_here d.quote_char c p.2;
            skipped = sk c (quote_here d.quote_char c p.2);
            units = refl;
            spelled = refl;
          }))
          | inr r ↦ elim r [
            | inl p ↦ let skips = and_both d.skip_initial_space (c == 32) p.3 in
                by d text vs cur c cs Start (Keep Start) p.4 (ih Start vs (cur ++ c ∷ []) values (src ++ c ∷ []) (moved d text values src c cs a) (
                  λ q h. skipped_snoc d q src c (sk q h) skips.0 (is_same c 32 skips.1) (not_same c d.delimiter p.1) (no_quote_is d.quote_char c q p.2 h),
                  plain_snoc d src c cs pl (not_same c d.delimiter p.1) (no_quote_here d.quote_char c p.2) (no_ends_is d (c ∷ cs) p.0),
                  ap (λ l. l ++ c ∷ []) same,
                ))
            | inr p ↦ by d text vs cur c cs Start (Keep Plain) p.4 (ih Plain vs (cur ++ c ∷ []) values (src ++ c ∷ []) (moved d text values src c cs a) (
              λ q h k. let l = skipped_last d q src c k in no_skip d.skip_initial_space true c p.3 l.0 l.1,
              plain_snoc d src c cs pl (not_same c d.delimiter p.1) (no_quote_here d.quote_char c p.2) (no_ends_is d (c ∷ cs) p.0),
              ap (λ l. l ++ c ∷ []) same,
            ))
          ]
        ]
      ]
    ]

in_plain : (d : Dialect) (text : List ℕ) (vs values : List (List ℕ)) (cur src : List ℕ) (c : ℕ) (cs : List ℕ) → AfterFields d text values (src ++ c ∷ cs)
    → IsReading d Plain src cur (c ∷ cs) → Ih d text cs → Tells d text (run d Plain vs cur (c ∷ cs))
in_plain d text vs values cur src c cs a (sk, pl, same) ih =
    elim (plain_view (ends_at d (c ∷ cs)) (c == d.delimiter) (quote_is d.quote_char c)) [
      | inl p ↦ by d text vs cur c cs Plain End p.1 tt
      | inr r ↦ elim r [
        | inl p ↦ by d text vs cur c cs Plain Next p.2 (next_field d text vs values cur src c cs a (is_same c d.delimiter p.1) (inl (pl, same)) ih)
        | inr r ↦ elim r [
          | inl p ↦ let is = quote_here d.quote_char c (plain_stops (ends_at d (c ∷ cs)) (c == d.delimiter) (quote_is d.quote_char c) p) in
              by d text vs cur c cs Plain (Stop BadQuote) p
              (record { values = values; plain = src; quote = c; rest = cs; before = a; is_quote = is; is_plain = pl; begun = sk c is })
          | inr p ↦ by d text vs cur c cs Plain (Keep Plain) p.3 (ih Plain vs (cur ++ c ∷ []) values (src ++ c ∷ []) (moved d text values src c cs a) (
            λ q h k. sk q h (skipped_front d q src c k),
            plain_snoc d src c cs pl (not_same c d.delimiter p.1) (no_quote_here d.quote_char c p.2)
                (no_ends_is d (c ∷ cs) p.0),
            ap (λ l. l ++ c ∷ []) same,
          ))
        ]
      ]
    ]
  where
    skipped_front : (d : Dialect) (q : ℕ) (src : List ℕ) (c : ℕ) → AreSkipped d q (src ++ c ∷ []) → AreSkipped d q src
    skipped_front d q [] c s = tt
    skipped_front d q (x ∷ xs) c s = (s.0, s.1, s.2, s.3, skipped_front d q xs c s.4)

in_inside : (d : Dialect) (text : List ℕ) (vs values : List (List ℕ)) (cur src : List ℕ) (c : ℕ) (cs : List ℕ) → AfterFields d text values (src ++ c ∷ cs)
    → IsReading d Inside src cur (c ∷ cs) → Ih d text cs → Tells d text (run d Inside vs cur (c ∷ cs))
in_inside d text vs values cur src c cs a o ih =
    elim (inside_view (quote_is d.quote_char c) (not d.double_quote && (c == 92))) [
      | inl p ↦ let is = same_quote d c o.quote (quote_here d.quote_char c p.0) o.is_quote in
          by d text vs cur c cs Inside (Skip Closed) p.1
          (ih Closed vs cur values (src ++ c ∷ []) (moved d text values src c cs a) (src, o, ap (λ x. src ++ x ∷ []) is))
      | inr r ↦ elim r [
        | inl p ↦ let both = and_both (not d.double_quote) (c == 92) p.1 in
            by d text vs cur c cs Inside (Skip Escaped) p.2 (ih Escaped vs cur values (src ++ c ∷ []) (moved d text values src c cs a)
            (src, o, ap (λ x. src ++ x ∷ []) (is_same c 92 both.1), not_true d.double_quote both.0))
        | inr p ↦ let n = no_quote_is d.quote_char c o.quote p.0 o.is_quote in
            by d text vs cur c cs Inside (Keep Inside) p.2 (ih Inside vs (cur ++ c ∷ []) values (src ++ c ∷ []) (moved d text values src c cs a)
            (opened_snoc d src cur (c ∷ []) c o (inl (refl, n, keep_unit d.double_quote o.quote c n p.1))))
      ]
    ]

in_escaped : (d : Dialect) (text : List ℕ) (vs values : List (List ℕ)) (cur src : List ℕ) (c : ℕ) (cs : List ℕ) → AfterFields d text values (src ++ c ∷ cs)
    → IsReading d Escaped src cur (c ∷ cs) → Ih d text cs → Tells d text (run d Escaped vs cur (c ∷ cs))
in_escaped d text vs values cur src c cs a (opened, o, e, single) ih =
    let joined : opened ++ 92 ∷ c ∷ [] ≡ src ++ c ∷ [] = sym (append_assoc opened (92 ∷ []) (c ∷ [])) ∙ ap (λ l. l ++ c ∷ []) (sym e) in
    ih Inside vs (cur ++ c ∷ []) values (src ++ c ∷ []) (moved d text values src c cs a)
    (subst (λ (l : List ℕ). IsOpened d l (cur ++ c ∷ [])) joined (opened_snoc d opened cur (92 ∷ c ∷ []) c o (escape_unit d o.quote c single)))

no_second : (d : Dialect) (c : ℕ) (a : Bool) → (a && quote_is d.quote_char c) ≡ false → IsTrue a → Some c ≢ d.quote_char
no_second d c true n t = no_quote_here d.quote_char c n
no_second d c false n t = absurd (grind arith)

in_closed : (d : Dialect) (text : List ℕ) (vs values : List (List ℕ)) (cur src : List ℕ) (c : ℕ) (cs : List ℕ) → AfterFields d text values (src ++ c ∷ cs)
    → IsReading d Closed src cur (c ∷ cs) → Ih d text cs → Tells d text (run d Closed vs cur (c ∷ cs))
in_closed d text vs values cur src c cs a (opened, o, e) ih =
    elim (closed_view (ends_at d (c ∷ cs)) (c == d.delimiter) (d.double_quote && quote_is d.quote_char c)) [
      | inl p ↦ by d text vs cur c cs Closed End p.1 tt
      | inr r ↦ elim r [
        | inl p ↦ by d text vs cur c cs Closed Next p.2 (next_field d text vs values cur src c cs a (is_same c d.delimiter p.1) (inr (opened, o, e)) ih)
        | inr r ↦ elim r [
          | inl p ↦ let no = closed_stops (ends_at d (c ∷ cs)) (c == d.delimiter) (d.double_quote && quote_is d.quote_char c) p in
              by d text vs cur c cs Closed (Stop TextAfterQuote) p (record {
                values = values;
                source = src;
                value = cur;
                c = c;
                rest = cs;
                before = a;
                quoted = (opened, o, e);
                no_delimiter = not_same c d.delimiter no.1;
                no_terminator = no_ends_is d (c ∷ cs) no.0;
                no_escape = no_second d c d.double_quote no.2;
              })
          | inr p ↦ let both = and_both d.double_quote (quote_is d.quote_char c) p.0 in
              let is = same_quote d c o.quote (quote_here d.quote_char c both.1) o.is_quote in
              let joined : opened ++ c ∷ c ∷ [] ≡ src ++ c ∷ [] = sym (append_assoc opened (c ∷ []) (c ∷ []))
              ∙ ap (λ x. (opened ++ x ∷ []) ++ c ∷ []) is ∙ ap (λ l. l ++ c ∷ []) (sym e) in
              by d text vs cur c cs Closed (Keep Inside) p.1 (ih Inside vs (cur ++ c ∷ []) values (src ++ c ∷ []) (moved d text values src c cs a)
              (subst (λ (l : List ℕ). IsOpened d l (cur ++ c ∷ [])) joined
              (opened_snoc d opened cur (c ∷ c ∷ []) c o (subst (λ x. IsUnit d x (c ∷ c ∷ []) c) is (double_unit d c both.0)))))
        ]
      ]
    ]

pub tells : (d : Dialect) (text : List ℕ) (st : State) (vs : List (List ℕ)) (cur : List ℕ) (values : List (List ℕ)) (src more : List ℕ)
    → AfterFields d text values (src ++ more)
    → IsReading d st src cur more → Tells d text (run d st vs cur more)
tells d text st vs cur values src [] a r = (values, src, subst (AfterFields d text values) (append-nil src) a, r)
tells d text Start vs cur values src (c ∷ cs) a r = in_start d text vs values cur src c cs a r (λ st vs cur values src. tells d text st vs cur values src cs)
tells d text Plain vs cur values src (c ∷ cs) a r = in_plain d text vs values cur src c cs a r (λ st vs cur values src. tells d text st vs cur values src cs)
tells d text Inside vs cur values src (c ∷ cs) a r = in_inside d text vs values cur src c cs a r (λ st vs cur values src. tells d text st vs cur values src cs)
tells d text Escaped vs cur values src (c ∷ cs) a r =
    in_escaped d text vs values cur src c cs a r (λ st vs cur values src. tells d text st vs cur values src cs)
tells d text Closed vs cur values src (c ∷ cs) a r = in_closed d text vs values cur src c cs a r (λ st vs cur values src. tells d text st vs cur values src cs)

-- a pass over a whole text
pub run_tells : (d : Dialect) (text : List ℕ) → Tells d text (run d Start [] [] text)
run_tells d text = tells d text Start [] [] [] [] text refl (λ q h. tt, tt, refl)
