-- The pass accepts a text that spells a number, and the numbers that it keeps then.
use Rattle.std.proofs.Common.{◌≡◌, ◌≢◌, ℕ, ◌+◌, ◌-◌, ◌*◌, ◌^◌, min, List, [], ◌∷◌, ◌++◌, refl, sym, ap, subst, ◌∙◌, Bool, true, false, Option, Some}
use Rattle.std.proofs.Common.{None, IsSome, inl, inr, arith, unwrap_or, filter}
use Rattle.std.specs.List.{AllByRecursion}
use Rattle.std.specs.Char.{is_ascii_digit, IsAsciiDigit, digit_value}
use Rattle.std.specs.Str.Parse.{digits_value_after}
use Rattle.std.proofs.lemmas.Str.{digit_value_digit}
use Rattle.std.proofs.lemmas.Bool.{cond-true, cond-false}
use Rattle.csvw_datatype_core.specs.declared.number.NumberRules.{NumberRules}
use Rattle.csvw_datatype_core.specs.declared.number.Mark.{Mark}
use Rattle.csvw_datatype_core.specs.declared.number.Mark.TheVariants as marks
use Rattle.csvw_datatype_core.specs.declared.number.Kind.{Kind}
use Rattle.csvw_datatype_core.specs.declared.number.Kind.TheVariants as kinds
use Rattle.csvw_datatype_core.specs.declared.number.Place.{Place}
use Rattle.csvw_datatype_core.specs.declared.number.Place.TheVariants as places
use Rattle.csvw_datatype_core.specs.declared.number.Scan.{Scan}
use Rattle.csvw_datatype_core.specs.Scan.{kind_of, next, ends, goes}
use Rattle.csvw_datatype_core.specs.Step.{begun, step, push, push_digit, push_fraction, run}
use Rattle.csvw_datatype_core.specs.Numbers.{Sign, NoSign, Plus, Minus, Parts, sign_text, fraction_text, mark_text, text_of, IsGrouped, IsFraction}
use Rattle.csvw_datatype_core.specs.Numbers.{IsMarked, IsNumber, IsLawful, fraction_digits}
use Rattle.csvw_datatype_core.proofs.KindLemmas.{kind_digit, kind_point, kind_group, kind_percent, kind_per_mille, kind_plus, kind_minus, digit_test}
use Rattle.csvw_datatype_core.proofs.KindLemmas.{no_digit_test, free}
use Rattle.csvw_datatype_core.proofs.ScanLemmas.{run-append}

-- a step over a character of a known kind
step_kind : (rules : NumberRules) (s : Scan) (c : ℕ) (k : Kind) → kind_of rules c ≡ k → step rules s c ≡ push (record s { place = next s.place k }) k
step_kind rules s c k e = ap (λ k. push (record s { place = next s.place k }) k) e

abbrev pub whole_value : ℕ → List ℕ → ℕ
whole_value n w = digits_value_after 10 n (filter is_ascii_digit w)

-- the state after a whole part
abbrev with_whole : Scan → ℕ → Scan
with_whole s n = record s { place = places.Whole; whole = min n (10 ^ 23) }

value_cons : (n c : ℕ) (w : List ℕ) → IsAsciiDigit c → whole_value n (c ∷ w) ≡ whole_value (n * 10 + (c - 48)) w
value_cons n c w h =
    let e : digit_value c ≡ c - 48 = omega (arith, digit_value_digit c h) in
    ap (digits_value_after 10 n) (cond-true _ _ _ (digit_test c h)) ∙ ap (λ d. whole_value (n * 10 + d) w) e

value_skip : (n c : ℕ) (w : List ℕ) → (IsAsciiDigit c → ⊥) → whole_value n (c ∷ w) ≡ whole_value n w
value_skip n c w h = ap (digits_value_after 10 n) (cond-false _ _ _ (no_digit_test c h))

-- a place after which a digit is one of the whole part
abbrev TakesWhole : Place → Type 0
TakesWhole q = (d : ℕ) → next q (kinds.Digit d) ≡ places.Whole

step_whole : (rules : NumberRules) (s : Scan) (n c : ℕ) → TakesWhole s.place → s.whole ≡ min n (10 ^ 23) → IsAsciiDigit c
    → step rules s c ≡ with_whole s (n * 10 + (c - 48))
step_whole rules s n c t e h =
    step_kind rules s c _ (kind_digit rules c h)
    ∙ ap (λ q. push (record s { place = q }) (kinds.Digit (c - 48))) (t (c - 48))
    ∙ ap (λ w. record s { place = places.Whole; whole = w }) (ap (λ x. min (x * 10 + (c - 48)) (10 ^ 23)) e ∙ omega arith)

run_grouped : (rules : NumberRules) (l : IsLawful rules) (s : Scan) (n : ℕ) (w : List ℕ) → TakesWhole s.place → s.whole ≡ min n (10 ^ 23)
    → IsGrouped rules.group_char w → run rules s w ≡ with_whole s (whole_value n w)
run_grouped rules l s n [] t e g = absurd g
run_grouped rules l s n (c ∷ []) t e g = step_whole rules s n c t e g ∙ ap (with_whole s) (sym (value_cons n c [] g))
run_grouped rules l s n (c ∷ d ∷ w) t e g =
    let m = n * 10 + (c - 48) in
    ap (λ s. run rules s (d ∷ w)) (step_whole rules s n c t e g.0)
    ∙ elim g.1 [
      | inl more ↦ run_grouped rules l (with_whole s m) m (d ∷ w) (λ _. refl) refl more
      | inr next ↦
          ap (λ s. run rules s w) (step_kind rules (with_whole s m) d _ (kind_group rules d l next.0))
          ∙ run_grouped rules l (record (with_whole s m) { place = places.Group }) m w (λ _. refl) refl next.1
          ∙ ap (with_whole s) (sym (value_skip m d w (free _ d l.group_char next.0).no_digit))
    ]
    ∙ ap (with_whole s) (sym (value_cons n c (d ∷ w) g.0))

-- the state after digits of the fraction
abbrev pub fractions : Scan → List ℕ → Scan
fractions s [] = s
fractions s (c ∷ cs) = fractions (push_fraction s (c - 48)) cs

step_fraction : (rules : NumberRules) (s : Scan) (c : ℕ) → ((d : ℕ) → next s.place (kinds.Digit d) ≡ places.Fraction) → IsAsciiDigit c
    → step rules s c ≡ push_fraction (record s { place = places.Fraction }) (c - 48)
step_fraction rules s c t h =
    step_kind rules s c _ (kind_digit rules c h)
    ∙ ap (λ q. push (record s { place = q }) (kinds.Digit (c - 48))) (t (c - 48))

run_fraction : (rules : NumberRules) (s : Scan) (ds : List ℕ) → s.place ≡ places.Fraction → AllByRecursion IsAsciiDigit ds
    → run rules s ds ≡ fractions (record s { place = places.Fraction }) ds
run_fraction rules s [] e h = ap (λ q. record s { place = q }) e
run_fraction rules s (c ∷ cs) e h =
    ap (λ s. run rules s cs) (step_fraction rules s c (λ d. ap (λ q. next q (kinds.Digit d)) e) h.0)
    ∙ run_fraction rules (push_fraction (record s { place = places.Fraction }) (c - 48)) cs refl h.1

run_bare : (rules : NumberRules) (s : Scan) (ds : List ℕ) → s.place ≡ places.BarePoint → ds ≢ [] → AllByRecursion IsAsciiDigit ds
    → run rules s ds ≡ fractions (record s { place = places.Fraction }) ds
run_bare rules s [] e n h = absurd (n refl)
run_bare rules s (c ∷ cs) e n h =
    ap (λ s. run rules s cs) (step_fraction rules s c (λ d. ap (λ q. next q (kinds.Digit d)) e) h.0)
    ∙ run_fraction rules (push_fraction (record s { place = places.Fraction }) (c - 48)) cs refl h.1

-- the place after a mark
abbrev mark_place : Place → Mark → Place
mark_place q marks.Plain = q
mark_place q marks.Percent = places.Mark
mark_place q marks.PerMille = places.Mark

-- a place at which a mark may stand
abbrev TakesMark : Place → Type 0
TakesMark q = (next q kinds.Percent ≡ places.Mark) × (next q kinds.PerMille ≡ places.Mark) × (ends q ≡ true)

run_mark : (rules : NumberRules) (l : IsLawful rules) (s : Scan) (m : Mark) → s.mark ≡ marks.Plain → TakesMark s.place → IsMarked rules m
    → run rules s (mark_text m) ≡ record s { place = mark_place s.place m; mark = m }
run_mark rules l s marks.Plain e t h = ap (λ m. record s { mark = m }) e
run_mark rules l s marks.Percent e t h =
    step_kind rules s 37 _ (kind_percent rules l h)
    ∙ ap (λ q. record s { place = q; mark = marks.Percent }) t.0
run_mark rules l s marks.PerMille e t h =
    step_kind rules s 0x2030 _ (kind_per_mille rules l h)
    ∙ ap (λ q. record s { place = q; mark = marks.PerMille }) t.1

mark_ends : (q : Place) (m : Mark) → TakesMark q → ends (mark_place q m) ≡ true
mark_ends q marks.Plain t = t.2
mark_ends q marks.Percent t = refl
mark_ends q marks.PerMille t = refl

abbrev pub is_minus : Sign → Bool
is_minus Minus = true
is_minus _ = false

abbrev sign_place : Sign → Place
sign_place NoSign = places.Start
sign_place _ = places.Sign

run_sign : (rules : NumberRules) (sign : Sign) → run rules begun (sign_text sign) ≡ record begun { place = sign_place sign; minus = is_minus sign }
run_sign rules NoSign = refl
run_sign rules Plus = step_kind rules begun 43 _ (kind_plus rules)
run_sign rules Minus = step_kind rules begun 45 _ (kind_minus rules)

-- the pass holds the numbers of the parts, at a place where a text may end
pub record HoldsParts (p : Parts) (s : Scan) : Type 0 where
  pub ended : ends s.place ≡ true
  pub minus : s.minus ≡ is_minus p.sign
  pub whole : s.whole ≡ min (whole_value 0 p.whole) (10 ^ 23)
  pub fraction : s.fraction ≡ (fractions begun (fraction_digits p)).fraction
  pub too_long : s.too_long ≡ (fractions begun (fraction_digits p)).too_long
  pub mark : s.mark ≡ p.mark

-- what digits of the fraction leave alone
record Keeps (s t : Scan) : Type 0 where
  pub place : t.place ≡ s.place
  pub minus : t.minus ≡ s.minus
  pub whole : t.whole ≡ s.whole
  pub mark : t.mark ≡ s.mark

fractions_keep : (s : Scan) (ds : List ℕ) → Keeps s (fractions s ds)
fractions_keep s [] = record { place = refl; minus = refl; whole = refl; mark = refl }
fractions_keep s (c ∷ cs) =
    let k = fractions_keep (push_fraction s (c - 48)) cs in
    record { place = k.place; minus = k.minus; whole = k.whole; mark = k.mark }

same_fractions : (s t : Scan) (ds : List ℕ) → s.fraction ≡ t.fraction → s.weight ≡ t.weight → s.too_long ≡ t.too_long
    → ((fractions s ds).fraction ≡ (fractions t ds).fraction) × ((fractions s ds).too_long ≡ (fractions t ds).too_long)
same_fractions s t [] f w l = (f, l)
same_fractions s t (c ∷ cs) f w l = same_fractions (push_fraction s (c - 48)) (push_fraction t (c - 48)) cs (cc) (cc) (cc)

is_some_some : (o : Option ℕ) → IsSome o → (c : ℕ) × (o ≡ Some c)
is_some_some None h = cc
is_some_some (Some c) h = (c, refl)

finish : (rules : NumberRules) (l : IsLawful rules) (p : Parts) (s : Scan) → IsMarked rules p.mark → TakesMark s.place → s.mark ≡ marks.Plain
    → s.minus ≡ is_minus p.sign → s.whole ≡ min (whole_value 0 p.whole) (10 ^ 23) → s.fraction ≡ (fractions begun (fraction_digits p)).fraction
    → s.too_long ≡ (fractions begun (fraction_digits p)).too_long → HoldsParts p (run rules s (mark_text p.mark))
finish rules l p s marked t m minus whole fraction too_long =
    let P : Scan → Type 0 = λ s. HoldsParts p s in
    subst P (sym (run_mark rules l s p.mark m t marked))
    (record { ended = mark_ends s.place p.mark t; minus = minus; whole = whole; fraction = fraction; too_long = too_long; mark = refl })

-- after the whole part
fraction_then : (rules : NumberRules) (l : IsLawful rules) (p : Parts) (s : Scan) → (q : Place) → (s.place ≡ q)
    → (run_digits : (ds : List ℕ) (t : Scan) → t.place ≡ q → p.fraction ≡ Some ds → AllByRecursion IsAsciiDigit ds
    → run rules t ds ≡ fractions (record t { place = places.Fraction }) ds) → IsMarked rules p.mark → s.mark ≡ marks.Plain → s.minus ≡ is_minus p.sign
    → s.whole ≡ min (whole_value 0 p.whole) (10 ^ 23) → s.fraction ≡ 0 → s.weight ≡ 10 ^ 17 → s.too_long ≡ false → (ds : List ℕ)
    → p.fraction ≡ Some ds → AllByRecursion IsAsciiDigit ds → HoldsParts p (run rules s (ds ++ mark_text p.mark))
fraction_then rules l p s q e run_digits marked m minus whole f w t ds is ds_ok =
    let u = fractions (record s { place = places.Fraction }) ds in
    let k = fractions_keep (record s { place = places.Fraction }) ds in
    let same = same_fractions (record s { place = places.Fraction }) begun ds f w t in
    let digits : fraction_digits p ≡ ds = ap (λ o. unwrap_or o []) is in
    let P : Scan → Type 0 = λ s. HoldsParts p s in
    subst P (sym (run-append rules s ds (mark_text p.mark) ∙ ap (λ t. run rules t (mark_text p.mark)) (run_digits ds s e is ds_ok)))
    (finish rules l p u marked (let T : Place → Type 0 = λ q. TakesMark q in subst T (sym k.place) (refl, refl, refl)) (k.mark ∙ m) (k.minus ∙ minus)
    (k.whole ∙ whole)
    (same.0 ∙ ap (λ ds. (fractions begun ds).fraction) (sym digits)) (same.1 ∙ ap (λ ds. (fractions begun ds).too_long) (sym digits)))

-- the state before the fraction: of a number with a whole part, or of one without
record Before (p : Parts) (q : Place) (s : Scan) : Type 0 where
  pub place : s.place ≡ q
  pub mark : s.mark ≡ marks.Plain
  pub minus : s.minus ≡ is_minus p.sign
  pub whole : s.whole ≡ min (whole_value 0 p.whole) (10 ^ 23)
  pub fraction : s.fraction ≡ 0
  pub weight : s.weight ≡ 10 ^ 17
  pub too_long : s.too_long ≡ false

point_then : (rules : NumberRules) (l : IsLawful rules) (p : Parts) (s : Scan) (q r : Place) → Before p q s → next q kinds.Point ≡ r
    → (run_digits : (ds : List ℕ) (t : Scan) → t.place ≡ r → p.fraction ≡ Some ds → AllByRecursion IsAsciiDigit ds
    → run rules t ds ≡ fractions (record t { place = places.Fraction }) ds) → IsMarked rules p.mark → (ds : List ℕ) → p.fraction ≡ Some ds
    → IsSome rules.decimal_char → AllByRecursion IsAsciiDigit ds → HoldsParts p (run rules s (fraction_text rules.decimal_char (Some ds) ++ mark_text p.mark))
point_then rules l p s q r b e run_digits marked ds is some ds_ok =
    let c = is_some_some rules.decimal_char some in
    let P : Option ℕ → Type 0 = λ o. HoldsParts p (run rules s (fraction_text o (Some ds) ++ mark_text p.mark)) in
    let Q : Scan → Type 0 = λ t. HoldsParts p (run rules t (ds ++ mark_text p.mark)) in
    subst P (sym c.1) (subst Q (sym (step_kind rules s c.0 _ (kind_point rules c.0 l c.1)))
    (fraction_then rules l p (record s { place = next s.place kinds.Point }) r
    (ap (λ q. next q kinds.Point) b.place ∙ e) run_digits marked b.mark b.minus b.whole b.fraction b.weight b.too_long ds is ds_ok))

-- by what the fraction is
with_fraction : (rules : NumberRules) (l : IsLawful rules) (p : Parts) (s : Scan) (f : Option (List ℕ)) → p.fraction ≡ f → IsFraction rules f
    → Before p places.Whole s → IsMarked rules p.mark → HoldsParts p (run rules s (fraction_text rules.decimal_char f ++ mark_text p.mark))
with_fraction rules l p s None is ok b marked =
    let digits : fraction_digits p ≡ [] = ap (λ o. unwrap_or o []) is in
    finish rules l p s marked (let T : Place → Type 0 = λ q. TakesMark q in subst T (sym b.place) (refl, refl, refl)) b.mark b.minus b.whole
    (b.fraction ∙ ap (λ ds. (fractions begun ds).fraction) (sym digits)) (b.too_long ∙ ap (λ ds. (fractions begun ds).too_long) (sym digits))
with_fraction rules l p s (Some ds) is ok b marked =
    point_then rules l p s places.Whole places.Fraction b refl (λ ds t e _ h. run_fraction rules t ds e h) marked ds is ok.0 ok.1

without_whole : (rules : NumberRules) (l : IsLawful rules) (p : Parts) (s : Scan) (q : Place) (f : Option (List ℕ)) → p.fraction ≡ f
    → IsFraction rules f → fraction_digits p ≢ [] → Before p q s → next q kinds.Point ≡ places.BarePoint → IsMarked rules p.mark
    → HoldsParts p (run rules s (fraction_text rules.decimal_char f ++ mark_text p.mark))
without_whole rules l p s q None is ok some b e marked = absurd (some (ap (λ o. unwrap_or o []) is))
without_whole rules l p s q (Some ds) is ok some b e marked =
    point_then rules l p s q places.BarePoint b e (λ ds t e is h. run_bare rules t ds e (λ n. some (ap (λ o. unwrap_or o []) is ∙ n)) h) marked ds is ok.0 ok.1

signed_start : Parts → Scan
signed_start p = record begun { place = sign_place p.sign; minus = is_minus p.sign }

sign_takes : (s : Sign) → TakesWhole (sign_place s) × (next (sign_place s) kinds.Point ≡ places.BarePoint)
sign_takes NoSign = (λ d. refl, refl)
sign_takes Plus = (λ d. refl, refl)
sign_takes Minus = (λ d. refl, refl)

after_sign : (rules : NumberRules) (l : IsLawful rules) (p : Parts) → IsNumber rules p
    → HoldsParts p (run rules (signed_start p) (p.whole ++ (fraction_text rules.decimal_char p.fraction ++ mark_text p.mark)))
unfolding signed_start
after_sign rules l p n =
    let tail = fraction_text rules.decimal_char p.fraction ++ mark_text p.mark in
    elim n.whole [
      | inl empty ↦
          let P : List ℕ → Type 0 = λ w. HoldsParts p (run rules (signed_start p) (w ++ tail)) in
          let w : 0 ≡ min (whole_value 0 p.whole) (10 ^ 23) = sym (ap (λ w. min (whole_value 0 w) (10 ^ 23)) empty) in
          subst P (sym empty) (without_whole rules l p (signed_start p) (sign_place p.sign) p.fraction refl n.fraction (λ e. n.not_both_missing (empty, e))
          (record { place = refl; mark = refl; minus = refl; whole = w; fraction = refl; weight = refl; too_long = refl }) (sign_takes p.sign).1 n.mark)
      | inr grouped ↦
          let P : Scan → Type 0 = λ s. HoldsParts p (run rules s tail) in
          let Q : Scan → Type 0 = λ s. HoldsParts p s in
          subst Q (sym (run-append rules (signed_start p) p.whole tail))
          (subst P (sym (run_grouped rules l (signed_start p) 0 p.whole (sign_takes p.sign).0 refl grouped))
          (with_fraction rules l p (with_whole (signed_start p) (whole_value 0 p.whole)) p.fraction refl n.fraction
          (record { place = refl; mark = refl; minus = refl; whole = refl; fraction = refl; weight = refl; too_long = refl }) n.mark))
    ]

-- of a spelled number the pass holds the parts
pub spelled_holds : (rules : NumberRules) (l : IsLawful rules) (p : Parts) → IsNumber rules p → HoldsParts p (run rules begun (text_of rules p))
unfolding signed_start
spelled_holds rules l p n =
    let tail = p.whole ++ (fraction_text rules.decimal_char p.fraction ++ mark_text p.mark) in
    let P : Scan → Type 0 = λ s. HoldsParts p s in
    subst P (sym (run-append rules begun (sign_text p.sign) tail ∙ ap (λ s. run rules s tail) (run_sign rules p.sign))) (after_sign rules l p n)

digit_place : (q : Place) (s : Scan) (d : ℕ) → (push_digit q s d).place ≡ s.place
digit_place places.Start s d = refl
digit_place places.Sign s d = refl
digit_place places.Whole s d = refl
digit_place places.Group s d = refl
digit_place places.BarePoint s d = refl
digit_place places.Fraction s d = refl
digit_place places.Mark s d = refl
digit_place places.Bad s d = refl

push_place : (s : Scan) (k : Kind) → (push s k).place ≡ s.place
push_place s kinds.Plus = refl
push_place s kinds.Minus = refl
push_place s kinds.Point = refl
push_place s kinds.Group = refl
push_place s kinds.Percent = refl
push_place s kinds.PerMille = refl
push_place s kinds.Other = refl
push_place s (kinds.Digit d) = digit_place s.place s d

-- the place of the pass is that of the places alone
pub run_place : (rules : NumberRules) (s : Scan) (cs : List ℕ) → (run rules s cs).place ≡ goes rules s.place cs
run_place rules s [] = refl
run_place rules s (c ∷ cs) = run_place rules (step rules s c) cs
    ∙ ap (λ q. goes rules q cs) (push_place (record s { place = next s.place (kind_of rules c) }) (kind_of rules c))
