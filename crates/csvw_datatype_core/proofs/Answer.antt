-- `count` returns the count of the number that the text spells, if there is one.
use Rattle.std.proofs.Common.{◌≡◌, ◌≢◌, ℕ, ◌+◌, ◌*◌, ◌/◌, ◌%◌, ◌^◌, ◌≤◌, ◌<◌, min, List, [], ◌∷◌, ◌++◌, length, refl, sym, ap, subst, ◌∙◌, Bool, true}
use Rattle.std.proofs.Common.{false, cond, Option, Some, None, inl, inr, ⊎_elim, ◌⊎◌, arith, ◌||◌, not, ◌==◌, filter, nat_le, unwrap_or, lit≤}
use Rattle.std.proofs.Common.{mul-le-mul_right}
use Rattle.std.specs.List.{AllByRecursion}
use Rattle.std.specs.Char.{IsAsciiDigit, is_ascii_digit, digit_value}
use Rattle.std.specs.Str.Parse.{digits_value, digits_value_after}
use Rattle.std.proofs.lemmas.Bool.{cases_Bool, cond_both, cases_lt}
use Rattle.std.proofs.lemmas.Bool.Decides.{nat_tests}
use Rattle.std.proofs.Math.Nat.{mul-mod_left, mul-div_cancel, mul-lt-mul_of_pos_right, lt_of_mul-lt-mul_right, add-mul-mod_self_right}
use Rattle.std.proofs.lemmas.Nat.{div-add-mod'}
use Rattle.csvw_datatype_core.specs.declared.number.Mark.{Mark}
use Rattle.csvw_datatype_core.specs.declared.number.Mark.TheVariants as marks
use Rattle.csvw_datatype_core.specs.declared.number.Scan.{Scan}
use Rattle.csvw_datatype_core.specs.Step.{begun, count_of}
use Rattle.csvw_datatype_core.specs.Numbers.{Parts, IsCount, IsFraction, IsNumber, fraction_digits, digits_of, divisor}
use Rattle.csvw_datatype_core.specs.declared.number.NumberRules.{NumberRules}
use Rattle.csvw_datatype_core.proofs.Spelled.{HoldsParts, fractions, whole_value}
use Rattle.csvw_datatype_core.proofs.Counts.{value-after, value-below, fraction_count, no_count, pow_is_pos}

pub value-append : (a : ℕ) (xs ds : List ℕ) → digits_value_after 10 a (xs ++ ds) ≡ digits_value_after 10 (digits_value_after 10 a xs) ds
value-append a [] ds = refl
value-append a (x ∷ xs) ds = value-append (a * 10 + digit_value x) xs ds

-- the number of all digits
pub digits_split : (p : Parts) → digits_value 10 (digits_of p) ≡ whole_value 0 p.whole * 10 ^ length (fraction_digits p) + digits_value 10 (fraction_digits p)
digits_split p = value-append 0 (filter is_ascii_digit p.whole) (fraction_digits p) ∙ value-after _ (fraction_digits p)

of_option : (rules : NumberRules) (o : Option (List ℕ)) → IsFraction rules o → AllByRecursion IsAsciiDigit (unwrap_or o [])
of_option rules None h = tt
of_option rules (Some ds) h = h.1

-- the fraction has digits alone
pub are_digits : (rules : NumberRules) (p : Parts) → IsNumber rules p → AllByRecursion IsAsciiDigit (fraction_digits p)
are_digits rules p n = of_option rules p.fraction n.fraction

-- the answer for the parts
abbrev pub IsAnswer : Parts → Option ℕ → Type 0
IsAnswer p None = (m : ℕ) → m < 10 ^ 38 → IsCount p m → ⊥
IsAnswer p (Some n) = (n < 10 ^ 38) × IsCount p n

-- with u units in a whole and d in a unit
found : (w u f d p v g t : ℕ) → u * d ≡ t → f * d ≡ g → g * p ≡ v * t → (w * u + f) * (p * d) ≡ (w * p + v) * t
found w u f d p v g t a b c =
    let x : (w * u + f) * (p * d) ≡ (w * p) * (u * d) + (f * d) * p = omega arith in
    x ∙ ap (λ y. (w * p) * y + (f * d) * p) a ∙ ap (λ y. (w * p) * t + y * p) b ∙ ap (λ y. (w * p) * t + y) c ∙ omega arith

-- the fraction is below one
small_part : (g p v t : ℕ) → g * p ≡ v * t → v < p → 0 < t → g < t
small_part g p v t e l h = ⊎_elim (λ (k : g < t). k)
    (λ (k : t ≤ g). absurd (let a = mul-le-mul_right p k in let b = mul-lt-mul_of_pos_right l h in omega (arith, a, b))) (cases_lt g t)

bound : (w u f d k t : ℕ) → w < k * d → f < u → u * d ≡ t → w * u + f < k * t
bound w u f d k t a b e = let c = mul-le-mul_right u a in rw (← e) (omega (arith, c))

quotient : (f d : ℕ) → f % d ≡ 0 → f / d * d ≡ f
quotient f d e = let q = div-add-mod' f d in omega (arith, q, e)

below_unit : (f u d t : ℕ) → f * d < t → u * d ≡ t → f < u
below_unit f u d t a e = lt_of_mul-lt-mul_right d (rw e a)

-- the tests of `count`, in turn
or_cases : (a b : Bool) → (a || b) ≡ true → (a ≡ true) ⊎ (b ≡ true)
or_cases true b h = inl refl
or_cases false b h = inr h

or_none : (a b : Bool) → (a || b) ≡ false → (a ≡ false) × (b ≡ false)
or_none true b h = cc
or_none false b h = (refl, h)

too_large : (m w p v d k t : ℕ) → m * (p * d) ≡ (w * p + v) * t → k * d ≤ w → 0 < p * d → m < k * t → ⊥
too_large m w p v d k t e a h l =
    let x = mul-le-mul_right (p * t) a in
    let y = mul-lt-mul_of_pos_right l h in
    omega (arith, x, y, e)

no_multiple_sum : (m w p v d u t g : ℕ) → m * (p * d) ≡ (w * p + v) * t → g * p ≡ v * t → u * d ≡ t → m * d * p ≡ (g + w * u * d) * p
no_multiple_sum m w p v d u t g e c a =
    let x : (w * p + v) * t ≡ w * p * t + g * p = omega (arith, c) in
    let y : w * p * t ≡ w * u * d * p = ap (λ t. w * p * t) (sym a) ∙ omega arith in
    omega (arith, e, x, y)

pub cancel : (a b p : ℕ) → 0 < p → a * p ≡ b * p → a ≡ b
cancel a b p h e = sym (mul-div_cancel a h) ∙ ap (λ z. z / p) e ∙ mul-div_cancel b h

no_multiple : (m w p v d u t g : ℕ) → m * (p * d) ≡ (w * p + v) * t → g * p ≡ v * t → u * d ≡ t → 0 < p → g % d ≡ 0
no_multiple m w p v d u t g e c a h =
    let s : m * d * p ≡ (g + w * u * d) * p = no_multiple_sum m w p v d u t g e c a in
    let q : m * d ≡ g + w * u * d = cancel _ _ p h s in
    sym (add-mul-mod_self_right g (w * u) d) ∙ ap (λ z. z % d) (sym q) ∙ mul-mod_left m d

regroup : (m d w p v t : ℕ) → m * (p * d) ≡ (w * p + v) * t → m * d * p ≡ w * t * p + v * t
regroup m d w p v t e = omega arith

pub pos_mul : (p d : ℕ) → 0 < p → 0 < d → 0 < p * d
pos_mul p d a b = omega (arith, mul-lt-mul_of_pos_right a b)

-- the numbers behind the tests, for a mark that divides by d, with u units in a whole
record Numbers (p : Parts) (s : Scan) (d u : ℕ) : Type 0 where
  pub positive : 0 < d
  pub small : 10 ^ 20 * d ≤ 10 ^ 23
  pub units : u * d ≡ 10 ^ 18
  pub whole : s.whole ≡ min (whole_value 0 p.whole) (10 ^ 23)
  pub fraction : s.fraction ≡ (fractions begun (fraction_digits p)).fraction
  pub too_long : s.too_long ≡ (fractions begun (fraction_digits p)).too_long
  pub digits : AllByRecursion IsAsciiDigit (fraction_digits p)

abbrev IsCountBy : Parts → ℕ → ℕ → Type 0
IsCountBy p d n = n * (10 ^ length (fraction_digits p) * d) ≡ digits_value 10 (digits_of p) * 10 ^ 18

abbrev IsAnswerBy : Parts → ℕ → Option ℕ → Type 0
IsAnswerBy p d None = (m : ℕ) → m < 10 ^ 38 → IsCountBy p d m → ⊥
IsAnswerBy p d (Some n) = (n < 10 ^ 38) × IsCountBy p d n

split_count : (p : Parts) (d m : ℕ) → IsCountBy p d m → m * (10 ^ length (fraction_digits p) * d)
    ≡ (whole_value 0 p.whole * 10 ^ length (fraction_digits p) + digits_value 10 (fraction_digits p)) * 10 ^ 18
split_count p d m e = e ∙ ap (λ x. x * 10 ^ 18) (digits_split p)

held_fraction : (p : Parts) (s : Scan) (d u : ℕ) → Numbers p s d u → s.too_long ≡ false
    → s.fraction * 10 ^ length (fraction_digits p) ≡ digits_value 10 (fraction_digits p) * 10 ^ 18
held_fraction p s d u n t = ap (λ f. f * 10 ^ length (fraction_digits p)) n.fraction
    ∙ fraction_count 18 begun (fraction_digits p) refl n.digits (sym n.too_long ∙ t) ∙ omega arith

is_found : (p : Parts) (s : Scan) (d u : ℕ) → Numbers p s d u → s.too_long ≡ false → s.whole < 10 ^ 20 * d → s.fraction % d ≡ 0
    → IsAnswerBy p d (Some (s.whole * u + s.fraction / d))
is_found p s d u n t w r =
    let whole : s.whole ≡ whole_value 0 p.whole = omega (arith, n.whole, n.small) in
    let held = held_fraction p s d u n t in
    let quot = quotient s.fraction d r in
    let small : s.fraction < 10 ^ 18 =
    small_part s.fraction (10 ^ length (fraction_digits p)) _ (10 ^ 18) held (value-below (fraction_digits p) n.digits) (pow_is_pos 18) in (
      bound s.whole u (s.fraction / d) d (10 ^ 20) (10 ^ 18) w (below_unit (s.fraction / d) u d (10 ^ 18) (rw quot small) n.units) n.units,
      found s.whole u (s.fraction / d) d (10 ^ length (fraction_digits p)) (digits_value 10 (fraction_digits p)) s.fraction (10 ^ 18) n.units quot held
          ∙ ap (λ w. (w * 10 ^ length (fraction_digits p) + digits_value 10 (fraction_digits p)) * 10 ^ 18) whole
          ∙ sym (ap (λ x. x * 10 ^ 18) (digits_split p)),
    )

too_many_places : (p : Parts) (s : Scan) (d u : ℕ) → Numbers p s d u → s.too_long ≡ true → IsAnswerBy p d None
too_many_places p s d u n t m _ e =
    no_count 18 begun (fraction_digits p) refl refl n.digits (sym n.too_long ∙ t) (m * d) (whole_value 0 p.whole * 10 ^ 18)
    (regroup m d _ _ _ (10 ^ 18) (split_count p d m e))

is_too_large : (p : Parts) (s : Scan) (d u : ℕ) → Numbers p s d u → 10 ^ 20 * d ≤ s.whole → IsAnswerBy p d None
is_too_large p s d u n w m l e =
    too_large m (whole_value 0 p.whole) (10 ^ length (fraction_digits p)) _ d (10 ^ 20) (10 ^ 18) (split_count p d m e) (omega (arith, n.whole))
    (pos_mul _ d (pow_is_pos _) n.positive) l

is_no_multiple : (p : Parts) (s : Scan) (d u : ℕ) → Numbers p s d u → s.too_long ≡ false → s.fraction % d ≢ 0 → IsAnswerBy p d None
is_no_multiple p s d u n t r m _ e =
    r (no_multiple m (whole_value 0 p.whole) (10 ^ length (fraction_digits p)) _ d u (10 ^ 18) s.fraction (split_count p d m e)
    (held_fraction p s d u n t) n.units (pow_is_pos _))

count_by : Scan → ℕ → ℕ → Option ℕ
count_by s d u = cond (s.too_long || (nat_le (10 ^ 20 * d) s.whole || not (s.fraction % d == 0))) None (Some (s.whole * u + s.fraction / d))

answer_by : (p : Parts) (s : Scan) (d u : ℕ) → Numbers p s d u → IsAnswerBy p d (count_by s d u)
unfolding count_by
answer_by p s d u n =
    let P : Option ℕ → Type 0 = λ o. IsAnswerBy p d o in
    cond_both _ _ _ P
    (λ yes. ⊎_elim (λ (t : s.too_long ≡ true). too_many_places p s d u n t)
    (λ (f : s.too_long ≡ false).
    ⊎_elim (λ (a : nat_le (10 ^ 20 * d) s.whole ≡ true). is_too_large p s d u n (grind (arith, nat_tests)))
    (λ (b : not (s.fraction % d == 0) ≡ true). is_no_multiple p s d u n f (grind (arith, nat_tests)))
    (or_cases (nat_le (10 ^ 20 * d) s.whole) (not (s.fraction % d == 0))
    (sym (ap (λ t. t || (nat_le (10 ^ 20 * d) s.whole || not (s.fraction % d == 0))) f) ∙ yes)))
    (cases_Bool s.too_long))
    (λ no.
    let a = or_none s.too_long (nat_le (10 ^ 20 * d) s.whole || not (s.fraction % d == 0)) no in
    let b = or_none (nat_le (10 ^ 20 * d) s.whole) (not (s.fraction % d == 0)) a.1 in
    let w = b.0 in
    let r = b.1 in
    is_found p s d u n a.0 (grind (arith, nat_tests)) (grind (arith, nat_tests)))

-- by the mark
answer_mark : (p : Parts) (s : Scan) (m : Mark) → p.mark ≡ m → ((d u : ℕ) → 0 < d → 10 ^ 20 * d ≤ 10 ^ 23 → u * d ≡ 10 ^ 18 → Numbers p s d u)
    → IsAnswerBy p (divisor m) (count_by s (divisor m) (10 ^ 18 / divisor m))
answer_mark p s marks.Plain e n = answer_by p s 1 (10 ^ 18) (n 1 (10 ^ 18) (lit≤ tt) (lit≤ tt) refl)
answer_mark p s marks.Percent e n = answer_by p s 100 (10 ^ 16) (n 100 (10 ^ 16) (lit≤ tt) (lit≤ tt) refl)
answer_mark p s marks.PerMille e n = answer_by p s 1000 (10 ^ 15) (n 1000 (10 ^ 15) (lit≤ tt) (lit≤ tt) refl)

of_answer : (p : Parts) (o : Option ℕ) → IsAnswerBy p (divisor p.mark) o → IsAnswer p o
of_answer p None h = h
of_answer p (Some n) h = h

-- what `count` answers of the parts that the pass holds
pub count_answers : (rules : NumberRules) (p : Parts) (s : Scan) → IsNumber rules p → HoldsParts p s → IsAnswer p (count_of s)
unfolding count_by
count_answers rules p s n h =
    let P : Mark → Type 0 = λ m. IsAnswerBy p (divisor p.mark) (count_by s (divisor m) (10 ^ 18 / divisor m)) in
    let a = answer_mark p s p.mark refl (λ d u x y z. record
    { positive = x; small = y; units = z; whole = h.whole; fraction = h.fraction; too_long = h.too_long; digits = are_digits rules p n }) in
    of_answer p _ (subst P (sym h.mark) a)
