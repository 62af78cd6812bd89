-- The fields of a date and its text.
use Rattle.std.proofs.Common.{◌≡◌, ℕ, ◌+◌, ◌-◌, ◌*◌, ◌<◌, ◌⊎◌, inl, inr, ⊎_elim, Bool, true, false, not, ◌&&◌, ◌==◌, cond, Option, Some, None, List}
use Rattle.std.proofs.Common.{[], ◌∷◌, ◌++◌, length, refl, sym, ap, subst, ◌∙◌, arith, append_assoc, append-nil}
use Rattle.std.specs.List.{AllByRecursion}
use Rattle.std.specs.Char.{IsAsciiDigit, is_ascii_digit}
use Rattle.std.specs.Str.Parse.{digits_value}
use Rattle.std.proofs.lemmas.Bool.{cond-true, cond-false}
use Rattle.std.proofs.lemmas.Bool.Decides.{nat_tests}
use Rattle.std.proofs.lemmas.Str.{digit_value_digit}
use Rattle.csvw_datatype_core.specs.declared.date.Separator.{Separator}
use Rattle.csvw_datatype_core.specs.declared.date.Separator.TheVariants.{Dash, Slash, Dot}
use Rattle.csvw_datatype_core.specs.declared.date.FieldDigits.{FieldDigits}
use Rattle.csvw_datatype_core.specs.declared.date.DateFormat.{DateFormat}
use Rattle.csvw_datatype_core.specs.declared.date.DateFormat.TheVariants.{YearFirst, Compact, DayFirst, MonthFirst}
use Rattle.csvw_datatype_core.specs.Dates.{separator_byte, is_padded, date_text, MayBeShort, IsField, IsDay, day_number, ReadsDate}
use Rattle.csvw_datatype_core.specs.Fields.{two_at, short_at, four_at, after_separator, at_end, date_fields, ◌>>=◌}
use Rattle.std.proofs.Common.{◌^◌, length-append, ℤ, MatchOption}
use Rattle.csvw_datatype_core.proofs.Counts.{value-after, value-below}
use Rattle.csvw_datatype_core.proofs.Answer.{value-append}
use Rattle.csvw_datatype_core.proofs.KindLemmas.{digit_test}

-- a field of k digits at the front
pub record Front (P : List ℕ → Type 0) (bs : List ℕ) (v : ℕ) (rest : List ℕ) : Type 0 where
  pub digits : List ℕ
  pub right : P digits
  pub front : bs ≡ digits ++ rest
  pub value : v ≡ digits_value 10 digits

abbrev pub Digits : ℕ → List ℕ → Type 0
Digits n ds = AllByRecursion IsAsciiDigit ds × (length ds ≡ n)

digits_long : (n : ℕ) (ds : List ℕ) → Digits n ds → length ds ≡ n
digits_long n ds h = h.1

one_digit : (a : ℕ) → Digits 1 (a ∷ []) → IsAsciiDigit a
one_digit a h = let all = h.0 in all.0

-- two digits in front of others
pub record TwoInFront (a b : ℕ) (ds : List ℕ) : Type 0 where
  pub first : IsAsciiDigit a
  pub second : IsAsciiDigit b
  pub others : AllByRecursion IsAsciiDigit ds

pub two_in_front : (a b : ℕ) (ds : List ℕ) → AllByRecursion IsAsciiDigit (a ∷ b ∷ ds) → TwoInFront a b ds
two_in_front a b ds h = let behind = h.1 in record { first = h.0; second = behind.0; others = behind.1 }

two_alone : (a b : ℕ) → IsAsciiDigit a → IsAsciiDigit b → Digits 2 (a ∷ b ∷ [])
two_alone a b h k = ((h, (k, tt)), refl)

abbrev pub Short : Bool → List ℕ → Type 0
Short padded ds = Digits 2 ds ⊎ ((padded ≡ false) × Digits 1 ds)

chosen : {A : Type 0} (b : Bool) (x y : A) (z : A) → cond b x y ≡ z → ((b ≡ true) × (x ≡ z)) ⊎ ((b ≡ false) × (y ≡ z))
chosen true x y z h = inl (refl, h)
chosen false x y z h = inr (refl, h)

both : (a b : Bool) → (a && b) ≡ true → (a ≡ true) × (b ≡ true)
both true b h = (refl, h)
both false b h = cc

is_digit : (c : ℕ) → is_ascii_digit c ≡ true → IsAsciiDigit c
is_digit c h = grind (arith, nat_tests)

pub value_two : (a b : ℕ) → IsAsciiDigit a → IsAsciiDigit b → (a - 48) * 10 + (b - 48) ≡ digits_value 10 (a ∷ b ∷ [])
value_two a b h k = omega (arith, digit_value_digit a h, digit_value_digit b k)

value_one : (a : ℕ) → IsAsciiDigit a → a - 48 ≡ digits_value 10 (a ∷ [])
value_one a h = omega (arith, digit_value_digit a h)

abbrev answer : ℕ → List ℕ → Option (ℕ × List ℕ)
answer v rest = Some (v, rest)

some_pair : (v w : ℕ) (r s : List ℕ) → answer v r ≡ answer w s → (v ≡ w) × (r ≡ s)
some_pair v w r s h = let g : Option (ℕ × List ℕ) → ℕ × List ℕ = λ o. elim o [ None ↦ (0, []) | Some x ↦ x ] in let e = ap g h in
    (ap (λ (p : ℕ × List ℕ). p.0) e, ap (λ (p : ℕ × List ℕ). p.1) e)

two_front : (a b : ℕ) (bs : List ℕ) (v : ℕ) (rest : List ℕ) → (is_ascii_digit a && is_ascii_digit b) ≡ true
    → answer ((a - 48) * 10 + (b - 48)) bs ≡ answer v rest → Front (Digits 2) (a ∷ b ∷ bs) v rest
two_front a b bs v rest t e =
    let d = both (is_ascii_digit a) (is_ascii_digit b) t in
    let p = some_pair _ _ _ _ e in
    let ha = is_digit a d.0 in
    let hb = is_digit b d.1 in
    record { digits = a ∷ b ∷ []; right = two_alone a b ha hb; front = ap (λ r. a ∷ b ∷ r) p.1; value = sym p.0 ∙ value_two a b ha hb }

not_true : (b : Bool) → not b ≡ true → b ≡ false
not_true true h = cc
not_true false h = refl

one_front : (padded : Bool) (a : ℕ) (bs : List ℕ) (v : ℕ) (rest : List ℕ) → (not padded && is_ascii_digit a) ≡ true
    → answer (a - 48) bs ≡ answer v rest → Front (Short padded) (a ∷ bs) v rest
one_front padded a bs v rest t e =
    let d = both (not padded) (is_ascii_digit a) t in
    let p = some_pair _ _ _ _ e in
    let ha = is_digit a d.1 in
    record { digits = a ∷ []; right = inr (not_true padded d.0, ((ha, tt), refl)); front = ap (λ r. a ∷ r) p.1; value = sym p.0 ∙ value_one a ha }

and_false : (b : Bool) → (b && false) ≡ false
and_false true = refl
and_false false = refl

tests : (a b : ℕ) → IsAsciiDigit a → IsAsciiDigit b → (is_ascii_digit a && is_ascii_digit b) ≡ true
tests a b h k = ap (λ x. x && is_ascii_digit b) (digit_test a h) ∙ digit_test b k

pub two_sound : (bs : List ℕ) (v : ℕ) (rest : List ℕ) → two_at bs ≡ Some (v, rest) → Front (Digits 2) bs v rest
two_sound [] v rest h = cc
two_sound (a ∷ []) v rest h = cc
two_sound (a ∷ b ∷ bs) v rest h = elim (chosen (is_ascii_digit a && is_ascii_digit b) (answer ((a - 48) * 10 + (b - 48)) bs) None (answer v rest) h)
    [ inl t ↦ two_front a b bs v rest t.0 t.1 | inr f ↦ cc ]

pub short_sound : (padded : Bool) (bs : List ℕ) (v : ℕ) (rest : List ℕ) → short_at padded bs ≡ Some (v, rest) → Front (Short padded) bs v rest
short_sound padded [] v rest h = cc
short_sound padded (a ∷ []) v rest h = elim (chosen (not padded && is_ascii_digit a) (answer (a - 48) []) None (answer v rest) h)
    [ inl t ↦ one_front padded a [] v rest t.0 t.1 | inr f ↦ cc ]
short_sound padded (a ∷ b ∷ bs) v rest h =
    let less = cond (not padded && is_ascii_digit a) (answer (a - 48) (b ∷ bs)) None in
    elim (chosen (is_ascii_digit a && is_ascii_digit b) (answer ((a - 48) * 10 + (b - 48)) bs) less (answer v rest) h) [
      | inl t ↦ let f = two_front a b bs v rest t.0 t.1 in record { digits = f.digits; right = inl f.right; front = f.front; value = f.value }
      | inr f ↦ elim (chosen (not padded && is_ascii_digit a) (answer (a - 48) (b ∷ bs)) None (answer v rest) f.1)
          [ inl t ↦ one_front padded a (b ∷ bs) v rest t.0 t.1 | inr g ↦ cc ]
    ]

pub two_again : (ds rest : List ℕ) → Digits 2 ds → two_at (ds ++ rest) ≡ Some (digits_value 10 ds, rest)
two_again [] rest h = absurd (omega (arith, h.1))
two_again (a ∷ []) rest h = absurd (omega (arith, h.1))
two_again (a ∷ b ∷ []) rest h =
    let t = two_in_front a b [] h.0 in
    cond-true _ _ _ (tests a b t.first t.second) ∙ ap (λ v. answer v rest) (value_two a b t.first t.second)
two_again (a ∷ b ∷ c ∷ ds) rest h = absurd (omega (arith, h.1))

-- a separator is no digit
pub no_digit : (by : Separator) → is_ascii_digit (separator_byte by) ≡ false
no_digit Dash = refl
no_digit Slash = refl
no_digit Dot = refl

pub short_again : (padded : Bool) (ds rest : List ℕ) (by : Separator) → Short padded ds
    → short_at padded (ds ++ (separator_byte by ∷ rest)) ≡ Some (digits_value 10 ds, separator_byte by ∷ rest)
short_again padded [] rest by h =
    ⊎_elim (λ (h : Digits 2 []). absurd (omega (arith, h.1))) (λ (h : (padded ≡ false) × Digits 1 []). absurd (omega (arith, digits_long 1 [] h.1))) h
short_again padded (a ∷ []) rest by h =
    ⊎_elim (λ (h : Digits 2 (a ∷ [])). absurd (omega (arith, h.1)))
    (λ (h : (padded ≡ false) × Digits 1 (a ∷ [])).
    let digit = one_digit a h.1 in
    cond-false _ _ _ (ap (λ x. is_ascii_digit a && x) (no_digit by) ∙ and_false _)
    ∙ cond-true _ _ _ (ap (λ p. not p && is_ascii_digit a) h.0 ∙ digit_test a digit)
    ∙ ap (λ v. answer v (separator_byte by ∷ rest)) (value_one a digit)) h
short_again padded (a ∷ b ∷ []) rest by h =
    ⊎_elim (λ (h : Digits 2 (a ∷ b ∷ [])).
    let t = two_in_front a b [] h.0 in
    cond-true _ _ _ (tests a b t.first t.second) ∙ ap (λ v. answer v (separator_byte by ∷ rest)) (value_two a b t.first t.second))
    (λ (h : (padded ≡ false) × Digits 1 (a ∷ b ∷ [])). absurd (omega (arith, digits_long 1 (a ∷ b ∷ []) h.1))) h
short_again padded (a ∷ b ∷ c ∷ ds) rest by h = ⊎_elim (λ (h : Digits 2 (a ∷ b ∷ c ∷ ds)). absurd (omega (arith, h.1)))
    (λ (h : (padded ≡ false) × Digits 1 (a ∷ b ∷ c ∷ ds)). absurd (omega (arith, digits_long 1 (a ∷ b ∷ c ∷ ds) h.1))) h

-- a step of the do-notation that gives a value
pub record Gives {A B : Type 0} (o : Option A) (f : A → Option B) (y : B) : Type 0 where
  pub value : A
  pub first_is : o ≡ Some value
  pub rest_is : f value ≡ Some y

pub bind_some : {A B : Type 0} (o : Option A) (f : A → Option B) (y : B) → (o >>= f) ≡ Some y → Gives o f y
bind_some None f y h = cc
bind_some (Some x) f y h = record { value = x; first_is = refl; rest_is = h }

-- a step that reads a number at the front of a text
pub record GivesNumber {B : Type 0} (o : Option (ℕ × List ℕ)) (f : ℕ × List ℕ → Option B) (y : B) : Type 0 where
  pub value : ℕ
  pub after : List ℕ
  pub first_is : o ≡ answer value after
  pub rest_is : f (value, after) ≡ Some y

pub bind_number : {B : Type 0} (o : Option (ℕ × List ℕ)) (f : ℕ × List ℕ → Option B) (y : B) → (o >>= f) ≡ Some y → GivesNumber o f y
bind_number None f y h = cc
bind_number (Some x) f y h = record { value = x.0; after = x.1; first_is = refl; rest_is = h }

same_test : (b c : ℕ) → (b == c) ≡ true → b ≡ c
same_test b c h = grind (arith, nat_tests)

pub separator_sound : (by : ℕ) (bs rest : List ℕ) → after_separator by bs ≡ Some rest → bs ≡ by ∷ rest
separator_sound by [] rest h = cc
separator_sound by (b ∷ bs) rest h =
    elim (chosen (b == by) (Some bs) None (Some rest) h) [
      | inl t ↦ let e : b ≡ by = same_test b by t.0 in let r : bs ≡ rest = cc (t.1) in ap (λ x. x ∷ bs) e ∙ ap (λ x. by ∷ x) r
      | inr f ↦ cc
    ]

pub separator_again : (by : ℕ) (rest : List ℕ) → after_separator by (by ∷ rest) ≡ Some rest
separator_again by rest = cond-true (by == by) _ _ (grind (arith, nat_tests))

pub end_sound : (bs : List ℕ) (u : Unit {0}) → at_end bs ≡ Some u → bs ≡ []
end_sound [] u h = refl
end_sound (b ∷ bs) u h = cc

-- four digits
pub value_four : (h l : List ℕ) → Digits 2 l → digits_value 10 h * 100 + digits_value 10 l ≡ digits_value 10 (h ++ l)
value_four h l d = sym (value-append 0 h l ∙ value-after (digits_value 10 h) l ∙ ap (λ n. digits_value 10 h * 10 ^ n + digits_value 10 l) d.1)

pub all_append : (xs ys : List ℕ) → AllByRecursion IsAsciiDigit xs → AllByRecursion IsAsciiDigit ys → AllByRecursion IsAsciiDigit (xs ++ ys)
all_append [] ys h k = k
all_append (x ∷ xs) ys h k = (h.0, all_append xs ys h.1 k)

pub four_sound : (bs : List ℕ) (v : ℕ) (rest : List ℕ) → four_at bs ≡ answer v rest → Front (Digits 4) bs v rest
four_sound bs v rest h =
    let a = bind_number (two_at bs) _ _ h in
    let b = bind_number (two_at a.after) _ _ a.rest_is in
    let f = two_sound bs a.value a.after a.first_is in
    let g = two_sound a.after b.value b.after b.first_is in
    let p = some_pair (a.value * 100 + b.value) v b.after rest b.rest_is in
    record {
      digits = f.digits ++ g.digits;
      right = (all_append f.digits g.digits f.right.0 g.right.0, length-append f.digits g.digits ∙ omega (arith, f.right.1, g.right.1));
      front = f.front ∙ ap (λ r. f.digits ++ r) (g.front ∙ ap (λ r. g.digits ++ r) p.1) ∙ sym (append_assoc f.digits g.digits rest);
      value = sym p.0 ∙ ap (λ x. x * 100 + b.value) f.value ∙ ap (λ x. digits_value 10 f.digits * 100 + x) g.value ∙ value_four f.digits g.digits g.right;
    }

pub four_again : (ds rest : List ℕ) → Digits 4 ds → four_at (ds ++ rest) ≡ answer (digits_value 10 ds) rest
four_again [] rest h = absurd (omega (arith, h.1))
four_again (a ∷ []) rest h = absurd (omega (arith, h.1))
four_again (a ∷ b ∷ []) rest h = absurd (omega (arith, h.1))
four_again (a ∷ b ∷ c ∷ []) rest h = absurd (omega (arith, h.1))
four_again (a ∷ b ∷ c ∷ d ∷ []) rest h =
    let t = two_in_front a b (c ∷ d ∷ []) h.0 in
    let u = two_in_front c d [] t.others in
    let last = two_alone c d u.first u.second in
    let high = two_again (a ∷ b ∷ []) (c ∷ d ∷ rest) (two_alone a b t.first t.second) in
    let low = two_again (c ∷ d ∷ []) rest last in
    rw (high, low) (ap (λ v. answer v rest) (value_four (a ∷ b ∷ []) (c ∷ d ∷ []) last))
four_again (a ∷ b ∷ c ∷ d ∷ e ∷ ds) rest h = absurd (omega (arith, h.1))

-- the fields that a text spells
pub record Spelled (f : DateFormat) (bs : List ℕ) (x : ℕ × ℕ × ℕ) : Type 0 where
  pub y : List ℕ
  pub m : List ℕ
  pub d : List ℕ
  pub year : Digits 4 y
  pub month : IsField f m
  pub date : IsField f d
  pub text : bs ≡ date_text f y m d
  pub y_is : x.0 ≡ digits_value 10 y
  pub m_is : x.1 ≡ digits_value 10 m
  pub d_is : x.2 ≡ digits_value 10 d

two_field : (f : DateFormat) (ds : List ℕ) → Digits 2 ds → IsField f ds
two_field f ds h = record { are_digits = h.0; count = inl h.1 }

one_field : (f : DateFormat) (ds : List ℕ) → MayBeShort f → Digits 1 ds → IsField f ds
one_field f ds may h = record { are_digits = h.0; count = inr (may, h.1) }

triple : ℕ → ℕ → ℕ → ℕ × ℕ × ℕ
triple y m d = (y, m, d)

pub some_same : (x z : ℕ × ℕ × ℕ) → Some x ≡ Some z → x ≡ z
some_same x z h = let g : Option (ℕ × ℕ × ℕ) → ℕ × ℕ × ℕ = λ o. elim o [ None ↦ (0, 0, 0) | Some x ↦ x ] in ap g h

year_first_sound : (bs : List ℕ) (x : ℕ × ℕ × ℕ) → date_fields YearFirst bs ≡ Some x → Spelled YearFirst bs x
unfolding date_fields
year_first_sound bs x h =
    let y = bind_number (four_at bs) _ _ h in
    let r = bind_some (after_separator 45 y.after) _ _ y.rest_is in
    let m = bind_number (two_at r.value) _ _ r.rest_is in
    let q = bind_some (after_separator 45 m.after) _ _ m.rest_is in
    let d = bind_number (two_at q.value) _ _ q.rest_is in
    let e = bind_some (at_end d.after) _ _ d.rest_is in
    let fy = four_sound bs y.value y.after y.first_is in
    let fm = two_sound r.value m.value m.after m.first_is in
    let fd = two_sound q.value d.value d.after d.first_is in
    let s = some_same (y.value, m.value, d.value) x e.rest_is in
    record {
      y = fy.digits;
      m = fm.digits;
      d = fd.digits;
      year = fy.right;
      month = two_field YearFirst fm.digits fm.right;
      date = two_field YearFirst fd.digits fd.right;
      text = fy.front ∙ ap (λ t. fy.digits ++ t) (separator_sound 45 y.after r.value r.first_is
          ∙ ap (λ t. 45 ∷ t) (fm.front ∙ ap (λ t. fm.digits ++ t) (separator_sound 45 m.after q.value q.first_is
          ∙ ap (λ t. 45 ∷ t) (fd.front ∙ ap (λ t. fd.digits ++ t) (end_sound d.after e.value e.first_is) ∙ append-nil fd.digits))));
      y_is = sym (ap (λ (x : ℕ × ℕ × ℕ). x.0) s) ∙ fy.value;
      m_is = sym (ap (λ (x : ℕ × ℕ × ℕ). x.1) s) ∙ fm.value;
      d_is = sym (ap (λ (x : ℕ × ℕ × ℕ). x.2) s) ∙ fd.value;
    }

year_first_again : (y m d : List ℕ) → Digits 4 y → Digits 2 m → Digits 2 d
    → date_fields YearFirst (date_text YearFirst y m d) ≡ Some (digits_value 10 y, digits_value 10 m, digits_value 10 d)
unfolding date_fields
year_first_again y m d hy hm hd =
    let a = four_again y (45 ∷ (m ++ (45 ∷ d))) hy in
    let b = two_again m (45 ∷ d) hm in
    let c = two_again d [] hd in
    let e : two_at d ≡ answer (digits_value 10 d) [] = ap two_at (sym (append-nil d)) ∙ c in
    rw (a, b, e) refl

day_first_again : (digits : FieldDigits) (by : Separator) (y m d : List ℕ) → Digits 4 y → Short (is_padded digits) m → Short (is_padded digits) d
    → date_fields (DayFirst digits by) (date_text (DayFirst digits by) y m d) ≡ Some (digits_value 10 y, digits_value 10 m, digits_value 10 d)
unfolding date_fields
day_first_again digits by y m d hy hm hd =
    let p = separator_byte by in
    let a = short_again (is_padded digits) d (m ++ (p ∷ y)) by hd in
    let s = separator_again p (m ++ (p ∷ y)) in
    let b = short_again (is_padded digits) m y by hm in
    let t = separator_again p y in
    let c = four_again y [] hy in
    let e : four_at y ≡ answer (digits_value 10 y) [] = ap four_at (sym (append-nil y)) ∙ c in
    rw (a, s, b, t, e) refl

short_field : (f : DateFormat) (padded : Bool) (ds : List ℕ) → (padded ≡ false → MayBeShort f) → Short padded ds → IsField f ds
short_field f padded ds may h = elim h [
  | inl two ↦ two_field f ds two
  | inr one ↦ one_field f ds (may one.0) one.1
]

compact_sound : (bs : List ℕ) (x : ℕ × ℕ × ℕ) → date_fields Compact bs ≡ Some x → Spelled Compact bs x
unfolding date_fields
compact_sound bs x h =
    let y = bind_number (four_at bs) _ _ h in
    let m = bind_number (two_at y.after) _ _ y.rest_is in
    let d = bind_number (two_at m.after) _ _ m.rest_is in
    let e = bind_some (at_end d.after) _ _ d.rest_is in
    let fy = four_sound bs y.value y.after y.first_is in
    let fm = two_sound y.after m.value m.after m.first_is in
    let fd = two_sound m.after d.value d.after d.first_is in
    let s = some_same (y.value, m.value, d.value) x e.rest_is in
    record {
      y = fy.digits;
      m = fm.digits;
      d = fd.digits;
      year = fy.right;
      month = two_field Compact fm.digits fm.right;
      date = two_field Compact fd.digits fd.right;
      text = fy.front ∙ ap (λ t. fy.digits ++ t)
          (fm.front ∙ ap (λ t. fm.digits ++ t) (fd.front ∙ ap (λ t. fd.digits ++ t) (end_sound d.after e.value e.first_is) ∙ append-nil fd.digits));
      y_is = sym (ap (λ (x : ℕ × ℕ × ℕ). x.0) s) ∙ fy.value;
      m_is = sym (ap (λ (x : ℕ × ℕ × ℕ). x.1) s) ∙ fm.value;
      d_is = sym (ap (λ (x : ℕ × ℕ × ℕ). x.2) s) ∙ fd.value;
    }

compact_again : (y m d : List ℕ) → Digits 4 y → Digits 2 m → Digits 2 d
    → date_fields Compact (date_text Compact y m d) ≡ Some (digits_value 10 y, digits_value 10 m, digits_value 10 d)
unfolding date_fields
compact_again y m d hy hm hd =
    let a = four_again y (m ++ d) hy in
    let b = two_again m d hm in
    let e : two_at d ≡ answer (digits_value 10 d) [] = ap two_at (sym (append-nil d)) ∙ two_again d [] hd in
    rw (a, b, e) refl

-- two fields of one or two digits, whichever comes first, and a year, with a separator between them
abbrev short_fields : Bool → ℕ → (ℕ → ℕ → ℕ → ℕ × ℕ × ℕ) → List ℕ → Option (ℕ × ℕ × ℕ)
short_fields padded by order bs = do
  a ← short_at padded bs
  rest ← after_separator by a.1
  b ← short_at padded rest
  rest ← after_separator by b.1
  y ← four_at rest
  end ← at_end y.1
  Some (order a.0 b.0 y.0)

-- they are spelled
record ShortFields (padded : Bool) (by : ℕ) (order : ℕ → ℕ → ℕ → ℕ × ℕ × ℕ) (bs : List ℕ) (x : ℕ × ℕ × ℕ) : Type 0 where
  a : List ℕ
  b : List ℕ
  y : List ℕ
  first : Short padded a
  second : Short padded b
  year : Digits 4 y
  text : bs ≡ a ++ (by ∷ (b ++ (by ∷ y)))
  are : x ≡ order (digits_value 10 a) (digits_value 10 b) (digits_value 10 y)

short_fields_sound : (padded : Bool) (by : ℕ) (order : ℕ → ℕ → ℕ → ℕ × ℕ × ℕ) (bs : List ℕ) (x : ℕ × ℕ × ℕ)
    → short_fields padded by order bs ≡ Some x → ShortFields padded by order bs x
short_fields_sound padded by order bs x h =
    let a = bind_number (short_at padded bs) _ _ h in
    let r = bind_some (after_separator by a.after) _ _ a.rest_is in
    let b = bind_number (short_at padded r.value) _ _ r.rest_is in
    let q = bind_some (after_separator by b.after) _ _ b.rest_is in
    let y = bind_number (four_at q.value) _ _ q.rest_is in
    let e = bind_some (at_end y.after) _ _ y.rest_is in
    let fa = short_sound padded bs a.value a.after a.first_is in
    let fb = short_sound padded r.value b.value b.after b.first_is in
    let fy = four_sound q.value y.value y.after y.first_is in
    record {
      a = fa.digits;
      b = fb.digits;
      y = fy.digits;
      first = fa.right;
      second = fb.right;
      year = fy.right;
      text = fa.front ∙ ap (λ t. fa.digits ++ t) (separator_sound by a.after r.value r.first_is
          ∙ ap (λ t. by ∷ t) (fb.front ∙ ap (λ t. fb.digits ++ t) (separator_sound by b.after q.value q.first_is
          ∙ ap (λ t. by ∷ t) (fy.front ∙ ap (λ t. fy.digits ++ t) (end_sound y.after e.value e.first_is) ∙ append-nil fy.digits))));
      are = sym (some_same (order a.value b.value y.value) x e.rest_is) ∙ ap (λ v. order v b.value y.value) fa.value
          ∙ ap (λ v. order (digits_value 10 fa.digits) v y.value) fb.value
          ∙ ap (λ v. order (digits_value 10 fa.digits) (digits_value 10 fb.digits) v) fy.value;
    }

day_first_sound : (digits : FieldDigits) (by : Separator) (bs : List ℕ) (x : ℕ × ℕ × ℕ) → date_fields (DayFirst digits by) bs ≡ Some x
    → Spelled (DayFirst digits by) bs x
unfolding date_fields
day_first_sound digits by bs x h =
    let s = short_fields_sound (is_padded digits) (separator_byte by) (λ d m y. (y, m, d)) bs x h in
    record {
      y = s.y;
      m = s.b;
      d = s.a;
      year = s.year;
      month = short_field (DayFirst digits by) (is_padded digits) s.b (λ e. e) s.second;
      date = short_field (DayFirst digits by) (is_padded digits) s.a (λ e. e) s.first;
      text = s.text;
      y_is = ap (λ (x : ℕ × ℕ × ℕ). x.0) s.are;
      m_is = ap (λ (x : ℕ × ℕ × ℕ). x.1) s.are;
      d_is = ap (λ (x : ℕ × ℕ × ℕ). x.2) s.are;
    }

month_first_sound : (digits : FieldDigits) (by : Separator) (bs : List ℕ) (x : ℕ × ℕ × ℕ) → date_fields (MonthFirst digits by) bs ≡ Some x
    → Spelled (MonthFirst digits by) bs x
unfolding date_fields
month_first_sound digits by bs x h =
    let s = short_fields_sound (is_padded digits) (separator_byte by) (λ m d y. (y, m, d)) bs x h in
    record {
      y = s.y;
      m = s.a;
      d = s.b;
      year = s.year;
      month = short_field (MonthFirst digits by) (is_padded digits) s.a (λ e. e) s.first;
      date = short_field (MonthFirst digits by) (is_padded digits) s.b (λ e. e) s.second;
      text = s.text;
      y_is = ap (λ (x : ℕ × ℕ × ℕ). x.0) s.are;
      m_is = ap (λ (x : ℕ × ℕ × ℕ). x.1) s.are;
      d_is = ap (λ (x : ℕ × ℕ × ℕ). x.2) s.are;
    }

month_first_again : (digits : FieldDigits) (by : Separator) (y m d : List ℕ) → Digits 4 y → Short (is_padded digits) m → Short (is_padded digits) d
    → date_fields (MonthFirst digits by) (date_text (MonthFirst digits by) y m d) ≡ Some (digits_value 10 y, digits_value 10 m, digits_value 10 d)
unfolding date_fields
month_first_again digits by y m d hy hm hd =
    let p = separator_byte by in
    let a = short_again (is_padded digits) m (d ++ (p ∷ y)) by hm in
    let s = separator_again p (d ++ (p ∷ y)) in
    let b = short_again (is_padded digits) d y by hd in
    let t = separator_again p y in
    let e : four_at y ≡ answer (digits_value 10 y) [] = ap four_at (sym (append-nil y)) ∙ four_again y [] hy in
    rw (a, s, b, t, e) refl

-- what is found in a text is spelled there
pub fields_sound : (f : DateFormat) (bs : List ℕ) (x : ℕ × ℕ × ℕ) → date_fields f bs ≡ Some x → Spelled f bs x
fields_sound YearFirst bs x h = year_first_sound bs x h
fields_sound Compact bs x h = compact_sound bs x h
fields_sound (DayFirst digits by) bs x h = day_first_sound digits by bs x h
fields_sound (MonthFirst digits by) bs x h = month_first_sound digits by bs x h

padded_field : (f : DateFormat) (ds : List ℕ) → (MayBeShort f → ⊥) → IsField f ds → Digits 2 ds
padded_field f ds never h = elim h.count [ inl two ↦ (h.are_digits, two) | inr one ↦ absurd (never one.0) ]

field_short : (f : DateFormat) (padded : Bool) (ds : List ℕ) → (MayBeShort f → padded ≡ false) → IsField f ds → Short padded ds
field_short f padded ds may h = elim h.count [ inl two ↦ inl (h.are_digits, two) | inr one ↦ inr (may one.0, (h.are_digits, one.1)) ]

-- what is spelled is found
pub fields_again : (f : DateFormat) (y m d : List ℕ) → Digits 4 y → IsField f m → IsField f d
    → date_fields f (date_text f y m d) ≡ Some (digits_value 10 y, digits_value 10 m, digits_value 10 d)
fields_again YearFirst y m d hy hm hd = year_first_again y m d hy (padded_field YearFirst m (λ e. e) hm) (padded_field YearFirst d (λ e. e) hd)
fields_again Compact y m d hy hm hd = compact_again y m d hy (padded_field Compact m (λ e. e) hm) (padded_field Compact d (λ e. e) hd)
fields_again (DayFirst digits by) y m d hy hm hd = day_first_again digits by y m d hy
    (field_short (DayFirst digits by) (is_padded digits) m (λ e. e) hm) (field_short (DayFirst digits by) (is_padded digits) d (λ e. e) hd)
fields_again (MonthFirst digits by) y m d hy hm hd = month_first_again digits by y m d hy
    (field_short (MonthFirst digits by) (is_padded digits) m (λ e. e) hm) (field_short (MonthFirst digits by) (is_padded digits) d (λ e. e) hd)

pub digits_small : (n : ℕ) (ds : List ℕ) → Digits n ds → digits_value 10 ds < 10 ^ n
digits_small n ds h = let P : ℕ → Type 0 = λ n. digits_value 10 ds < 10 ^ n in subst P h.1 (value-below ds h.0)

field_small : (f : DateFormat) (ds : List ℕ) → IsField f ds → digits_value 10 ds < 100
field_small f ds h = elim h.count [
  | inl two ↦ digits_small 2 ds (h.are_digits, two)
  | inr one ↦ let s : digits_value 10 ds < 10 = digits_small 1 ds (h.are_digits, one.1) in omega arith
]

-- what is found is small
pub fields_small : (f : DateFormat) (bs : List ℕ) (x : ℕ × ℕ × ℕ) → date_fields f bs ≡ Some x → (x.0 < 10000) × (x.1 < 100) × (x.2 < 100)
fields_small f bs x h =
    let s = fields_sound f bs x h in
    let y = digits_small 4 s.y s.year in
    let m = field_small f s.m s.month in
    let d = field_small f s.d s.date in
    (omega (arith, s.y_is, y), omega (arith, s.m_is, m), omega (arith, s.d_is, d))

-- what a text reads as is found in it
pub reads_fields : (f : DateFormat) (text : List ℕ) (day : ℤ) → (r : ReadsDate f text day)
    → date_fields f text ≡ Some (digits_value 10 r.y, digits_value 10 r.m, digits_value 10 r.d)
reads_fields f text day r = ap (date_fields f) r.spelled ∙ fields_again f r.y r.m r.d r.year r.month r.date

pub reads_of : (f : DateFormat) (text : List ℕ) (y m d : ℕ) (day : ℤ) → date_fields f text ≡ Some (y, m, d) → IsDay y m d → day ≡ day_number y m d
    → ReadsDate f text day
reads_of f text y m d day h ok e =
    let s = fields_sound f text (y, m, d) h in
    let P : ℕ → ℕ → ℕ → Type 0 = λ y m d. IsDay y m d × (day ≡ day_number y m d) in
    let Q : ℕ → Type 0 = λ x. P x m d in
    let R : ℕ → Type 0 = λ x. P (digits_value 10 s.y) x d in
    let S : ℕ → Type 0 = λ x. P (digits_value 10 s.y) (digits_value 10 s.m) x in
    let all = subst S s.d_is (subst R s.m_is (subst Q s.y_is (ok, e))) in
    record { y = s.y; m = s.m; d = s.d; year = s.year; month = s.month; date = s.date; spelled = s.text; is_day = all.0; is_value = all.1 }

pub no_reads : (f : DateFormat) (text : List ℕ) (y m d : ℕ) → date_fields f text ≡ Some (y, m, d) → (IsDay y m d → ⊥) → (day : ℤ) → ReadsDate f text day → ⊥
no_reads f text y m d h never day r =
    let same = some_same (y, m, d) (digits_value 10 r.y, digits_value 10 r.m, digits_value 10 r.d) (sym h ∙ reads_fields f text day r) in
    let P : ℕ × ℕ × ℕ → Type 0 = λ x. IsDay x.0 x.1 x.2 in
    never (subst P (sym same) r.is_day)

pub no_fields : (f : DateFormat) (text : List ℕ) → date_fields f text ≡ None → (day : ℤ) → ReadsDate f text day → ⊥
no_fields f text h day r = let e = reads_fields f text day r in cc

pub day_answer : (f : DateFormat) (text : List ℕ) (y m d : ℕ) (o : Option ℤ) → date_fields f text ≡ Some (y, m, d)
    → MatchOption o (IsDay y m d → ⊥) (λ n. IsDay y m d × (n ≡ day_number y m d)) → MatchOption o ((day : ℤ) → ReadsDate f text day → ⊥) (ReadsDate f text)
day_answer f text y m d None h a = no_reads f text y m d h a
day_answer f text y m d (Some n) h a = reads_of f text y m d n h a.0 a.1
