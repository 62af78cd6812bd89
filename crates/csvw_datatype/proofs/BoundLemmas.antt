-- The bounds that texts and whole numbers are.
use Rattle.std.proofs.Common.{◌≡◌, ◌↔◌, ℕ, ◌<◌, ◌%◌, ◌^◌, ◌&&◌, not, nat_lt, Bool, true, false, cond, Option, Some, None, MatchOption, IfSome}
use Rattle.std.proofs.Common.{option_and_then, List, is_some, refl, sym, ap, subst, ◌∙◌, arith, ℤ, pos, ◌*ℤ◌, ◌≤ℤ◌, unsigned_abs}
use Rattle.std.specs.Prelude.{IsTrue}
use Rattle.std.specs.Str.{chars}
use lib.Signed.{lt_z}
use Rattle.std.proofs.lemmas.Bool.Decides.{nat_tests}
use Rattle.std.proofs.lemmas.Int.{ints, by_lt_z, unsigned_abs-mul}
use Rattle.std.proofs.Math.Nat.{mul-mod_left}
use Rattle.csvw_datatype_core.specs.declared.number.NumberRules.{NumberRules}
use Rattle.csvw_datatype_core.specs.declared.date.DateFormat.{DateFormat}
use Rattle.csvw_datatype_core.specs.declared.date.DateFormat.TheVariants.{YearFirst}
use Rattle.csvw_datatype_core.specs.declared.moment.MomentFormat.{MomentFormat}
use Rattle.csvw_datatype_core.specs.declared.moment.MomentFormat.TheVariants.{Seconds}
use Rattle.csvw_datatype_core.specs.Numbers.{IsLawful, ReadsNumber}
use Rattle.csvw_datatype_core.specs.Dates.{ReadsDate}
use Rattle.csvw_datatype_core.specs.Moments.{ReadsMoment}
use Rattle.csvw_datatype_core.specs.Values.{number_value, date_value, moment_value}
use Rattle.csvw_datatype.specs.declared.value.Value.{Value}
use Rattle.csvw_datatype.specs.declared.value.Value.TheVariants as values
use Rattle.csvw_datatype.specs.declared.simple.Simple.{Simple}
use Rattle.csvw_datatype.specs.declared.simple.Simple.TheVariants as simples
use Rattle.csvw_datatype.specs.declared.simple.TextType.{TextType}
use Rattle.csvw_datatype.specs.declared.simple.Width.{Width}
use Rattle.csvw_datatype.specs.declared.simple.Floating.{Floating}
use Rattle.csvw_double.specs.Forms.{double_form}
use Rattle.std.specs.Fmt.{signed_decimal}
use Rattle.csvw_datatype.specs.declared.format.Format.{Format}
use Rattle.csvw_datatype.specs.Widths.{least, greatest, in_units, IsFrom, IsTo, IsInWidth}
use Rattle.csvw_datatype.specs.Strings.{is_ordered}
use Rattle.csvw_datatype.specs.TextValues.{text_value}
use Rattle.csvw_datatype.specs.Reads.{ReadsAs, whole_rules, decimal_rules}
use Rattle.csvw_datatype.specs.Sound.{IsBoundOf, has_bounds, IsNumberSize, IsWholeNumber}
use Rattle.csvw_datatype.specs.Bounds.{is_from, is_to, is_in_width, number_bound, day_bound, moment_bound, double_bound, whole_bound, bound_of, bound_of_whole}
use Rattle.csvw_datatype.proofs.FormatLemmas.{whole_lawful, decimal_lawful}
use Rattle.csvw_datatype.proofs.LawLemmas.{FormsStay, OneNumber}

-- tests

at_most : (a b : ℤ) → IsTrue (not (lt_z b a)) ↔ (a ≤ℤ b)
at_most a b =
    by_lt_z b a (λ l. (λ h. grind (arith, ints, nat_tests), λ k. absurd (omega (arith, ints, l, k))))
    (λ l. (λ h. l, λ k. grind (arith, ints, nat_tests)))

from_test : (o : Option ℤ) (z : ℤ) → IsTrue (is_from o z) ↔ IsFrom o z
from_test None z = (λ h. tt, λ h. refl)
from_test (Some low) z = at_most low z

to_test : (o : Option ℤ) (z : ℤ) → IsTrue (is_to o z) ↔ IsTo o z
to_test None z = (λ h. tt, λ h. refl)
to_test (Some high) z = at_most z high

both_test : (a b : Bool) (P Q : Type 0) → IsTrue a ↔ P → IsTrue b ↔ Q → IsTrue (a && b) ↔ (P × Q)
both_test true b P Q p q = (λ h. (p.0 refl, q.0 h), λ h. q.1 h.1)
both_test false b P Q p q = (λ h. cc, λ h. let k = p.1 h.0 in cc)

width_test : (w : Width) (z : ℤ) → IsTrue (is_in_width w z) ↔ IsInWidth w z
width_test w z = both_test _ _ _ _ (from_test (in_units (least w)) z) (to_test (in_units (greatest w)) z)

-- the laws of csvw_datatype_core: numbers, days and moments are given by functions

abbrev NumbersGiven : Type 0
NumbersGiven = (rules : NumberRules) (cs : List ℕ) → IsLawful rules
    → MatchOption (number_value rules cs) ((z : ℤ) → ReadsNumber rules cs z → ⊥) (ReadsNumber rules cs)

abbrev DatesGiven : Type 0
DatesGiven = (f : DateFormat) (text : List ℕ) → MatchOption (date_value f text) ((day : ℤ) → ReadsDate f text day → ⊥) (ReadsDate f text)

abbrev MomentsGiven : Type 0
MomentsGiven = (f : MomentFormat) (text : List ℕ)
    → MatchOption (moment_value f text) ((moment : ℤ) → ReadsMoment f text moment → ⊥) (ReadsMoment f text)

-- the bound of a text is the text's value, or there is none, and the text is none
abbrev IsBoundGiven : Simple → List ℕ → Option Value → Type 0
IsBoundGiven s text o = MatchOption o ((v : Value) → ReadsAs s None text v → ⊥) (ReadsAs s None text)

abbrev IsNumberGiven : NumberRules → List ℕ → Option ℤ → Type 0
IsNumberGiven rules cs o = MatchOption o ((z : ℤ) → ReadsNumber rules cs z → ⊥) (ReadsNumber rules cs)

whole_given : (text : List ℕ) (o : Option ℤ) → IsNumberGiven (whole_rules None) (chars text) o
    → IsBoundGiven simples.Whole text (option_and_then (number_bound simples.Whole) o)
whole_given text None h = λ v r. h r.0 r.1.0
whole_given text (Some z) h = (z, (h, refl), refl)

decimal_given : (text : List ℕ) (o : Option ℤ) → IsNumberGiven (decimal_rules None) (chars text) o
    → IsBoundGiven simples.Decimal text (option_and_then (number_bound simples.Decimal) o)
decimal_given text None h = λ v r. h r.0 r.1.0
decimal_given text (Some z) h = (z, (h, refl), refl)

-- no other number of the text is in the range
outside : OneNumber → (w : Width) (text : List ℕ) (z : ℤ) → ReadsNumber (whole_rules None) (chars text) z → is_in_width w z ≡ false
    → (v : Value) → ReadsAs (simples.Derived w) None text v → ⊥
outside one w text z h never v r =
    let P : ℤ → Type 0 = λ y. IsInWidth w y in
    let k = (width_test w z).1 (subst P (one (whole_rules None) (chars text) r.0 z (whole_lawful None tt) r.1.0 h) r.2) in
    cc

in_range_given : OneNumber → (w : Width) (text : List ℕ) (z : ℤ) (b : Bool) → ReadsNumber (whole_rules None) (chars text) z
    → is_in_width w z ≡ b → IsBoundGiven (simples.Derived w) text (cond b (Some (values.Number z)) None)
in_range_given one w text z true h is = (z, (h, refl), (width_test w z).0 is, refl)
in_range_given one w text z false h is = outside one w text z h is

derived_given : OneNumber → (w : Width) (text : List ℕ) (o : Option ℤ) → IsNumberGiven (whole_rules None) (chars text) o
    → IsBoundGiven (simples.Derived w) text (option_and_then (number_bound (simples.Derived w)) o)
derived_given one w text None h = λ v r. h r.0 r.1.0
derived_given one w text (Some z) h = in_range_given one w text z _ h refl

day_given : (text : List ℕ) (o : Option ℤ) → MatchOption o ((day : ℤ) → ReadsDate YearFirst text day → ⊥) (ReadsDate YearFirst text)
    → IsBoundGiven simples.Day text (option_and_then day_bound o)
day_given text None h = λ v r. h r.0 r.1
day_given text (Some z) h = (z, h, refl)

moment_given : (text : List ℕ) (o : Option ℤ)
    → MatchOption o ((moment : ℤ) → ReadsMoment Seconds text moment → ⊥) (ReadsMoment Seconds text)
    → IsBoundGiven simples.Moment text (option_and_then moment_bound o)
moment_given text None h = λ v r. h r.0 r.1
moment_given text (Some z) h = (z, h, refl)

double_given : (f : Floating) (text : List ℕ) (o : Option (List ℕ)) → double_form text ≡ o
    → IsBoundGiven (simples.Floating f) text (option_and_then double_bound o)
double_given f text None is = λ v r. let none = sym is ∙ r.1 in cc
double_given f text (Some form) is = (form, is, refl)

text_given : (t : TextType) (text : List ℕ) (b : Bool) (o : Option Value) → text_value t None text ≡ o → is_ordered t ≡ b → b ≡ true
    → IsBoundGiven (simples.Other t) text (cond b o None)
text_given t text false o is of h = cc
text_given t text true None is of h = λ v r. let none = sym is ∙ r in cc
text_given t text true (Some v) is of h = is

module _ (numbers : NumbersGiven) (dates : DatesGiven) (moments : MomentsGiven) (one : OneNumber) where
  pub bound_given : (s : Simple) (text : List ℕ) → has_bounds s ≡ true → IsBoundGiven s text (bound_of s text)
  unfolding bound_of
  bound_given simples.Whole text h = whole_given text _ (numbers (whole_rules None) (chars text) (whole_lawful None tt))
  bound_given (simples.Derived w) text h = derived_given one w text _ (numbers (whole_rules None) (chars text) (whole_lawful None tt))
  bound_given simples.Decimal text h = decimal_given text _ (numbers (decimal_rules None) (chars text) (decimal_lawful None tt))
  bound_given simples.Day text h = day_given text _ (dates YearFirst text)
  bound_given simples.Moment text h = moment_given text _ (moments Seconds text)
  bound_given simples.Text text h = cc
  bound_given simples.Uri text h = cc
  bound_given (simples.Other t) text h = text_given t text (is_ordered t) (text_value t None text) refl refl h
  bound_given (simples.Floating t) text h = double_given t text (double_form text) refl
  bound_given simples.Truth text h = cc

-- two answers of one text are the same, where a text has one value at most
pub same_answer : (P : ℤ → Type 0) → ((a b : ℤ) → P a → P b → a ≡ b) → (o p : Option ℤ) → MatchOption o ((z : ℤ) → P z → ⊥) P
    → MatchOption p ((z : ℤ) → P z → ⊥) P → o ≡ p
same_answer P one None None h k = refl
same_answer P one None (Some b) h k = absurd (h b k)
same_answer P one (Some a) None h k = absurd (k a h)
same_answer P one (Some a) (Some b) h k = ap (λ z. Some z) (one a b h k)

-- each bound fits its type

abbrev BoundsInType : Type 0
BoundsInType = (s : Simple) (f : Option Format) (text : List ℕ) (v : Value) → has_bounds s ≡ true → ReadsAs s f text v → IsBoundOf s v

fits_given : BoundsInType → (s : Simple) (text : List ℕ) (o : Option Value) → has_bounds s ≡ true → IsBoundGiven s text o
    → IfSome o (IsBoundOf s)
fits_given fits s text None h given = tt
fits_given fits s text (Some v) h given = fits s None text v h given

text_fits : BoundsInType → (t : TextType) (text : List ℕ) (b : Bool) (o : Option Value) → text_value t None text ≡ o → is_ordered t ≡ b
    → IfSome (cond b o None) (IsBoundOf (simples.Other t))
text_fits fits t text false o is of = tt
text_fits fits t text true None is of = tt
text_fits fits t text true (Some v) is of = fits (simples.Other t) None text v of is

module _ (numbers : NumbersGiven) (dates : DatesGiven) (moments : MomentsGiven) (one : OneNumber) (fits : BoundsInType) where
  fits_with : (s : Simple) (text : List ℕ) → has_bounds s ≡ true → IfSome (bound_of s text) (IsBoundOf s)
  fits_with s text h = fits_given fits s text _ h (bound_given numbers dates moments one s text h)

  pub bound_fits : (s : Simple) (text : List ℕ) → IfSome (bound_of s text) (IsBoundOf s)
  unfolding bound_of
  bound_fits simples.Whole text = fits_with simples.Whole text refl
  bound_fits (simples.Derived w) text = fits_with (simples.Derived w) text refl
  bound_fits simples.Decimal text = fits_with simples.Decimal text refl
  bound_fits simples.Day text = fits_with simples.Day text refl
  bound_fits simples.Moment text = fits_with simples.Moment text refl
  bound_fits simples.Text text = tt
  bound_fits simples.Uri text = tt
  bound_fits (simples.Other t) text = text_fits fits t text (is_ordered t) (text_value t None text) refl refl
  bound_fits (simples.Floating t) text = fits_with (simples.Floating t) text refl
  bound_fits simples.Truth text = tt

-- whole numbers in units of 10^-18

size_of : (z : ℤ) → unsigned_abs z < 10 ^ 20 → IsNumberSize (z *ℤ pos (10 ^ 18))
size_of z small = let e = unsigned_abs-mul z (pos (10 ^ 18)) in omega (arith, small, e)

whole_of : (z : ℤ) → IsWholeNumber (z *ℤ pos (10 ^ 18))
whole_of z = ap (λ n. n % 10 ^ 18) (unsigned_abs-mul z (pos (10 ^ 18))) ∙ mul-mod_left (unsigned_abs z) (10 ^ 18)

number_fits : (s : Simple) (z : ℤ) → unsigned_abs z < 10 ^ 20 → IfSome (number_bound s (z *ℤ pos (10 ^ 18))) (IsBoundOf s)
number_fits simples.Whole z small = (size_of z small, whole_of z)
number_fits (simples.Derived w) z small = by_width _ refl
  where
    by_width : (b : Bool) → is_in_width w (z *ℤ pos (10 ^ 18)) ≡ b
        → IfSome (cond b (Some (values.Number (z *ℤ pos (10 ^ 18)))) None) (IsBoundOf (simples.Derived w))
    by_width true is = (size_of z small, whole_of z, (width_test w (z *ℤ pos (10 ^ 18))).0 is)
    by_width false is = tt
number_fits simples.Decimal z small = size_of z small
number_fits simples.Day z small = tt
number_fits simples.Moment z small = tt
number_fits simples.Text z small = tt
number_fits simples.Uri z small = tt
number_fits (simples.Other t) z small = tt
number_fits (simples.Floating t) z small = tt
number_fits simples.Truth z small = tt

double_fits : FormsStay → (f : Floating) (text : List ℕ) (o : Option (List ℕ)) → double_form text ≡ o
    → IfSome (option_and_then double_bound o) (IsBoundOf (simples.Floating f))
double_fits stay f text None is = tt
double_fits stay f text (Some form) is = ap is_some (stay text form is)

whole_bound_fits : FormsStay → (s : Simple) (z : ℤ) → unsigned_abs z < 10 ^ 20 → IfSome (whole_bound s z) (IsBoundOf s)
whole_bound_fits stay (simples.Floating f) z small = double_fits stay f (signed_decimal z) (double_form (signed_decimal z)) refl
whole_bound_fits stay simples.Whole z small = number_fits simples.Whole z small
whole_bound_fits stay (simples.Derived w) z small = number_fits (simples.Derived w) z small
whole_bound_fits stay simples.Decimal z small = number_fits simples.Decimal z small
whole_bound_fits stay simples.Day z small = tt
whole_bound_fits stay simples.Moment z small = tt
whole_bound_fits stay simples.Text z small = tt
whole_bound_fits stay simples.Uri z small = tt
whole_bound_fits stay (simples.Other t) z small = tt
whole_bound_fits stay simples.Truth z small = tt

pub whole_fits : FormsStay → (s : Simple) (z : ℤ) → IfSome (bound_of_whole s z) (IsBoundOf s)
unfolding bound_of_whole
whole_fits stay s z = by_size _ refl
  where
    by_size : (b : Bool) → nat_lt (unsigned_abs z) (10 ^ 20) ≡ b → IfSome (cond b (whole_bound s z) None) (IsBoundOf s)
    by_size true is = whole_bound_fits stay s z (grind (arith, nat_tests))
    by_size false is = tt
