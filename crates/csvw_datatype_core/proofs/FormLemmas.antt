-- A text that is the form of a number, a day or a moment is the one that the functions return.
use Rattle.std.proofs.Common.{rules, ◌≡◌, ℕ, zero, suc, ◌+◌, ◌/◌, ◌%◌, ◌^◌, ◌<◌, ◌≤◌, Bool, true, false, cond, ◌&&◌, ◌⊎◌, inl, inr, ⊎_elim, Option}
use Rattle.std.proofs.Common.{Some, None, unwrap_or, List, [], ◌∷◌, ◌++◌, length, refl, sym, ap, subst, ◌∙◌, arith, append_assoc, append-nil}
use Rattle.std.proofs.Common.{length-append, ℤ, pos, negsuc, ◌+ℤ◌, ◌*ℤ◌, unsigned_abs, encode_utf8_all, nat_le, FitsSigned}
use Rattle.std.specs.Fmt.{decimal}
use Rattle.std.specs.Ordering.{int_eq}
use Rattle.std.specs.Str.Parse.{digits_value}
use lib.Signed.{lt_z}
use mir.Syntax.{w32}
use Rattle.std.proofs.lemmas.Bool.{cases_order}
use Rattle.std.proofs.lemmas.Bool.Decides.{nat_tests, eqb_tells, Decides-int_eq}
use Rattle.jiff_core.specs.Calendar.{days_in_month}
use Rattle.jiff_core.proofs.CalendarLemmas.{days_in_month_bounds}
use Rattle.csvw_datatype_core.specs.declared.date.DateFormat.TheVariants.{YearFirst}
use Rattle.csvw_datatype_core.specs.declared.moment.MomentFormat.TheVariants.{Seconds}
use Rattle.csvw_datatype_core.specs.Dates.{IsDay, day_number, ReadsDate}
use Rattle.csvw_datatype_core.specs.Moments.{ReadsMoment}
use Rattle.csvw_datatype_core.specs.LexicalDates.{date_digits, IsFields, IsDayNumber, IsDayAndSecond, AppendsDate, AppendsTime}
use Rattle.csvw_datatype_core.specs.LexicalNumbers.{IsLexicalNumber, AppendsFraction, AppendsPart}
use Rattle.csvw_datatype_core.specs.Forms.{sign_form, fraction_digits, fraction_form, number_form, or_else, found_below, found_if, is_day}
use Rattle.csvw_datatype_core.specs.Forms.{found_on_dates, date_form, time_form, moment_form}
use Rattle.csvw_datatype_core.proofs.Counts.{tenth}
use Rattle.csvw_datatype_core.proofs.DateLemmas.{digits_small}
use Rattle.csvw_datatype_core.proofs.LexicalLemmas.{IsPushing, pushing_begins, pushing_step, pushing_ends}
use Rattle.csvw_datatype_core.proofs.LexicalNumber.{lexical_number}
use Rattle.csvw_datatype_core.proofs.LexicalDateLemmas.{InMonth, in_month, day_of_month, date_digits_read, time_digits_read, time_in_range}
use Rattle.csvw_datatype_core.proofs.LexicalDateLemmas.{date_alone, moment_written}
use Rattle.csvw_datatype_core.proofs.OneText.{one_date_text, one_moment_text}
use Rattle.csvw_datatype_core.proofs.OneNumberText.{one_number_text}
use Rattle.csvw_datatype_core.proofs.AsciiLemmas.{bytes_of}

-- what is found

some_same : {A : Type 0} (x y : A) → Some x ≡ Some y → x ≡ y
some_same x y e = ap (λ o. unwrap_or o x) e

if_true : {A : Type 0} (b : Bool) (x : A) → b ≡ true → found_if b x ≡ Some x
if_true b x e = ap (λ t. found_if t x) e

is_true : {A : Type 0} (b : Bool) (x a : A) → found_if b x ≡ Some a → (b ≡ true) × (x ≡ a)
is_true true x a e = (refl, some_same x a e)
is_true false x a e = cc

first_or_other : {A : Type 0} (o p : Option A) (a : A) → or_else o p ≡ Some a → (o ≡ Some a) ⊎ (p ≡ Some a)
first_or_other (Some x) p a e = inl e
first_or_other None p a e = inr e

either_gives : {A : Type 0} (o p : Option A) (a : A) → p ≡ Some a → (b : A) × (or_else o p ≡ Some b)
either_gives (Some x) p a e = (x, refl)
either_gives None p a e = (a, e)

found_at : {A : Type 0} (n : ℕ) (f : ℕ → Option A) (a : A) → found_below n f ≡ Some a → (i : ℕ) × (i < n) × (f i ≡ Some a)
unfolding found_below
found_at zero f a e = cc
found_at (suc n) f a e =
    elim (first_or_other (f n) (found_below n f) a e) [
      | inl h ↦ (n, omega arith, h)
      | inr h ↦ let r = found_at n f a h in (r.0, omega (arith, r.1), r.2)
    ]

finds : {A : Type 0} (n : ℕ) (f : ℕ → Option A) (i : ℕ) (a : A) → i < n → f i ≡ Some a → (b : A) × (found_below n f ≡ Some b)
unfolding found_below
finds zero f i a h e = absurd (omega (arith, h))
finds (suc n) f i a h e =
    ⊎_elim (λ (k : i ≡ n). (a, ap (λ o. or_else o (found_below n f)) (ap f (sym k) ∙ e)))
    (λ r. ⊎_elim (λ (l : i < n). let b = finds n f i a l e in either_gives (f n) (found_below n f) b.0 b.1) (λ (l : n < i). absurd (omega (arith, h, l))) r)
    (cases_order i n)

record AtDate {A : Type 0} (f : ℕ → ℕ → ℕ → Option A) (a : A) : Type 0 where
  pub y : ℕ
  pub m : ℕ
  pub d : ℕ
  pub year : y < 10_000
  pub found : f y m d ≡ Some a

at_date : {A : Type 0} (f : ℕ → ℕ → ℕ → Option A) (a : A) → found_on_dates f ≡ Some a → AtDate f a
unfolding found_on_dates
at_date f a e =
    let y = found_at 10_000 (λ y. found_below 13 (λ m. found_below 32 (λ d. f y m d))) a e in
    let m = found_at 13 (λ m. found_below 32 (λ d. f y.0 m d)) a y.2 in
    let d = found_at 32 (λ d. f y.0 m.0 d) a m.2 in
    record { y = y.0; m = m.0; d = d.0; year = y.1; found = d.2 }

finds_date : {A : Type 0} (f : ℕ → ℕ → ℕ → Option A) (y m d : ℕ) (a : A) → y < 10_000 → m < 13 → d < 32 → f y m d ≡ Some a
    → (b : A) × (found_on_dates f ≡ Some b)
unfolding found_on_dates
finds_date f y m d a h k l e =
    let b = finds 32 (λ d. f y m d) d a l e in
    let c = finds 13 (λ m. found_below 32 (λ d. f y m d)) m b.0 k b.1 in
    finds 10_000 (λ y. found_below 13 (λ m. found_below 32 (λ d. f y m d))) y c.0 h c.1

-- days

all_five : (a b c d e : Bool) → a ≡ true → b ≡ true → c ≡ true → d ≡ true → e ≡ true → (a && b && c && d && e) ≡ true
all_five a b c d e f g h i j = rw (f, g, h, i) j

both : (a b : Bool) → a ≡ true → b ≡ true → (a && b) ≡ true
both a b e f = rw e f

parts_of_and : (a b : Bool) → (a && b) ≡ true → (a ≡ true) × (b ≡ true)
parts_of_and true b e = (refl, e)
parts_of_and false b e = cc

le_true : (a b : ℕ) → a ≤ b → nat_le a b ≡ true
le_true a b h = grind (arith, nat_tests)

true_le : (a b : ℕ) → nat_le a b ≡ true → a ≤ b
true_le a b h = grind (arith, nat_tests)

day_true : (y m d : ℕ) → IsDay y m d → is_day y m d ≡ true
day_true y m d h =
    let i = in_month y m d h in
    all_five _ _ _ _ _ (le_true 1 y i.from_year) (le_true 1 m i.from_month) (le_true m 12 i.to_month) (le_true 1 d i.from_day) (le_true d _ i.to_day)

true_day : (y m d : ℕ) → y < 10_000 → is_day y m d ≡ true → IsDay y m d
true_day y m d l h =
    let a = parts_of_and _ (nat_le d (days_in_month (pos y) m)) h in
    let b = parts_of_and _ (nat_le 1 d) a.0 in
    let c = parts_of_and _ (nat_le m 12) b.0 in
    let e = parts_of_and (nat_le 1 y) (nat_le 1 m) c.0 in
    let inside : InMonth y m d = record {
      from_year = true_le 1 y e.0;
      from_month = true_le 1 m e.1;
      to_month = true_le m 12 c.1;
      from_day = true_le 1 d b.1;
      to_day = true_le d (days_in_month (pos y) m) a.1;
    } in
    day_of_month y m d l inside

abbrev at_day : ℤ → ℕ → ℕ → ℕ → Option (List ℕ)
at_day day y m d = found_if (is_day y m d && int_eq day (day_number y m d)) (date_digits y m d)

reads_found : (day : ℤ) (text : List ℕ) → AtDate (at_day day) text → ReadsDate YearFirst text day
reads_found day text a =
    let e = is_true _ _ text a.found in
    let b = parts_of_and _ _ e.0 in
    let value = (Decides-int_eq day (day_number a.y a.m a.d)).0 b.1 in
    let f : IsFields day a.y a.m a.d = record { year = a.year; is_day = true_day a.y a.m a.d a.year b.0; is_value = value } in
    subst (λ t. ReadsDate YearFirst t day) e.1 (date_digits_read a.y a.m a.d day f)

-- the fields of a date that is read
record DateOf (text : List ℕ) (day : ℤ) : Type 0 where
  pub y : ℕ
  pub m : ℕ
  pub d : ℕ
  pub year : y < 10_000
  pub month : m < 13
  pub date : d < 32
  pub is_day : IsDay y m d
  pub is_value : day ≡ day_number y m d

date_of : (text : List ℕ) (day : ℤ) → ReadsDate YearFirst text day → DateOf text day
date_of text day r =
    let y = digits_value 10 r.y in
    let m = digits_value 10 r.m in
    let d = digits_value 10 r.d in
    let i = in_month y m d r.is_day in
    record {
      y = y;
      m = m;
      d = d;
      year = digits_small 4 r.y r.year;
      month = omega (arith, i.to_month);
      date = omega (arith, i.to_day, days_in_month_bounds (pos y) m);
      is_day = r.is_day;
      is_value = r.is_value;
    }

pub date_is_form : (text : List ℕ) (day : ℤ) → ReadsDate YearFirst text day → text ≡ date_form day
unfolding date_form
date_is_form text day r =
    let p = date_of text day r in
    let here = if_true _ (date_digits p.y p.m p.d) (both _ _ (day_true p.y p.m p.d p.is_day) ((Decides-int_eq day (day_number p.y p.m p.d)).1 p.is_value)) in
    let b = finds_date (at_day day) p.y p.m p.d (date_digits p.y p.m p.d) p.year p.month p.date here in
    one_date_text text b.0 day r (reads_found day b.0 (at_date (at_day day) b.0 b.1)) ∙ sym (ap (λ o. unwrap_or o []) b.1)

-- a date that was written into an empty text
pub written_date : (old new : List ℕ) (day : ℤ) → old ≡ [] → AppendsDate old new day → new ≡ date_form day
written_date old new day e a = date_is_form new day (date_alone new day (subst (λ t. AppendsDate t new day) e a))

-- moments

abbrev at_second : ℤ → ℕ → ℕ → ℕ → ℕ → Option (List ℕ)
at_second moment y m d second =
    found_if (is_day y m d && int_eq moment ((day_number y m d *ℤ pos 86_400) +ℤ pos second)) (date_digits y m d ++ time_form second)

abbrev at_moment : ℤ → ℕ → ℕ → ℕ → Option (List ℕ)
at_moment moment y m d = found_below 86_400 (λ second. at_second moment y m d second)

reads_moment : (moment : ℤ) (text : List ℕ) → AtDate (at_moment moment) text → ReadsMoment Seconds text moment
reads_moment moment text a =
    let s = found_at 86_400 (λ second. at_second moment a.y a.m a.d second) text a.found in
    let second = s.0 in
    let small : second < 86_400 = s.1 in
    let e = is_true _ _ text s.2 in
    let b = parts_of_and _ _ e.0 in
    let f : IsFields (day_number a.y a.m a.d) a.y a.m a.d = record { year = a.year; is_day = true_day a.y a.m a.d a.year b.0; is_value = refl } in
    record {
      date = date_digits a.y a.m a.d;
      time = time_form second;
      day = day_number a.y a.m a.d;
      second = second;
      is_date = date_digits_read a.y a.m a.d (day_number a.y a.m a.d) f;
      is_time = time_digits_read (second / 3600) (second / 60 % 60) (second % 60) second (omega (arith, small)) (omega arith) (omega arith) (omega arith);
      spelled = sym e.1;
      is_value = (Decides-int_eq moment _).0 b.1;
    }

pub moment_is_form : (text : List ℕ) (moment : ℤ) → ReadsMoment Seconds text moment → text ≡ moment_form moment
unfolding moment_form
moment_is_form text moment r =
    let p = date_of r.date r.day r.is_date in
    let value : moment ≡ (day_number p.y p.m p.d *ℤ pos 86_400) +ℤ pos r.second = r.is_value ∙ ap (λ day. (day *ℤ pos 86_400) +ℤ pos r.second) p.is_value in
    let at = if_true _ (date_digits p.y p.m p.d ++ time_form r.second) (both _ _ (day_true p.y p.m p.d p.is_day) ((Decides-int_eq moment _).1 value)) in
    let here = finds 86_400 (λ second. at_second moment p.y p.m p.d second) r.second _ (time_in_range Seconds r.time r.second r.is_time) at in
    let b = finds_date (at_moment moment) p.y p.m p.d here.0 p.year p.month p.date here.1 in
    one_moment_text text b.0 moment r (reads_moment moment b.0 (at_date (at_moment moment) b.0 b.1)) ∙ sym (ap (λ o. unwrap_or o []) b.1)

-- the number of a day has 32 bits
pub fits_day : (day : ℤ) → IsDayNumber day → FitsSigned w32 day
fits_day day h = search rules

-- a date that was written into an empty text, and a time of day behind it
pub written_moment : (old mid new : List ℕ) (moment day : ℤ) (second : ℕ) → old ≡ [] → IsDayAndSecond moment day second
    → AppendsDate old mid day → AppendsTime mid new second
    → new ≡ moment_form moment
written_moment old mid new moment day second e p a b =
    moment_is_form new moment (moment_written mid new moment day second p (subst (λ t. AppendsDate t mid day) e a) b)

-- numbers

nothing_left : (start out : List ℕ) (n rest weight : ℕ) (more : List ℕ) → IsPushing start out n rest weight → rest ≡ 0 → more ≡ []
    → AppendsFraction start (out ++ more) n
nothing_left start out n rest weight more p h e =
    subst (λ t. AppendsFraction start t n) (sym (ap (λ t. out ++ t) e ∙ append-nil out)) (pushing_ends start out n rest weight p h)

no_places : (start out : List ℕ) (n rest weight : ℕ) → IsPushing start out n rest weight → length out ≡ length start + 18 → rest ≡ 0
no_places start out n rest weight p l = none p.e (omega (arith, p.places, l, ap length p.appended, length-append start p.digits)) p.small
  where
    none : (e : ℕ) → e ≡ 0 → rest < 10 ^ e → rest ≡ 0
    none e h k = let one : rest < 10 ^ 0 = subst (λ e. rest < 10 ^ e) h k in omega (arith, one)

pushed : (e : ℕ) (start out : List ℕ) (n rest : ℕ) → IsPushing start out n rest (10 ^ e / 10) → length out + e ≡ length start + 18
    → AppendsFraction start (out ++ fraction_digits e rest) n
unfolding fraction_digits
pushed zero start out n rest p l = nothing_left start out n rest _ [] p (no_places start out n rest _ p (omega (arith, l))) refl
pushed (suc e) start out n rest p l =
    elim (eqb_tells rest 0) [
      | inl h ↦ nothing_left start out n rest _ _ p h.1 (ap (λ t. cond t [] ((48 + rest / 10 ^ e) ∷ fraction_digits e (rest % 10 ^ e))) h.0)
      | inr h ↦
          let c = 48 + rest / 10 ^ e in
          let w : 10 ^ suc e / 10 ≡ 10 ^ e = tenth e in
          let here : IsPushing start out n rest (10 ^ e) = subst (λ w. IsPushing start out n rest w) w p in
          let more = pushing_step start out n rest (10 ^ e) c here (omega (arith, h.1)) refl in
          let all = pushed e start (out ++ c ∷ []) n (rest % 10 ^ e) more (omega (arith, l, length-append out (c ∷ []))) in
          let text : (out ++ c ∷ []) ++ fraction_digits e (rest % 10 ^ e) ≡ out ++ fraction_digits (suc e) rest =
          append_assoc out (c ∷ []) _ ∙ ap (λ t. out ++ t) (sym (ap (λ t. cond t [] (c ∷ fraction_digits e (rest % 10 ^ e))) h.0)) in
          subst (λ t. AppendsFraction start t n) text all
    ]

part : (out : List ℕ) (n : ℕ) → n < 10 ^ 18 → AppendsPart out (out ++ fraction_form n) n
part out n l =
    elim (eqb_tells n 0) [
      | inl h ↦ inl (h.1, ap (λ t. out ++ cond t [] (46 ∷ fraction_digits 18 n)) h.0 ∙ append-nil out)
      | inr h ↦
          let all = pushed 18 (out ++ 46 ∷ []) (out ++ 46 ∷ []) n n (pushing_begins (out ++ 46 ∷ []) n (omega (arith, h.1)) l) refl in
          let text : (out ++ 46 ∷ []) ++ fraction_digits 18 n ≡ out ++ fraction_form n =
          append_assoc out (46 ∷ []) _ ∙ ap (λ t. out ++ t) (sym (ap (λ t. cond t [] (46 ∷ fraction_digits 18 n)) h.0)) in
          inr (subst (λ t. AppendsFraction (out ++ 46 ∷ []) t n) text all)
    ]

sign_is : (z : ℤ) → cond (lt_z z (pos 0)) (45 ∷ []) [] ≡ sign_form z
sign_is (pos n) = grind (arith, nat_tests)
sign_is (negsuc n) = refl

pub form_is_lexical : (z : ℤ) → unsigned_abs z < 10 ^ 38 → IsLexicalNumber (number_form z) z
unfolding number_form
form_is_lexical z h =
    let n : ℕ = unsigned_abs z in
    let s : List ℕ = cond (lt_z z (pos 0)) (45 ∷ []) [] in
    let w : List ℕ = decimal (n / 10 ^ 18) in
    let f : List ℕ = fraction_form (n % 10 ^ 18) in
    let small : n % 10 ^ 18 < 10 ^ 18 = omega arith in
    let lexical = lexical_number z n [] s (s ++ w) ((s ++ w) ++ f) refl h refl refl refl (part (s ++ w) (n % 10 ^ 18) small) in
    let text : (s ++ w) ++ f ≡ sign_form z ++ w ++ f = ap (λ x. x ++ w ++ f) (sign_is z) in
    subst (λ t. IsLexicalNumber t z) text lexical

pub number_is_form : (text : List ℕ) (z : ℤ) → unsigned_abs z < 10 ^ 38 → IsLexicalNumber text z → text ≡ number_form z
number_is_form text z h l = one_number_text text (number_form z) z l (form_is_lexical z h)

pub number_in_bytes : (z : ℤ) → unsigned_abs z < 10 ^ 38 → encode_utf8_all (number_form z) ≡ number_form z
number_in_bytes z h = bytes_of z (number_form z) (form_is_lexical z h)
