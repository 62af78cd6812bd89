-- Each day number of the years 0001 to 9999 is that of a date, and each number has its lexical form.
use Rattle.std.proofs.Common.{◌≡◌, ℕ, zero, suc, ◌+◌, ◌/◌, ◌%◌, ◌^◌, ◌<◌, ◌≤◌, ⊎_elim, ◌++◌, refl, sym, subst, ◌∙◌, arith, ℤ, pos, negsuc, neg_ℤ}
use Rattle.std.proofs.Common.{◌+ℤ◌, ◌≤ℤ◌, ◌<ℤ◌, unsigned_abs, ap}
use Rattle.std.specs.Str.{chars}
use Rattle.std.proofs.lemmas.Bool.{cases_order}
use Rattle.std.proofs.lemmas.Int.{ints}
use Rattle.jiff_core.specs.Calendar.{days_in_month}
use Rattle.jiff_core.proofs.SignedLemmas.{signed_arith}
use Rattle.jiff_core.proofs.CalendarLemmas.{days_in_month_bounds, days_from_civil-day_count}
use Rattle.jiff_core.proofs.DateLemmas.{days_from_civil-day, days_from_civil-next_month, days_from_civil-next_year, days_from_civil-max}
use Rattle.csvw_datatype_core.specs.declared.date.DateFormat.TheVariants.{YearFirst}
use Rattle.csvw_datatype_core.specs.declared.moment.MomentFormat.TheVariants.{Seconds}
use Rattle.csvw_datatype_core.specs.Dates.{day_number, ReadsDate}
use Rattle.csvw_datatype_core.specs.Moments.{ReadsMoment}
use Rattle.csvw_datatype_core.specs.LexicalDates.{date_digits, IsFields, IsDayNumber, IsMomentNumber}
use Rattle.csvw_datatype_core.specs.LexicalNumbers.{IsLexicalNumber}
use Rattle.csvw_datatype_core.specs.Forms.{number_form, date_form, time_form, moment_form}
use Rattle.csvw_datatype_core.proofs.LexicalDateLemmas.{InMonth, in_month, day_of_month, date_digits_read, time_digits_read, first_count}
use Rattle.csvw_datatype_core.proofs.FormLemmas.{date_is_form, moment_is_form, form_is_lexical}
use Rattle.csvw_datatype_core.proofs.AsciiLemmas.{as_characters}

-- a date that has this day number
record DateWith (day : ℤ) : Type 0 where
  pub y : ℕ
  pub m : ℕ
  pub d : ℕ
  pub fields : IsFields day y m d

date_with : (day : ℤ) (y m d : ℕ) → y < 10_000 → InMonth y m d → day ≡ day_number y m d → DateWith day
date_with day y m d h i e = record { y = y; m = m; d = d; fields = record { year = h; is_day = day_of_month y m d h i; is_value = e } }

-- the next day of its month
in_same_month : (day : ℤ) (y m d : ℕ) → IsFields day y m d → d < days_in_month (pos y) m → DateWith (day +ℤ pos 1)
in_same_month day y m d f h =
    let i = in_month y m d f.is_day in
    let next = days_from_civil-day (pos y) m d (d + 1) i.from_day (omega arith) in
    let inside : InMonth y m (d + 1) = record {
      from_year = i.from_year;
      from_month = i.from_month;
      to_month = i.to_month;
      from_day = omega arith;
      to_day = omega (arith, h);
    } in
    date_with (day +ℤ pos 1) y m (d + 1) f.year inside (omega (arith, signed_arith, f.is_value, next))

-- the first of the next month
in_next_month : (day : ℤ) (y m d : ℕ) → IsFields day y m d → d ≡ days_in_month (pos y) m → m < 12 → DateWith (day +ℤ pos 1)
in_next_month day y m d f last h =
    let i = in_month y m d f.is_day in
    let next = days_from_civil-next_month (pos y) m d i.from_month last in
    let long = days_in_month_bounds (pos y) (m + 1) in
    let inside : InMonth y (m + 1) 1 = record {
      from_year = i.from_year;
      from_month = omega arith;
      to_month = omega (arith, h);
      from_day = omega arith;
      to_day = omega (arith, long.1);
    } in
    date_with (day +ℤ pos 1) y (m + 1) 1 f.year inside (omega (arith, signed_arith, f.is_value, next))

january : (y : ℕ) → 1 ≤ y → InMonth y 1 1
january y h =
    let long = days_in_month_bounds (pos y) 1 in
    record { from_year = h; from_month = omega arith; to_month = omega arith; from_day = omega arith; to_day = omega (arith, long.1) }

-- 1 January
in_next_year : (day : ℤ) (y : ℕ) → IsFields day y 12 31 → day <ℤ pos 2_932_896 → DateWith (day +ℤ pos 1)
in_next_year day y f h =
    let i = in_month y 12 31 f.is_day in
    let next = days_from_civil-next_year (pos y) (pos (y + 1)) (omega (arith, ints)) (omega (arith, ints)) in
    let inside : InMonth (y + 1) 1 1 = january (y + 1) (omega arith) in
    let year : y + 1 < 10_000 =
    ⊎_elim (λ (e : y ≡ 9999). absurd (omega (arith, signed_arith, h, f.is_value, ap (λ y. day_number y 12 31) e, days_from_civil-max)))
    (λ r. ⊎_elim (λ (l : y < 9999). omega (arith, l)) (λ (l : 9999 < y). absurd (omega (arith, l, f.year))) r) (cases_order y 9999) in
    date_with (day +ℤ pos 1) (y + 1) 1 1 year inside (omega (arith, signed_arith, f.is_value, next))

last_month : (m : ℕ) → m ≤ 12 → (m < 12 → ⊥) → m ≡ 12
last_month m h n = ⊎_elim (λ (e : m ≡ 12). e) (λ r. ⊎_elim (λ (l : m < 12). absurd (n l)) (λ (l : 12 < m). absurd (omega (arith, h, l))) r) (cases_order m 12)

next_day : (day : ℤ) → day <ℤ pos 2_932_896 → DateWith day → DateWith (day +ℤ pos 1)
next_day day h p =
    let i = in_month p.y p.m p.d p.fields.is_day in
    ⊎_elim (λ (last : p.d ≡ days_in_month (pos p.y) p.m).
    ⊎_elim (λ (e : p.m ≡ 12).
    let F : ℕ → ℕ → Type 0 = λ m d. IsFields day p.y m d in
    let december : p.d ≡ 31 = last ∙ ap (days_in_month (pos p.y)) e in
    in_next_year day p.y (subst (F 12) december (subst (λ m. F m p.d) e p.fields)) h)
    (λ r. ⊎_elim (λ (l : p.m < 12). in_next_month day p.y p.m p.d p.fields last l) (λ (l : 12 < p.m). absurd (omega (arith, l, i.to_month))) r)
    (cases_order p.m 12))
    (λ r. ⊎_elim (λ (l : p.d < days_in_month (pos p.y) p.m). in_same_month day p.y p.m p.d p.fields l)
    (λ (l : days_in_month (pos p.y) p.m < p.d). absurd (omega (arith, l, i.to_day))) r)
    (cases_order p.d (days_in_month (pos p.y) p.m))

first_day : DateWith (neg_ℤ (pos 719_162))
first_day =
    let inside : InMonth 1 1 1 = january 1 (omega arith) in
    date_with (neg_ℤ (pos 719_162)) 1 1 1 (omega arith) inside (omega (arith, signed_arith, first_count, days_from_civil-day_count (pos 1) 1 1))

days_on : (n : ℕ) → (pos n +ℤ neg_ℤ (pos 719_162)) ≤ℤ pos 2_932_896 → DateWith (pos n +ℤ neg_ℤ (pos 719_162))
days_on zero h = let e : (pos 0 +ℤ neg_ℤ (pos 719_162)) ≡ neg_ℤ (pos 719_162) = omega (arith, ints) in subst DateWith (sym e) first_day
days_on (suc n) h =
    let e : (pos (suc n) +ℤ neg_ℤ (pos 719_162)) ≡ ((pos n +ℤ neg_ℤ (pos 719_162)) +ℤ pos 1) = omega (arith, ints) in
    let below : (pos n +ℤ neg_ℤ (pos 719_162)) <ℤ pos 2_932_896 = omega (arith, ints, h) in
    subst DateWith (sym e) (next_day (pos n +ℤ neg_ℤ (pos 719_162)) below (days_on n (omega (arith, ints, h))))

from_zero : (z : ℤ) → pos 0 ≤ℤ z → z ≡ pos (unsigned_abs z)
from_zero (pos n) h = refl
from_zero (negsuc n) h = absurd (omega (arith, ints, h))

every_day : (day : ℤ) → IsDayNumber day → DateWith day
every_day day h =
    let n = unsigned_abs (day +ℤ pos 719_162) in
    let e : (day +ℤ pos 719_162) ≡ pos n = from_zero (day +ℤ pos 719_162) (omega (arith, ints, h.0)) in
    let is : day ≡ (pos n +ℤ neg_ℤ (pos 719_162)) = omega (arith, ints, e) in
    subst DateWith (sym is) (days_on n (omega (arith, ints, is, h.1)))

date_digits_with : (day : ℤ) (p : DateWith day) → ReadsDate YearFirst (date_digits p.y p.m p.d) day
date_digits_with day p = date_digits_read p.y p.m p.d day p.fields

pub form_is_date : (day : ℤ) → IsDayNumber day → ReadsDate YearFirst (date_form day) day
form_is_date day h =
    let p = every_day day h in
    let r = date_digits_with day p in
    subst (λ t. ReadsDate YearFirst t day) (date_is_form (date_digits p.y p.m p.d) day r) r

pub form_is_moment : (moment : ℤ) → IsMomentNumber moment → ReadsMoment Seconds (moment_form moment) moment
form_is_moment moment h =
    let n = unsigned_abs (moment +ℤ pos 62_135_596_800) in
    let e : (moment +ℤ pos 62_135_596_800) ≡ pos n = from_zero (moment +ℤ pos 62_135_596_800) (omega (arith, ints, h.0)) in
    let day = pos (n / 86_400) +ℤ neg_ℤ (pos 719_162) in
    let second = n % 86_400 in
    let small : second < 86_400 = omega arith in
    let in_years : IsDayNumber day = (omega (arith, ints), omega (arith, ints, e, h.1)) in
    let p = every_day day in_years in
    let r : ReadsMoment Seconds (date_digits p.y p.m p.d ++ time_form second) moment = record {
      date = date_digits p.y p.m p.d;
      time = time_form second;
      day = day;
      second = second;
      is_date = date_digits_with day p;
      is_time = time_digits_read (second / 3600) (second / 60 % 60) (second % 60) second (omega (arith, small)) (omega arith) (omega arith) (omega arith);
      spelled = refl;
      is_value = omega (arith, ints, e);
    } in
    subst (λ t. ReadsMoment Seconds t moment) (moment_is_form (date_digits p.y p.m p.d ++ time_form second) moment r) r

pub form_is_number : (z : ℤ) → unsigned_abs z < 10 ^ 38 → IsLexicalNumber (chars (number_form z)) z
form_is_number z h = as_characters z (number_form z) (form_is_lexical z h)
