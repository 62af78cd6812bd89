-- The digits of a date and of a time, and the numbers that days and moments have.
use Rattle.std.proofs.Common.{◌≡◌, ℕ, ◌+◌, ◌*◌, ◌/◌, ◌%◌, ◌<◌, ◌≤◌, ◌⊎◌, inl, ⊎_elim, List, [], ◌∷◌, ◌++◌, refl, sym, ap, subst, ◌∙◌, arith, ℤ, pos}
use Rattle.std.proofs.Common.{negsuc, neg_ℤ, ◌+ℤ◌, ◌*ℤ◌, ◌≤ℤ◌, unsigned_abs, Result, Ok, Err, OnOk}
use Rattle.std.specs.declared.alloc.AllocError.{AllocError}
use Rattle.std.specs.Str.Parse.{digits_value}
use Rattle.std.proofs.lemmas.Bool.{cases_order}
use Rattle.std.proofs.lemmas.Int.{ints, by_lt_z}
use Rattle.jiff_core.specs.declared.civil.date.Date.{Date}
use Rattle.jiff_core.specs.Calendar.{day_count, days_from_civil, days_in_month, IsBetween, IsYear, IsCivilDate}
use Rattle.jiff_core.specs.Date.{epoch_day}
use Rattle.jiff_core.proofs.SignedLemmas.{signed_arith}
use Rattle.jiff_core.proofs.CalendarLemmas.{days_from_civil-day_count, day_count_bounds, day_count-lt_year, day_count-day_of_year, days_in_month_bounds}
use Rattle.jiff_core.proofs.MarchLemmas.{day_count-early}
use Rattle.jiff_core.proofs.DateLemmas.{civil}
use Rattle.csvw_datatype_core.specs.declared.date.DateFormat.{DateFormat}
use Rattle.csvw_datatype_core.specs.declared.date.DateFormat.TheVariants.{YearFirst}
use Rattle.csvw_datatype_core.specs.declared.moment.MomentFormat.{MomentFormat}
use Rattle.csvw_datatype_core.specs.declared.moment.MomentFormat.TheVariants.{Seconds}
use Rattle.csvw_datatype_core.specs.Dates.{IsDay, day_number, IsField, ReadsDate}
use Rattle.csvw_datatype_core.specs.JoinedMoments.{IsPair, ReadsTime, ReadsJoined}
use Rattle.csvw_datatype_core.specs.Moments.{ReadsMoment}
use Rattle.csvw_datatype_core.specs.LexicalDates.{IsDayNumber, IsMomentNumber, two_digits, four_digits, date_digits, time_digits, IsFields}
use Rattle.csvw_datatype_core.specs.LexicalDates.{IsDayAndSecond, AppendsDate, AppendsTime}
use Rattle.csvw_datatype_core.proofs.DateLemmas.{Digits, two_in_front, value_two, value_four, all_append}
use Rattle.csvw_datatype_core.proofs.TimeLemmas.{seconds_below}

pub two_are : (n : ℕ) → n < 100 → Digits 2 (two_digits n)
two_are n h = (((omega arith, omega arith), ((omega arith, omega arith), tt)), refl)

pub two_value : (n : ℕ) → n < 100 → digits_value 10 (two_digits n) ≡ n
two_value n h =
    let t = two_in_front (48 + n / 10) (48 + n % 10) [] (two_are n h).0 in
    sym (value_two (48 + n / 10) (48 + n % 10) t.first t.second) ∙ omega arith

four_are : (n : ℕ) → n < 10_000 → Digits 4 (four_digits n)
four_are n h =
    let a = two_are (n / 100) (omega arith) in
    let b = two_are (n % 100) (omega arith) in
    (all_append (two_digits (n / 100)) (two_digits (n % 100)) a.0 b.0, refl)

four_value : (n : ℕ) → n < 10_000 → digits_value 10 (four_digits n) ≡ n
four_value n h =
    let a = two_value (n / 100) (omega arith) in
    let b = two_value (n % 100) (omega arith) in
    sym (value_four (two_digits (n / 100)) (two_digits (n % 100)) (two_are (n % 100) (omega arith))) ∙ omega (arith, a, b)

field : (n : ℕ) → n < 100 → IsField YearFirst (two_digits n)
field n h = record { are_digits = (two_are n h).0; count = inl refl }

-- the bounds of a year, a month and a day of the calendar
pub record InMonth (y m d : ℕ) : Type 0 where
  pub from_year : 1 ≤ y
  pub from_month : 1 ≤ m
  pub to_month : m ≤ 12
  pub from_day : 1 ≤ d
  pub to_day : d ≤ days_in_month (pos y) m

pub in_month : (y m d : ℕ) → IsDay y m d → InMonth y m d
in_month y m d h =
    let date = h.1 in
    let month = date.1 in
    let day = date.2 in
    record {
      from_year = h.0;
      from_month = omega (arith, ints, month.0);
      to_month = omega (arith, ints, month.1);
      from_day = omega (arith, ints, day.0);
      to_day = omega (arith, ints, day.1);
    }

pub day_of_month : (y m d : ℕ) → y < 10_000 → InMonth y m d → IsDay y m d
day_of_month y m d l i =
    let year : IsYear (pos y) = (omega (arith, ints, l), omega (arith, ints, l)) in
    let month : IsBetween (pos 1) (pos 12) (pos m) = (omega (arith, ints, i.from_month), omega (arith, ints, i.to_month)) in
    (i.from_year, (year, month, (omega (arith, ints, i.from_day), omega (arith, ints, i.to_day))))

pub day_small : (y m d : ℕ) → IsDay y m d → (m < 100) × (d < 100)
day_small y m d h =
    let b = days_in_month_bounds (pos y) m in
    let i = in_month y m d h in
    (omega (arith, i.to_month), omega (arith, i.to_day, b.0))

-- the digits of a day are read as that day
pub date_digits_read : (y m d : ℕ) (day : ℤ) → IsFields day y m d → ReadsDate YearFirst (date_digits y m d) day
date_digits_read y m d day f =
    let s = day_small y m d f.is_day in
    let P : ℕ → ℕ → ℕ → Type 0 = λ y m d. IsDay y m d × (day ≡ day_number y m d) in
    let Q : ℕ → Type 0 = λ x. P x m d in
    let R : ℕ → Type 0 = λ x. P (digits_value 10 (four_digits y)) x d in
    let S : ℕ → Type 0 = λ x. P (digits_value 10 (four_digits y)) (digits_value 10 (two_digits m)) x in
    let all = subst S (sym (two_value d s.1)) (subst R (sym (two_value m s.0)) (subst Q (sym (four_value y f.year)) (f.is_day, f.is_value))) in
    record {
      y = four_digits y;
      m = two_digits m;
      d = two_digits d;
      year = four_are y f.year;
      month = field m s.0;
      date = field d s.1;
      spelled = refl;
      is_day = all.0;
      is_value = all.1;
    }

pair : (n limit : ℕ) → n < limit → n < 100 → IsPair (two_digits n) limit
pair n limit h l = ((two_are n l).0, refl, omega (arith, two_value n l, h))

-- the digits of a time are read as that time
pub time_digits_read : (h m s second : ℕ) → h < 24 → m < 60 → s < 60 → second ≡ h * 3600 + m * 60 + s → ReadsTime Seconds (time_digits h m s) second
time_digits_read h m s second a b c e =
    let x : h < 100 = omega arith in
    let y : m < 100 = omega arith in
    let z : s < 100 = omega arith in
    record {
      h = two_digits h;
      m = two_digits m;
      tail = 58 ∷ two_digits s;
      s = two_digits s;
      is_hour = pair h 24 a x;
      is_minute = pair m 60 b y;
      is_second = (refl, pair s 60 c z);
      spelled = refl;
      is_value = omega (arith, e, two_value h x, two_value m y, two_value s z);
    }

-- 1 January of the year 1
pub first_count : day_count (pos 1) 1 1 ≡ 3_652_791
first_count = day_count-early (pos 1) 10_000 1 1 refl (omega arith) (omega arith) (omega arith)

-- a day from then on is in no year before
pub year_positive : (d : Date) → neg_ℤ (pos 719_162) ≤ℤ epoch_day d → pos 1 ≤ℤ d.year
year_positive d h =
    by_lt_z d.year (pos 1)
    (λ lt. absurd (omega (
      arith,
      signed_arith,
      h,
      first_count,
      days_from_civil-day_count d.year d.month d.day,
      day_count-lt_year d.year d.month d.day (pos 1) 1 1 (civil d) (omega arith) lt,
    )))
    (λ ge. ge)

pub civil_of : (y m d : ℕ) → IsDay y m d → IsCivilDate (pos y) m d
civil_of y m d h = let date = h.1 in let i = in_month y m d h in (date.0, (i.from_month, i.to_month), (i.from_day, i.to_day))

civil_in_month : (y m d : ℕ) → 1 ≤ y → IsCivilDate (pos y) m d → InMonth y m d
civil_in_month y m d h c =
    let month = c.1 in
    let day = c.2 in
    record { from_year = h; from_month = month.0; to_month = month.1; from_day = day.0; to_day = day.1 }

first_civil : IsCivilDate (pos 1) 1 1
first_civil = ((omega (arith, ints), omega (arith, ints)), (omega arith, omega arith), (omega arith, omega (arith, days_in_month_bounds (pos 1) 1)))

count_from : (y m d : ℕ) → IsDay y m d → 3_652_791 ≤ day_count (pos y) m d
count_from y m d h =
    let c = civil_of y m d h in
    let i = in_month y m d h in
    ⊎_elim (λ (e : y ≡ 1).
    let P : ℕ → Type 0 = λ y. 3_652_791 ≤ day_count (pos y) m d in
    subst P (sym e) (omega (arith, first_count, day_count-day_of_year (pos 1) m d i.from_day, i.from_day)))
    (λ (r : (y < 1) ⊎ (1 < y)).
    ⊎_elim (λ (l : y < 1). absurd (omega (arith, l, i.from_year)))
    (λ (g : 1 < y). omega (arith, first_count, day_count-lt_year (pos 1) 1 1 (pos y) m d first_civil i.from_day (omega (arith, ints, g)))) r)
    (cases_order y 1)

-- a day of the years 0001 to 9999 has a number in this range
pub day_in_range : (y m d : ℕ) → IsDay y m d → IsDayNumber (day_number y m d)
day_in_range y m d h =
    let c = civil_of y m d h in
    let b = day_count_bounds (pos y) m d c in
    let e = days_from_civil-day_count (pos y) m d in
    (omega (arith, signed_arith, e, count_from y m d h), omega (arith, signed_arith, e, b.1))

pub date_in_range : (f : DateFormat) (text : List ℕ) (day : ℤ) → ReadsDate f text day → IsDayNumber day
date_in_range f text day r = subst IsDayNumber (sym r.is_value) (day_in_range _ _ _ r.is_day)

pub time_in_range : (f : MomentFormat) (text : List ℕ) (second : ℕ) → ReadsTime f text second → second < 86_400
time_in_range f text second r = omega (arith, r.is_value, r.is_hour.2, r.is_minute.2, seconds_below f r.tail r.s r.is_second)

pub in_range : (day moment : ℤ) (second : ℕ) → IsDayNumber day → second < 86_400 → moment ≡ (day *ℤ pos 86_400) +ℤ pos second → IsMomentNumber moment
in_range day moment second h l e = (omega (arith, ints, h.0, h.1, l, e), omega (arith, ints, h.0, h.1, l, e))

pub joined_in_range : (f : MomentFormat) (text : List ℕ) (moment : ℤ) → ReadsJoined f text moment → IsMomentNumber moment
joined_in_range f text moment r =
    in_range r.day moment r.second (date_in_range YearFirst r.date r.day r.is_date) (time_in_range f r.time r.second r.is_time) r.is_value

pos_abs : (z : ℤ) → pos 1 ≤ℤ z → z ≡ pos (unsigned_abs z)
pos_abs (pos n) h = refl
pos_abs (negsuc n) h = absurd (omega (arith, ints, h))

abs_small : (z : ℤ) → IsYear z → unsigned_abs z < 10_000
abs_small (pos n) h = omega (arith, ints, h.1)
abs_small (negsuc n) h = omega (arith, ints, h.0)

-- the fields of the calendar's date with this day number
pub fields_of : (d : Date) (day : ℤ) → IsDayNumber day → epoch_day d ≡ day → IsFields day (unsigned_abs d.year) d.month d.day
fields_of d day h e =
    let low : neg_ℤ (pos 719_162) ≤ℤ epoch_day d = subst (λ x. neg_ℤ (pos 719_162) ≤ℤ x) (sym e) h.0 in
    let same = pos_abs d.year (year_positive d low) in
    let one : 1 ≤ unsigned_abs d.year = omega (arith, ints, same, year_positive d low) in
    let P : ℤ → Type 0 = λ y. IsCivilDate y d.month d.day in
    let c : IsCivilDate (pos (unsigned_abs d.year)) d.month d.day = subst P same (civil d) in
    let year = abs_small d.year d.year_in in
    record {
      year = year;
      is_day = day_of_month (unsigned_abs d.year) d.month d.day year (civil_in_month (unsigned_abs d.year) d.month d.day one c);
      is_value = sym e ∙ ap (λ y. days_from_civil y d.month d.day) same;
    }

pub on_ok : {T E : Type 0} {P Q : Type 0} (r : Result T E) → (P → Q) → OnOk r P → OnOk r Q
on_ok (Ok x) f h = f h
on_ok (Err e) f h = h

pub date_appended : (r : Result (Unit {0}) AllocError) (old new : List ℕ) (day : ℤ) (y m d : ℕ) → IsFields day y m d
    → OnOk r (new ≡ old ++ date_digits y m d) → OnOk r (AppendsDate old new day)
date_appended r old new day y m d f h = on_ok r (λ e. record { text = date_digits y m d; appended = e; is_date = date_digits_read y m d day f }) h

pub time_appended : (r : Result (Unit {0}) AllocError) (old new : List ℕ) (second : ℕ) → second < 86_400
    → OnOk r (new ≡ old ++ time_digits (second / 3600) (second / 60 % 60) (second % 60)) → OnOk r (AppendsTime old new second)
time_appended r old new second l h =
    on_ok r (λ e. record {
      text = time_digits (second / 3600) (second / 60 % 60) (second % 60);
      appended = e;
      is_time = time_digits_read (second / 3600) (second / 60 % 60) (second % 60) second (omega arith) (omega arith) (omega arith) (omega arith);
    }) h

-- a date alone
pub date_alone : (new : List ℕ) (day : ℤ) → AppendsDate [] new day → ReadsDate YearFirst new day
date_alone new day a = let P : List ℕ → Type 0 = λ t. ReadsDate YearFirst t day in subst P (sym a.appended) a.is_date

-- a date and a time behind it
pub moment_written : (mid new : List ℕ) (moment day : ℤ) (second : ℕ) → IsDayAndSecond moment day second → AppendsDate [] mid day
    → AppendsTime mid new second → ReadsMoment Seconds new moment
moment_written mid new moment day second p a b =
    record {
      date = a.text;
      time = b.text;
      day = day;
      second = second;
      is_date = a.is_date;
      is_time = b.is_time;
      spelled = b.appended
          ∙ ap (λ t. t ++ b.text) a.appended;
      is_value = p.is_value;
    }
