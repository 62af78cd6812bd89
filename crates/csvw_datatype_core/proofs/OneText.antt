-- A day and a moment have one text in their lexical form.
use Rattle.std.proofs.Common.{◌≡◌, ℕ, ◌+◌, ◌-◌, ◌*◌, ◌/◌, ◌%◌, ◌^◌, ◌<◌, inl, inr, ⊎_elim, List, [], ◌∷◌, ◌++◌, length, refl, sym, ap, subst, ◌∙◌}
use Rattle.std.proofs.Common.{arith, ℤ, pos, ◌+ℤ◌, ◌*ℤ◌}
use Rattle.std.specs.List.{AllByRecursion}
use Rattle.std.specs.Char.{IsAsciiDigit}
use Rattle.std.specs.Str.Parse.{digits_value}
use Rattle.std.proofs.lemmas.Bool.{cases_order}
use Rattle.std.proofs.lemmas.Int.{ints}
use Rattle.std.proofs.lemmas.Nat.{mod-mul-add, div-mul-add}
use Rattle.jiff_core.specs.Calendar.{day_count, IsCivilDate}
use Rattle.jiff_core.proofs.SignedLemmas.{signed_arith}
use Rattle.jiff_core.proofs.CalendarLemmas.{days_from_civil-day_count, day_count-lt_year, day_count-lt_month, day_count-day}
use Rattle.csvw_datatype_core.specs.declared.date.DateFormat.TheVariants.{YearFirst}
use Rattle.csvw_datatype_core.specs.declared.moment.MomentFormat.TheVariants.{Seconds}
use Rattle.csvw_datatype_core.specs.Dates.{date_text, IsDay, day_number, IsField, ReadsDate}
use Rattle.csvw_datatype_core.specs.JoinedMoments.{IsPair, ReadsTime}
use Rattle.csvw_datatype_core.specs.Moments.{ReadsMoment}
use Rattle.csvw_datatype_core.proofs.Counts.{value-cons, value-below}
use Rattle.csvw_datatype_core.proofs.TimeLemmas.{seconds_below}
use Rattle.csvw_datatype_core.proofs.LexicalDateLemmas.{in_month, civil_of, time_in_range}

pub quotients : (a b p v w : ℕ) → v < p → w < p → a * p + v ≡ b * p + w → (a ≡ b) × (v ≡ w)
quotients a b p v w l m e =
    (sym (div-mul-add a p v l) ∙ ap (λ n. n / p) e ∙ div-mul-add b p w m, sym (mod-mul-add a p v l) ∙ ap (λ n. n % p) e ∙ mod-mul-add b p w m)

-- digits of one length with one value are the same
pub same_digits : (xs ys : List ℕ) → AllByRecursion IsAsciiDigit xs → AllByRecursion IsAsciiDigit ys → length xs ≡ length ys
    → digits_value 10 xs ≡ digits_value 10 ys → xs ≡ ys
same_digits [] [] h k l e = refl
same_digits [] (y ∷ ys) h k l e = absurd (omega (arith, l))
same_digits (x ∷ xs) [] h k l e = absurd (omega (arith, l))
same_digits (x ∷ xs) (y ∷ ys) h k l e =
    let n : length xs ≡ length ys = omega (arith, l) in
    let below : digits_value 10 ys < 10 ^ length xs = rw n (value-below ys k.1) in
    let right : digits_value 10 (y ∷ ys) ≡ (y - 48) * 10 ^ length xs + digits_value 10 ys = value-cons y ys k.0
    ∙ ap (λ n. (y - 48) * 10 ^ n + digits_value 10 ys) (sym n) in
    let q = quotients (x - 48) (y - 48) (10 ^ length xs) (digits_value 10 xs) (digits_value 10 ys) (value-below xs h.1) below
    (sym (value-cons x xs h.0) ∙ e ∙ right) in
    let head : x ≡ y = omega (arith, q.0, h.0, k.0) in
    ap (λ c. c ∷ xs) head ∙ ap (λ cs. y ∷ cs) (same_digits xs ys h.1 k.1 n q.1)

record SameFields (y m d y₂ m₂ d₂ : ℕ) : Type 0 where
  pub year : y ≡ y₂
  pub month : m ≡ m₂
  pub date : d ≡ d₂

pub order : (a b : ℕ) → (a < b → ⊥) → (b < a → ⊥) → a ≡ b
order a b f g = ⊎_elim (λ (e : a ≡ b). e) (λ r. ⊎_elim (λ (l : a < b). absurd (f l)) (λ (l : b < a). absurd (g l)) r) (cases_order a b)

one_count : (y m d y₂ m₂ d₂ : ℕ) → day_number y m d ≡ day_number y₂ m₂ d₂ → day_count (pos y) m d ≡ day_count (pos y₂) m₂ d₂
one_count y m d y₂ m₂ d₂ e = omega (arith, signed_arith, e, days_from_civil-day_count (pos y) m d, days_from_civil-day_count (pos y₂) m₂ d₂)

-- a day number is that of one year, month and day
one_day : (y m d y₂ m₂ d₂ : ℕ) → IsDay y m d → IsDay y₂ m₂ d₂ → day_number y m d ≡ day_number y₂ m₂ d₂ → SameFields y m d y₂ m₂ d₂
one_day y m d y₂ m₂ d₂ h k e =
    let a = civil_of y m d h in
    let b = civil_of y₂ m₂ d₂ k in
    let i = in_month y m d h in
    let j = in_month y₂ m₂ d₂ k in
    let c = one_count y m d y₂ m₂ d₂ e in
    let year : y ≡ y₂ = order y y₂
    (λ l. omega (arith, c, day_count-lt_year (pos y) m d (pos y₂) m₂ d₂ a j.from_day (omega (arith, ints, l))))
    (λ l. omega (arith, c, day_count-lt_year (pos y₂) m₂ d₂ (pos y) m d b i.from_day (omega (arith, ints, l)))) in
    let c₂ : day_count (pos y) m d ≡ day_count (pos y) m₂ d₂ = c ∙ ap (λ y. day_count (pos y) m₂ d₂) (sym year) in
    let P : ℕ → Type 0 = λ y. IsCivilDate (pos y) m₂ d₂ in
    let b₂ : P y = subst P (sym year) b in
    let month : m ≡ m₂ = order m m₂
    (λ l. omega (arith, c₂, day_count-lt_month (pos y) m d m₂ d₂ a j.from_day l))
    (λ l. omega (arith, c₂, day_count-lt_month (pos y) m₂ d₂ m d b₂ i.from_day l)) in
    let c₃ : day_count (pos y) m d ≡ day_count (pos y) m d₂ = c₂ ∙ ap (λ m. day_count (pos y) m d₂) (sym month) in
    record { year = year; month = month; date = omega (arith, c₃, day_count-day (pos y) m d d₂ i.from_day j.from_day) }

two_long : (ds : List ℕ) → IsField YearFirst ds → length ds ≡ 2
two_long ds h = elim h.count [ inl two ↦ two | inr one ↦ absurd one.0 ]

one_field : (ds es : List ℕ) → IsField YearFirst ds → IsField YearFirst es → digits_value 10 ds ≡ digits_value 10 es → ds ≡ es
one_field ds es h k e = same_digits ds es h.are_digits k.are_digits (two_long ds h ∙ sym (two_long es k)) e

-- a day has one text
pub one_date_text : (s t : List ℕ) (day : ℤ) → ReadsDate YearFirst s day → ReadsDate YearFirst t day → s ≡ t
one_date_text s t day p q =
    let f = one_day _ _ _ _ _ _ p.is_day q.is_day (sym p.is_value ∙ q.is_value) in
    let y = same_digits p.y q.y p.year.0 q.year.0 (p.year.1 ∙ sym q.year.1) f.year in
    let m = one_field p.m q.m p.month q.month f.month in
    let d = one_field p.d q.d p.date q.date f.date in
    p.spelled ∙ ap (λ y. date_text YearFirst y p.m p.d) y ∙ ap (λ m. date_text YearFirst q.y m p.d) m ∙ ap (λ d. date_text YearFirst q.y q.m d) d
    ∙ sym q.spelled

one_pair : (ds es : List ℕ) (limit : ℕ) → IsPair ds limit → IsPair es limit → digits_value 10 ds ≡ digits_value 10 es → ds ≡ es
one_pair ds es limit h k e = same_digits ds es h.0 k.0 (h.1 ∙ sym k.1) e

time_of : List ℕ → List ℕ → List ℕ → List ℕ
time_of h m s = 84 ∷ (h ++ (58 ∷ (m ++ (58 ∷ s))))

time_spelled : (text h m tail s : List ℕ) → text ≡ 84 ∷ (h ++ (58 ∷ (m ++ tail))) → tail ≡ 58 ∷ s → text ≡ time_of h m s
unfolding time_of
time_spelled text h m tail s e f = e ∙ ap (λ t. 84 ∷ (h ++ (58 ∷ (m ++ t)))) f

-- and a second of its day
one_time_text : (s t : List ℕ) (second : ℕ) → ReadsTime Seconds s second → ReadsTime Seconds t second → s ≡ t
one_time_text s t second p q =
    let e = sym p.is_value ∙ q.is_value in
    let x = seconds_below Seconds p.tail p.s p.is_second in
    let y = seconds_below Seconds q.tail q.s q.is_second in
    let h : digits_value 10 p.h ≡ digits_value 10 q.h = omega (arith, e, p.is_minute.2, q.is_minute.2, x, y) in
    let m : digits_value 10 p.m ≡ digits_value 10 q.m = omega (arith, e, h, x, y) in
    let s₂ : digits_value 10 p.s ≡ digits_value 10 q.s = omega (arith, e, h, m) in
    let hs = one_pair p.h q.h 24 p.is_hour q.is_hour h in
    let ms = one_pair p.m q.m 60 p.is_minute q.is_minute m in
    let ss = one_pair p.s q.s 60 p.is_second.1 q.is_second.1 s₂ in
    time_spelled s p.h p.m p.tail p.s p.spelled p.is_second.0
    ∙ ap (λ h. time_of h p.m p.s) hs ∙ ap (λ m. time_of q.h m p.s) ms ∙ ap (λ s. time_of q.h q.m s) ss
    ∙ sym (time_spelled t q.h q.m q.tail q.s q.spelled q.is_second.0)

one_quotient : (x y : ℤ) (n k : ℕ) → n < 86_400 → k < 86_400 → (x *ℤ pos 86_400) +ℤ pos n ≡ (y *ℤ pos 86_400) +ℤ pos k → x ≡ y
one_quotient x y n k l m e = omega (arith, ints)

one_rest : (x y : ℤ) (n k : ℕ) → x ≡ y → (x *ℤ pos 86_400) +ℤ pos n ≡ (y *ℤ pos 86_400) +ℤ pos k → n ≡ k
one_rest x y n k h e = omega (arith, ints)

-- and a moment
pub one_moment_text : (s t : List ℕ) (moment : ℤ) → ReadsMoment Seconds s moment → ReadsMoment Seconds t moment → s ≡ t
one_moment_text s t moment p q =
    let x = time_in_range Seconds p.time p.second p.is_time in
    let y = time_in_range Seconds q.time q.second q.is_time in
    let e = sym p.is_value ∙ q.is_value in
    let day : p.day ≡ q.day = one_quotient p.day q.day p.second q.second x y e in
    let second : p.second ≡ q.second = one_rest p.day q.day p.second q.second day e in
    let P : ℤ → Type 0 = λ d. ReadsDate YearFirst q.date d in
    let Q : ℕ → Type 0 = λ n. ReadsTime Seconds q.time n in
    let ds = one_date_text p.date q.date p.day p.is_date (subst P (sym day) q.is_date) in
    let ts = one_time_text p.time q.time p.second p.is_time (subst Q (sym second) q.is_time) in
    p.spelled ∙ ap (λ d. d ++ p.time) ds ∙ ap (λ t. q.date ++ t) ts ∙ sym q.spelled
