-- Two texts of days have the same one text exactly if the days begin at the same time. The check doesn't find it by itself: it counts days.
use Rattle.std.proofs.Common.{◌≡◌, ℕ, zero, suc, ◌+◌, ◌-◌, ◌<◌, ◌≤◌, ◌⊎◌, ◌↔◌, inl, inr, Bool, true, false, ◌&&◌, Option, Some, None}
use Rattle.std.proofs.Common.{if◌then◌else◌, List, [], refl, sym, ap, subst, ◌∙◌, arith, ℤ, pos, neg_ℤ, ◌+ℤ◌, ◌*ℤ◌, ◌≤ℤ◌, ◌<ℤ◌}
use Rattle.std.specs.Prelude.{nat_lt}
use Rattle.std.specs.Option.{option_map}
use Rattle.std.proofs.lemmas.Bool.{and_parts, cases_order}
use Rattle.std.proofs.lemmas.Bool.Decides.{nat_tests}
use Rattle.std.proofs.lemmas.Int.{ints}
use Rattle.std.proofs.lemmas.Option.{same_Some}
use lib.Signed.{lt_z}
use Rattle.csvw_datatype_core.specs.declared.date_part.DatePart.{DatePart}
use Rattle.csvw_datatype_core.specs.declared.date_part.DatePart.TheVariants as parts
use Rattle.csvw_datatype_core.specs.DateParts.{days_of}
use Rattle.csvw_datatype_core.specs.declared.instant.InstantKind.TheVariants as kinds
use Rattle.csvw_datatype_core.specs.Instants.{Moment}
use Rattle.csvw_datatype_core.specs.PartFields.{part_fields}
use Rattle.csvw_datatype_core.specs.DateTimes.{IsOffset}
use Rattle.csvw_datatype_core.specs.PartForms.{day_before, day_after, moved, shifted, days_before, start_of_day, day_text, day_form, day_start}
use Rattle.csvw_datatype_core.proofs.OneDayText.{OffsetIn, IsDate, IsFirst, IsDays, IsShifted, below, is_shifted, not_above, part_in, part_read}

by_order : {P : Type 0} (m n : ℕ) → (m < n → P) → (m ≡ n → P) → (n < m → P) → P
by_order m n less same more = elim (cases_order m n) [ inl e ↦ same e | inr r ↦ elim r [ inl l ↦ less l | inr l ↦ more l ] ]

-- ---- the numbers of days

-- the number of a day
abbrev number : ℕ → ℕ → ℕ
number m d = days_before m + d

abbrev last_number : DatePart → ℕ
last_number parts.Year = 0
last_number parts.YearMonth = 0
last_number parts.Month = 0
last_number parts.MonthDay = 366
last_number parts.Day = 31

-- the days before a month are those before the month before it, and those of that month
next_month : (m : ℕ) → 0 < m → m < 12 → days_before (m + 1) ≡ days_before m + days_of m
next_month zero h k = absurd (omega (arith, h))
next_month (suc zero) h k = refl
next_month (suc (suc zero)) h k = refl
next_month (suc (suc (suc zero))) h k = refl
next_month (suc (suc (suc (suc zero)))) h k = refl
next_month (suc (suc (suc (suc (suc zero))))) h k = refl
next_month (suc (suc (suc (suc (suc (suc zero)))))) h k = refl
next_month (suc (suc (suc (suc (suc (suc (suc zero))))))) h k = refl
next_month (suc (suc (suc (suc (suc (suc (suc (suc zero)))))))) h k = refl
next_month (suc (suc (suc (suc (suc (suc (suc (suc (suc zero))))))))) h k = refl
next_month (suc (suc (suc (suc (suc (suc (suc (suc (suc (suc zero)))))))))) h k = refl
next_month (suc (suc (suc (suc (suc (suc (suc (suc (suc (suc (suc zero))))))))))) h k = refl
next_month (suc (suc (suc (suc (suc (suc (suc (suc (suc (suc (suc (suc n)))))))))))) h k = absurd (omega (arith, k))

few_before : (m : ℕ) → m ≤ 1 → days_before m ≡ 0
few_before zero h = refl
few_before (suc zero) h = refl
few_before (suc (suc n)) h = absurd (omega (arith, h))

-- a month is before each month after it
later_month : (k m : ℕ) → 0 < m → m + suc k ≤ 12 → days_before m + days_of m ≤ days_before (m + suc k)
later_month zero m h k =
    let e : days_before (m + 1) ≡ days_before m + days_of m = next_month m h (omega (arith, k)) in
    omega (arith, e)
later_month (suc j) m h k =
    let ih : days_before m + days_of m ≤ days_before (m + suc j) = later_month j m h (omega (arith, k)) in
    let e : days_before (m + suc j + 1) ≡ days_before (m + suc j) + days_of (m + suc j) = next_month (m + suc j) (omega arith) (omega (arith, k)) in
    let same : m + suc (suc j) ≡ m + suc j + 1 = omega arith in
    let f : days_before (m + suc (suc j)) ≡ days_before (m + suc j + 1) = ap days_before same in
    omega (arith, ih, e, f)

before_month : (m n : ℕ) → 0 < m → m < n → n ≤ 12 → days_before m + days_of m ≤ days_before n
before_month m n h l k =
    let e : m + suc (n - suc m) ≡ n = omega (arith, l) in
    let f : days_before (m + suc (n - suc m)) ≡ days_before n = ap days_before e in
    omega (arith, f, later_month (n - suc m) m h (omega (arith, e, k)))

record IsDay (part : DatePart) (m d : ℕ) : Type 0 where
  pub month : m ≤ 12
  pub day : d ≤ days_of m
  pub first : IsFirst part m d

above_none : (part : DatePart) (m d : ℕ) → IsDays part → IsDay part m d → 0 < d
above_none parts.Year m d days h = absurd days
above_none parts.YearMonth m d days h = absurd days
above_none parts.Month m d days h = absurd days
above_none parts.MonthDay m d days h = h.first.1
above_none parts.Day m d days h = h.first.1

year_end : (m d : ℕ) → m ≤ 12 → d ≤ days_of m → 0 < m → number m d ≤ 366
year_end m d h k f =
    by_order m 12 (λ l. let e = before_month m 12 f l (omega arith) in omega (arith, e, k))
    (λ e. let s : number m d ≡ number 12 d = ap (λ m. number m d) e in let t : days_of m ≡ days_of 12 = ap days_of e in omega (arith, s, t, k))
    (λ l. absurd (omega (arith, l, h)))

up_to_last : (part : DatePart) (m d : ℕ) → IsDays part → IsDay part m d → number m d ≤ last_number part
up_to_last parts.Year m d days h = absurd days
up_to_last parts.YearMonth m d days h = absurd days
up_to_last parts.Month m d days h = absurd days
up_to_last parts.MonthDay m d days h = year_end m d h.month h.day h.first.0
up_to_last parts.Day m d days h =
    let s : number m d ≡ number 0 d = ap (λ m. number m d) h.first.0 in
    let t : days_of m ≡ days_of 0 = ap days_of h.first.0 in
    omega (arith, s, t, h.day)

-- a number is that of one day
same_in_year : (m d n e : ℕ) → IsDay parts.MonthDay m d → IsDay parts.MonthDay n e → number m d ≡ number n e → m ≡ n
same_in_year m d n e h k same =
    by_order m n (λ l. let f = before_month m n h.first.0 l k.month in absurd (omega (arith, f, same, h.day, k.first.1))) (λ e. e)
    (λ l. let f = before_month n m k.first.0 l h.month in absurd (omega (arith, f, same, k.day, h.first.1)))

one_month : (part : DatePart) (m d n e : ℕ) → IsDays part → IsDay part m d → IsDay part n e → number m d ≡ number n e → m ≡ n
one_month parts.Year m d n e days h k same = absurd days
one_month parts.YearMonth m d n e days h k same = absurd days
one_month parts.Month m d n e days h k same = absurd days
one_month parts.MonthDay m d n e days h k same = same_in_year m d n e h k same
one_month parts.Day m d n e days h k same = h.first.0 ∙ sym k.first.0

one_day : (part : DatePart) (m d n e : ℕ) → IsDays part → IsDay part m d → IsDay part n e → number m d ≡ number n e → (m ≡ n) × (d ≡ e)
one_day part m d n e days h k same =
    let month : m ≡ n = one_month part m d n e days h k same in
    let f : days_before m ≡ days_before n = ap days_before month in
    (month, omega (arith, f, same))

-- ---- the days beside one

-- what is so of the day before one, or of a day without one
abbrev IsBefore : ℕ → Option (ℕ × ℕ) → Type 0
IsBefore n None = n ≡ 1
IsBefore n (Some day) = number day.0 day.1 + 1 ≡ n

abbrev IsAfter : DatePart → ℕ → Option (ℕ × ℕ) → Type 0
IsAfter part n None = n ≡ last_number part
IsAfter part n (Some day) = number day.0 day.1 ≡ n + 1

before_is : (m d : ℕ) (a b : Bool) → nat_lt 1 d ≡ a → nat_lt 1 m ≡ b → m ≤ 12 → 0 < d
    → IsBefore (number m d) (if a then Some (m, d - 1) else (if b then Some (m - 1, days_of (m - 1)) else None))
before_is m d true b e f h k = let more : 1 < d = grind (arith, nat_tests, e) in omega (arith, more)
before_is m d false true e f h k =
    let one : d ≡ 1 = grind (arith, nat_tests, e, k) in
    let more : 1 < m = grind (arith, nat_tests, f) in
    let g : days_before (m - 1 + 1) ≡ days_before (m - 1) + days_of (m - 1) = next_month (m - 1) (omega (arith, more)) (omega (arith, h, more)) in
    let same : m - 1 + 1 ≡ m = omega (arith, more) in
    let i : days_before (m - 1 + 1) ≡ days_before m = ap days_before same in
    omega (arith, one, g, i)
before_is m d false false e f h k =
    let one : d ≡ 1 = grind (arith, nat_tests, e, k) in
    let few : m ≤ 1 = grind (arith, nat_tests, f) in
    omega (arith, one, few_before m few)

after_last : (part : DatePart) (m d : ℕ) → IsDays part → IsDay part m d → days_of m ≤ d → (nat_lt 0 m && nat_lt m 12) ≡ false → number m d ≡ last_number part
after_last parts.Year m d days h k f = absurd days
after_last parts.YearMonth m d days h k f = absurd days
after_last parts.Month m d days h k f = absurd days
after_last parts.MonthDay m d days h k f =
    let more : 0 < m = h.first.0 in
    let full : m ≤ 12 = h.month in
    let end : m ≡ 12 = grind (arith, nat_tests, f, more, full) in
    let s : number m d ≡ number 12 d = ap (λ m. number m d) end in
    let t : days_of m ≡ days_of 12 = ap days_of end in
    omega (arith, s, t, k, h.day)
after_last parts.Day m d days h k f =
    let s : number m d ≡ number 0 d = ap (λ m. number m d) h.first.0 in
    let t : days_of m ≡ days_of 0 = ap days_of h.first.0 in
    omega (arith, s, t, k, h.day)

after_is : (part : DatePart) (m d : ℕ) (a b : Bool) → nat_lt d (days_of m) ≡ a → (nat_lt 0 m && nat_lt m 12) ≡ b → IsDays part → IsDay part m d
    → IsAfter part (number m d) (if a then Some (m, d + 1) else (if b then Some (m + 1, 1) else None))
after_is part m d true b e f days h = omega arith
after_is part m d false true e f days h =
    let tests = and_parts (nat_lt 0 m) (nat_lt m 12) f in
    let more : 0 < m = grind (arith, nat_tests, tests.0) in
    let less : m < 12 = grind (arith, nat_tests, tests.1) in
    let full : days_of m ≤ d = grind (arith, nat_tests, e) in
    omega (arith, next_month m more less, full, h.day)
after_is part m d false false e f days h =
    let full : days_of m ≤ d = grind (arith, nat_tests, e) in
    after_last part m d days h full f

-- ---- the day that a text is written as

abbrev second : ℕ → ℤ → ℤ
second n z = (pos n *ℤ pos 86_400) +ℤ (z *ℤ neg_ℤ (pos 60))

-- It begins at the same time. Its offset is from -11:59 to +12:00, or it is the first or the last day.
record IsSettled (part : DatePart) (start : ℤ) (x : ℕ × ℕ × Option ℤ) : Type 0 where
  pub offset : ℤ
  pub is : x.2 ≡ Some offset
  pub same : second (number x.0 x.1) offset ≡ start
  pub high : (offset ≤ℤ pos 720) ⊎ (number x.0 x.1 ≡ 1)
  pub low : (neg_ℤ (pos 719) ≤ℤ offset) ⊎ (number x.0 x.1 ≡ last_number part)

settled_by : (part : DatePart) (m d : ℕ) (z : ℤ) (a b : Bool) (o p : Option (ℕ × ℕ)) → lt_z (pos 720) z ≡ a → lt_z z (neg_ℤ (pos 719)) ≡ b
    → IsBefore (number m d) o → IsAfter part (number m d) p → IsOffset z
    → IsSettled part (second (number m d) z)
    (if a then moved (m, d, z) (z +ℤ neg_ℤ (pos 1440)) o else (if b then moved (m, d, z) (z +ℤ pos 1440) p else (m, d, Some z)))
settled_by part m d z true b None p ea eb before after h =
    let more : pos 720 <ℤ z = below (pos 720) z ea in
    record { offset = z; is = refl; same = refl; high = inr before; low = inl (omega (arith, ints, more)) }
settled_by part m d z true b (Some day) p ea eb before after h =
    let more : pos 720 <ℤ z = below (pos 720) z ea in
    record {
      offset = z +ℤ neg_ℤ (pos 1440);
      is = refl;
      same = omega (arith, ints, before);
      high = inl (omega (arith, ints, h.1));
      low = inl (omega (arith, ints, more));
    }
settled_by part m d z false true o None ea eb before after h =
    let less : z <ℤ neg_ℤ (pos 719) = below z (neg_ℤ (pos 719)) eb in
    record { offset = z; is = refl; same = refl; high = inl (omega (arith, ints, less)); low = inr after }
settled_by part m d z false true o (Some day) ea eb before after h =
    let less : z <ℤ neg_ℤ (pos 719) = below z (neg_ℤ (pos 719)) eb in
    record {
      offset = z +ℤ pos 1440;
      is = refl;
      same = omega (arith, ints, after);
      high = inl (omega (arith, ints, less));
      low = inl (omega (arith, ints, h.0));
    }
settled_by part m d z false false o p ea eb before after h =
    record { offset = z; is = refl; same = refl; high = inl (not_above (pos 720) z ea); low = inl (not_above z (neg_ℤ (pos 719)) eb) }

settled : (part : DatePart) (m d : ℕ) (z : ℤ) → IsDays part → IsDay part m d → IsOffset z → IsSettled part (second (number m d) z) (shifted m d (Some z))
settled part m d z days h offset =
    settled_by part m d z _ _ (day_before m d) (day_after m d) refl refl (before_is m d _ _ refl refl h.month (above_none part m d days h))
    (after_is part m d _ _ refl refl days h) offset

-- an earlier day begins at another time
no_earlier : (top n k : ℕ) (y z : ℤ) → IsOffset y → IsOffset z → second n y ≡ second k z → (neg_ℤ (pos 719) ≤ℤ y) ⊎ (n ≡ top)
    → (z ≤ℤ pos 720) ⊎ (k ≡ 1) → 0 < n → k ≤ top → n < k → ⊥
no_earlier top n k y z a b same low high first last l =
    elim low [
      | inl p ↦ elim high [ inl q ↦ omega (arith, ints, a.0, a.1, b.0, b.1, same, p, q, l) | inr q ↦ omega (arith, q, first, l) ]
      | inr p ↦ omega (arith, p, last, l)
    ]

same_offset : (n k : ℕ) (y z : ℤ) → n ≡ k → second n y ≡ second k z → y ≡ z
same_offset n k y z e same = omega (arith, ints, e, same)

abbrev triple : ℕ → ℕ → Option ℤ → ℕ × ℕ × Option ℤ
triple m d y = (m, d, y)

same_fields : (m n d e : ℕ) (y z : Option ℤ) → m ≡ n → d ≡ e → y ≡ z → triple m d y ≡ triple n e z
same_fields m n d e y z a b c = ap (λ m. triple m d y) a ∙ ap (λ d. triple n d y) b ∙ ap (λ y. triple n e y) c

-- days that are written and begin at the same time are the same
one_settled : (part : DatePart) (start : ℤ) (u v : ℕ × ℕ × Option ℤ) → IsDays part → IsDay part u.0 u.1 → IsDay part v.0 v.1 → OffsetIn u.2 → OffsetIn v.2
    → IsSettled part start u → IsSettled part start v → u ≡ v
one_settled part start u v days h k a b x y =
    let top = last_number part in
    let same : second (number u.0 u.1) x.offset ≡ second (number v.0 v.1) y.offset = x.same ∙ sym y.same in
    let p : IsOffset x.offset = subst OffsetIn x.is a in
    let q : IsOffset y.offset = subst OffsetIn y.is b in
    let first : 0 < number u.0 u.1 = omega (arith, above_none part u.0 u.1 days h) in
    let other : 0 < number v.0 v.1 = omega (arith, above_none part v.0 v.1 days k) in
    let e : number u.0 u.1 ≡ number v.0 v.1 =
    by_order (number u.0 u.1) (number v.0 v.1)
    (λ l. absurd (no_earlier top _ _ x.offset y.offset p q same x.low y.high first (up_to_last part v.0 v.1 days k) l)) (λ e. e)
    (λ l. absurd (no_earlier top _ _ y.offset x.offset q p (sym same) y.low x.high other (up_to_last part u.0 u.1 days h) l)) in
    let fields = one_day part u.0 u.1 v.0 v.1 days h k e in
    let offset : x.offset ≡ y.offset = same_offset _ _ x.offset y.offset e same in
    same_fields u.0 v.0 u.1 v.1 u.2 v.2 fields.0 fields.1 (x.is ∙ ap (λ z. Some z) offset ∙ sym y.is)

-- ---- the start of a day

day_of : (part : DatePart) (m d : ℕ) (at : Option ℤ) → IsDate m d at → IsFirst part m d → IsDay part m d
day_of part m d at date first = record { month = date.month; day = date.day; first = first }

abbrev start_at : ℕ × ℕ × Option ℤ → Moment
start_at x = start_of_day x.0 x.1 x.2

start_kept : (part : DatePart) (m d : ℕ) (at : Option ℤ) → IsDays part → IsDate m d at → IsFirst part m d
    → start_at (shifted m d at) ≡ start_of_day m d at
start_kept part m d None days date first = refl
start_kept part m d (Some z) days date first =
    let u = shifted m d (Some z) in
    let s = settled part m d z days (day_of part m d (Some z) date first) date.offset in
    let P : ℤ → Moment = λ second. (second, [], kinds.Zoned) in
    ap (λ o. start_of_day u.0 u.1 o) s.is ∙ ap P s.same

never_both : (a b : ℤ) → ◌≡◌ {A = Moment} (a, [], kinds.Local) (b, [], kinds.Zoned) → ⊥
never_both a b e = let kind : kinds.Local ≡ kinds.Zoned = ap (λ (x : Moment). x.2) e in cc

same_shifted : (part : DatePart) (m d : ℕ) (p : Option ℤ) (n e : ℕ) (q : Option ℤ) → IsDays part → IsDate m d p → IsFirst part m d → IsDate n e q
    → IsFirst part n e → start_of_day m d p ≡ start_of_day n e q → shifted m d p ≡ shifted n e q
same_shifted part m d None n e None days date first other next same =
    let seconds : (pos (number m d) *ℤ pos 86_400) ≡ (pos (number n e) *ℤ pos 86_400) = ap (λ (x : Moment). x.0) same in
    let numbers : number m d ≡ number n e = omega (arith, ints, seconds) in
    let fields = one_day part m d n e days (day_of part m d None date first) (day_of part n e None other next) numbers in
    same_fields m n d e None None fields.0 fields.1 refl
same_shifted part m d None n e (Some z) days date first other next same = absurd (never_both _ _ same)
same_shifted part m d (Some z) n e None days date first other next same = absurd (never_both _ _ (sym same))
same_shifted part m d (Some y) n e (Some z) days date first other next same =
    let seconds : second (number m d) y ≡ second (number n e) z = ap (λ (x : Moment). x.0) same in
    let a = is_shifted part m d (Some y) date first in
    let b = is_shifted part n e (Some z) other next in
    let u = shifted m d (Some y) in
    let v = shifted n e (Some z) in
    let s = settled part m d y days (day_of part m d (Some y) date first) date.offset in
    let t = settled part n e z days (day_of part n e (Some z) other next) other.offset in
    one_settled part (second (number n e) z) u v days (day_of part u.0 u.1 u.2 a.date a.first) (day_of part v.0 v.1 v.2 b.date b.first) a.date.offset
    b.date.offset (subst (λ (start : ℤ). IsSettled part start u) seconds s) t

-- ---- the law

abbrev text_of : List ℕ × ℕ × ℕ × Option ℤ → List ℕ
text_of x = day_text (shifted x.1 x.2 x.3)

abbrev start_of : List ℕ × ℕ × ℕ × Option ℤ → Moment
start_of x = start_of_day x.1 x.2 x.3

abbrev to_day : List ℕ × ℕ × ℕ × Option ℤ → ℕ × ℕ × Option ℤ
to_day x = (x.1, x.2, x.3)

one_written : (part : DatePart) (u v : ℕ × ℕ × Option ℤ) → IsDays part → IsShifted part u → IsShifted part v → day_text u ≡ day_text v → u ≡ v
one_written part u v days a b same =
    let read = sym (part_read part u a.date a.first days) ∙ ap (λ text. part_fields part text) same ∙ part_read part v b.date b.first days in
    ap to_day (same_Some ([], u.0, u.1, u.2) ([], v.0, v.1, v.2) read)

same_start : (part : DatePart) (s t : List ℕ) (x y : List ℕ × ℕ × ℕ × Option ℤ) → IsDays part → part_fields part s ≡ Some x → part_fields part t ≡ Some y
    → text_of x ≡ text_of y → start_of x ≡ start_of y
same_start part s t x y days e f same =
    let a = part_in part s x e in
    let b = part_in part t y f in
    let written = one_written part (shifted x.1 x.2 x.3) (shifted y.1 y.2 y.3) days (is_shifted part x.1 x.2 x.3 a.0 a.1)
    (is_shifted part y.1 y.2 y.3 b.0 b.1) same in
    sym (start_kept part x.1 x.2 x.3 days a.0 a.1) ∙ ap start_at written ∙ start_kept part y.1 y.2 y.3 days b.0 b.1

same_text : (part : DatePart) (s t : List ℕ) (x y : List ℕ × ℕ × ℕ × Option ℤ) → IsDays part → part_fields part s ≡ Some x → part_fields part t ≡ Some y
    → start_of x ≡ start_of y → text_of x ≡ text_of y
same_text part s t x y days e f same =
    let a = part_in part s x e in
    let b = part_in part t y f in
    ap (λ u. day_text u) (same_shifted part x.1 x.2 x.3 y.1 y.2 y.3 days a.0 a.1 b.0 b.1 same)

by_fields : (part : DatePart) (s t : List ℕ) (o p : Option (List ℕ × ℕ × ℕ × Option ℤ)) → IsDays part → part_fields part s ≡ o → part_fields part t ≡ p
    → (option_map text_of o ≡ option_map text_of p) ↔ (option_map start_of o ≡ option_map start_of p)
by_fields part s t None None days e f = (λ h. refl, λ h. refl)
by_fields part s t None (Some y) days e f = (λ h. cc, λ h. cc)
by_fields part s t (Some x) None days e f = (λ h. cc, λ h. cc)
by_fields part s t (Some x) (Some y) days e f = (
  λ h. ap (λ (m : Moment). Some m) (same_start part s t x y days e f (same_Some (text_of x) (text_of y) h)),
  λ h. ap (λ (l : List ℕ). Some l) (same_text part s t x y days e f (same_Some (start_of x) (start_of y) h)),
)

pub days_at_one_time : (part : DatePart) → IsDays part → (s t : List ℕ) → (day_form part s ≡ day_form part t) ↔ (day_start part s ≡ day_start part t)
days_at_one_time part days s t = by_fields part s t (part_fields part s) (part_fields part t) days refl refl
