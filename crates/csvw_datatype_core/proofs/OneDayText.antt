-- The one text of a day is its own text, and its numbers have two digits. The check doesn't find it by itself: it takes the days and the zones apart.
use Rattle.std.proofs.Common.{◌≡◌, ℕ, ◌+◌, ◌-◌, ◌<◌, ◌≤◌, ◌==◌, ◌⊎◌, inl, inr, Bool, true, false, ◌&&◌, ◌||◌, Option, Some, None}
use Rattle.std.proofs.Common.{if◌then◌else◌, List, [], ◌∷◌, ◌++◌, refl, sym, ap, subst, ◌∙◌, arith, ℤ, pos, neg_ℤ, ◌+ℤ◌, ◌≤ℤ◌, ◌<ℤ◌, IfSome}
use Rattle.std.specs.Prelude.{nat_lt, nat_le}
use Rattle.std.specs.Option.{option_map}
use Rattle.std.proofs.lemmas.Bool.{cond-true, and_parts}
use Rattle.std.proofs.lemmas.Bool.Decides.{nat_tests}
use Rattle.std.proofs.lemmas.Int.{ints, by_lt_z}
use Rattle.std.proofs.lemmas.Option.{cond_some, same_Some}
use lib.Signed.{lt_z}
use Rattle.csvw_datatype_core.specs.declared.date_part.DatePart.{DatePart}
use Rattle.csvw_datatype_core.specs.declared.date_part.DatePart.TheVariants as parts
use Rattle.csvw_datatype_core.specs.Fields.{◌>>=◌, after_separator, two_at}
use Rattle.csvw_datatype_core.specs.DateParts.{up_to, number_at, days_of}
use Rattle.csvw_datatype_core.specs.DateTimes.{IsOffset, zone_at}
use Rattle.csvw_datatype_core.specs.LexicalDates.{two_digits}
use Rattle.csvw_datatype_core.specs.PartFields.{year_at, fields_at, part_fields}
use Rattle.csvw_datatype_core.specs.PartForms.{day_before, day_after, moved, shifted, zone_text, month_text, day_text}
use Rattle.csvw_datatype_core.specs.PartForms.{day_form, date_part_form}
use Rattle.csvw_datatype_core.proofs.DateLemmas.{bind_some, bind_number}
use Rattle.csvw_datatype_core.proofs.OffsetLemmas.{offset_again}
use Rattle.csvw_datatype_core.proofs.OneDatePart.{one_plain_text}
use Rattle.csvw_datatype_core.proofs.OneTime.{two_of}
use Rattle.csvw_datatype_core.proofs.ZoneLemmas.{zone_range}

abbrev pair : ℕ → List ℕ → ℕ × List ℕ
pair n bs = (n, bs)

-- ---- the numbers of a text

number_in : (last : ℕ) (bs : List ℕ) (v : ℕ) (r : List ℕ) → number_at last bs ≡ Some (v, r) → (0 < v) × (v ≤ last)
number_in last bs v r h =
    let a = bind_number (two_at bs) _ _ h in
    let g = cond_some (nat_lt 0 a.value && nat_le a.value last) (pair a.value a.after) (pair v r) a.rest_is in
    let same : a.value ≡ v = ap (λ (x : ℕ × List ℕ). x.0) g.1 in
    let tests = and_parts (nat_lt 0 a.value) (nat_le a.value last) g.0 in
    (grind (arith, nat_tests, tests.0, same), grind (arith, nat_tests, tests.1, same))

abbrev pub OffsetIn : Option ℤ → Type 0
OffsetIn zone = IfSome zone IsOffset

zone_in : (bs : List ℕ) (at : Option ℤ) → zone_at bs ≡ Some at → OffsetIn at
zone_in bs at h = subst (λ (o : Option (Option ℤ)). IfSome o OffsetIn) h (zone_range bs)

-- ---- the fields of a text

-- a month, a day and a zone that there are
pub record IsDate (m d : ℕ) (at : Option ℤ) : Type 0 where
  pub month : m ≤ 12
  pub day : d ≤ days_of m
  pub offset : OffsetIn at

-- a part with a day has it, and a month only if it is a day of each year
abbrev pub IsFirst : DatePart → ℕ → ℕ → Type 0
IsFirst parts.Year m d = Unit {0}
IsFirst parts.YearMonth m d = Unit {0}
IsFirst parts.Month m d = Unit {0}
IsFirst parts.MonthDay m d = (0 < m) × (0 < d)
IsFirst parts.Day m d = (m ≡ 0) × (0 < d)

abbrev pub IsDays : DatePart → Type 0
IsDays parts.Year = ⊥
IsDays parts.YearMonth = ⊥
IsDays parts.Month = ⊥
IsDays parts.MonthDay = Unit {0}
IsDays parts.Day = Unit {0}

abbrev InBounds : DatePart → List ℕ × ℕ × ℕ × List ℕ → Type 0
InBounds part x = (x.1 ≤ 12) × (x.2 ≤ days_of x.1) × IsFirst part x.1 x.2

fields_in : (part : DatePart) (bs : List ℕ) (x : List ℕ × ℕ × ℕ × List ℕ) → fields_at part bs ≡ Some x → InBounds part x
unfolding fields_at
fields_in parts.Year bs x h =
    let y = bind_some (year_at bs) _ _ h in
    let is : InBounds parts.Year (y.value.0, 0, 0, y.value.1) = (omega arith, omega arith, tt) in
    subst (InBounds parts.Year) (same_Some (y.value.0, 0, 0, y.value.1) x y.rest_is) is
fields_in parts.YearMonth bs x h =
    let y = bind_some (year_at bs) _ _ h in
    let a = bind_some (after_separator 45 y.value.1) _ _ y.rest_is in
    let n = bind_number (number_at 12 a.value) _ _ a.rest_is in
    let m = number_in 12 a.value n.value n.after n.first_is in
    let is : InBounds parts.YearMonth (y.value.0, n.value, 0, n.after) = (m.1, omega arith, tt) in
    subst (InBounds parts.YearMonth) (same_Some (y.value.0, n.value, 0, n.after) x n.rest_is) is
fields_in parts.Month bs x h =
    let a = bind_some (after_separator 45 bs) _ _ h in
    let b = bind_some (after_separator 45 a.value) _ _ a.rest_is in
    let n = bind_number (number_at 12 b.value) _ _ b.rest_is in
    let m = number_in 12 b.value n.value n.after n.first_is in
    let is : InBounds parts.Month ([], n.value, 0, n.after) = (m.1, omega arith, tt) in
    subst (InBounds parts.Month) (same_Some ([], n.value, 0, n.after) x n.rest_is) is
fields_in parts.MonthDay bs x h =
    let a = bind_some (after_separator 45 bs) _ _ h in
    let b = bind_some (after_separator 45 a.value) _ _ a.rest_is in
    let n = bind_number (number_at 12 b.value) _ _ b.rest_is in
    let c = bind_some (after_separator 45 n.after) _ _ n.rest_is in
    let k = bind_number (number_at (days_of n.value) c.value) _ _ c.rest_is in
    let m = number_in 12 b.value n.value n.after n.first_is in
    let d = number_in (days_of n.value) c.value k.value k.after k.first_is in
    let is : InBounds parts.MonthDay ([], n.value, k.value, k.after) = (m.1, d.1, (m.0, d.0)) in
    subst (InBounds parts.MonthDay) (same_Some ([], n.value, k.value, k.after) x k.rest_is) is
fields_in parts.Day bs x h =
    let a = bind_some (after_separator 45 bs) _ _ h in
    let b = bind_some (after_separator 45 a.value) _ _ a.rest_is in
    let c = bind_some (after_separator 45 b.value) _ _ b.rest_is in
    let n = bind_number (number_at 31 c.value) _ _ c.rest_is in
    let d = number_in 31 c.value n.value n.after n.first_is in
    let is : InBounds parts.Day ([], 0, n.value, n.after) = (omega arith, d.1, (refl, d.0)) in
    subst (InBounds parts.Day) (same_Some ([], 0, n.value, n.after) x n.rest_is) is

abbrev FieldsIn : DatePart → List ℕ × ℕ × ℕ × Option ℤ → Type 0
FieldsIn part x = IsDate x.1 x.2 x.3 × IsFirst part x.1 x.2

pub part_in : (part : DatePart) (text : List ℕ) (x : List ℕ × ℕ × ℕ × Option ℤ) → part_fields part text ≡ Some x → FieldsIn part x
unfolding part_fields
part_in part text x h =
    let a = bind_some (fields_at part text) _ _ h in
    let b = bind_some (zone_at a.value.3) _ _ a.rest_is in
    let f = fields_in part text a.value a.first_is in
    let date : IsDate a.value.1 a.value.2 b.value = record { month = f.0; day = f.1; offset = zone_in a.value.3 b.value b.first_is } in
    let is : FieldsIn part (a.value.0, a.value.1, a.value.2, b.value) = (date, f.2) in
    subst (FieldsIn part) (same_Some (a.value.0, a.value.1, a.value.2, b.value) x b.rest_is) is

-- ---- days that begin at the same time

days_by : (two four six nine eleven : Bool) → let n : ℕ = if two then 29 else (if four || six || nine || eleven then 30 else 31) in (0 < n) × (n ≤ 31)
days_by true b c d e = (omega arith, omega arith)
days_by false true c d e = (omega arith, omega arith)
days_by false false true d e = (omega arith, omega arith)
days_by false false false true e = (omega arith, omega arith)
days_by false false false false true = (omega arith, omega arith)
days_by false false false false false = (omega arith, omega arith)

days_in : (m : ℕ) → (0 < days_of m) × (days_of m ≤ 31)
days_in m = days_by (m == 2) (m == 4) (m == 6) (m == 9) (m == 11)

-- the day before or after one
record IsNext (m : ℕ) (day : ℕ × ℕ) : Type 0 where
  pub month : day.0 ≤ 12
  pub last : day.1 ≤ days_of day.0
  pub first : 0 < day.1
  pub some : 0 < m → 0 < day.0
  pub none : m ≡ 0 → day.0 ≡ 0

before_by : (m d : ℕ) (day : ℕ × ℕ) (a b : Bool) → nat_lt 1 d ≡ a → nat_lt 1 m ≡ b → m ≤ 12 → d ≤ days_of m
    → (if a then Some (m, d - 1) else (if b then Some (m - 1, days_of (m - 1)) else None)) ≡ Some day → IsNext m day
before_by m d day true b e f h k same =
    let more : 1 < d = grind (arith, nat_tests, e) in
    let is : IsNext m (m, d - 1) = record { month = h; last = omega (arith, k); first = omega (arith, more); some = λ s. s; none = λ n. n } in
    subst (IsNext m) (same_Some (m, d - 1) day same) is
before_by m d day false true e f h k same =
    let more : 1 < m = grind (arith, nat_tests, f) in
    let is : IsNext m (m - 1, days_of (m - 1)) = record {
      month = omega (arith, h);
      last = omega arith;
      first = (days_in (m - 1)).0;
      some = λ s. omega (arith, more);
      none = λ n. omega (arith, more, n);
    } in
    subst (IsNext m) (same_Some (m - 1, days_of (m - 1)) day same) is
before_by m d day false false e f h k same = cc

after_by : (m d : ℕ) (day : ℕ × ℕ) (a b : Bool) → nat_lt d (days_of m) ≡ a → (nat_lt 0 m && nat_lt m 12) ≡ b → m ≤ 12
    → (if a then Some (m, d + 1) else (if b then Some (m + 1, 1) else None)) ≡ Some day → IsNext m day
after_by m d day true b e f h same =
    let less : d < days_of m = grind (arith, nat_tests, e) in
    let is : IsNext m (m, d + 1) = record { month = h; last = omega (arith, less); first = omega arith; some = λ s. s; none = λ n. n } in
    subst (IsNext m) (same_Some (m, d + 1) day same) is
after_by m d day false true e f h same =
    let tests = and_parts (nat_lt 0 m) (nat_lt m 12) f in
    let more : 0 < m = grind (arith, nat_tests, tests.0) in
    let less : m < 12 = grind (arith, nat_tests, tests.1) in
    let is : IsNext m (m + 1, 1) = record {
      month = omega (arith, less);
      last = (days_in (m + 1)).0;
      first = omega arith;
      some = λ s. omega arith;
      none = λ n. omega (arith, more, n);
    } in
    subst (IsNext m) (same_Some (m + 1, 1) day same) is
after_by m d day false false e f h same = cc

-- a day with another offset, which is the one of its text
record IsMoved (m : ℕ) (x : ℕ × ℕ × Option ℤ) : Type 0 where
  pub day : ℕ × ℕ
  pub other : ℤ
  pub is : x ≡ (day.0, day.1, Some other)
  pub is_next : IsNext m day
  pub low : neg_ℤ (pos 719) ≤ℤ other
  pub high : other ≤ℤ pos 720

pub below : (a b : ℤ) → lt_z a b ≡ true → a <ℤ b
below a b h = by_lt_z a b (λ l. l) (λ l. grind (arith, ints, nat_tests))

pub not_above : (a b : ℤ) → lt_z a b ≡ false → b ≤ℤ a
not_above a b h = by_lt_z a b (λ l. grind (arith, ints, nat_tests)) (λ l. l)

not_below : (a b : ℤ) → b ≤ℤ a → lt_z a b ≡ false
not_below a b h = by_lt_z a b (λ l. grind (arith, ints, nat_tests)) (λ l. grind (arith, ints, nat_tests))

shifted_by : (m d : ℕ) (z : ℤ) (a b : Bool) (o p : Option (ℕ × ℕ)) → lt_z (pos 720) z ≡ a → lt_z z (neg_ℤ (pos 719)) ≡ b → day_before m d ≡ o
    → day_after m d ≡ p → IsDate m d (Some z)
    → let x = if a then moved (m, d, z) (z +ℤ neg_ℤ (pos 1440)) o else (if b then moved (m, d, z) (z +ℤ pos 1440) p else (m, d, Some z)) in
    (x ≡ (m, d, Some z)) ⊎ IsMoved m x
shifted_by m d z true b None p ea eb eo ep h = inl refl
shifted_by m d z true b (Some day) p ea eb eo ep h =
    let more : pos 720 <ℤ z = below (pos 720) z ea in
    inr (record {
      day = day;
      other = z +ℤ neg_ℤ (pos 1440);
      is = refl;
      is_next = before_by m d day (nat_lt 1 d) (nat_lt 1 m) refl refl h.month h.day eo;
      low = omega (arith, ints, more);
      high = omega (arith, ints, h.offset.1);
    })
shifted_by m d z false true o None ea eb eo ep h = inl refl
shifted_by m d z false true o (Some day) ea eb eo ep h =
    let less : z <ℤ neg_ℤ (pos 719) = below z (neg_ℤ (pos 719)) eb in
    inr (record {
      day = day;
      other = z +ℤ pos 1440;
      is = refl;
      is_next = after_by m d day (nat_lt d (days_of m)) (nat_lt 0 m && nat_lt m 12) refl refl h.month ep;
      low = omega (arith, ints, h.offset.0);
      high = omega (arith, ints, less);
    })
shifted_by m d z false false o p ea eb eo ep h = inl refl

shifted_is : (m d : ℕ) (at : Option ℤ) → IsDate m d at → (shifted m d at ≡ (m, d, at)) ⊎ IsMoved m (shifted m d at)
shifted_is m d None h = inl refl
shifted_is m d (Some z) h = shifted_by m d z _ _ _ _ refl refl refl refl h

stays : (m d : ℕ) (z : ℤ) → neg_ℤ (pos 719) ≤ℤ z → z ≤ℤ pos 720 → shifted m d (Some z) ≡ (m, d, Some z)
stays m d z low high =
    let a : lt_z (pos 720) z ≡ false = not_below (pos 720) z high in
    let b : lt_z z (neg_ℤ (pos 719)) ≡ false = not_below z (neg_ℤ (pos 719)) low in
    rw a rw b refl

-- what is so of a day that is shifted
pub record IsShifted (part : DatePart) (x : ℕ × ℕ × Option ℤ) : Type 0 where
  pub date : IsDate x.0 x.1 x.2
  pub first : IsFirst part x.0 x.1
  pub again : shifted x.0 x.1 x.2 ≡ x

next_first : (part : DatePart) (m d : ℕ) (day : ℕ × ℕ) → IsFirst part m d → IsNext m day → IsFirst part day.0 day.1
next_first parts.Year m d day h n = tt
next_first parts.YearMonth m d day h n = tt
next_first parts.Month m d day h n = tt
next_first parts.MonthDay m d day h n = (n.some h.0, n.first)
next_first parts.Day m d day h n = (n.none h.0, n.first)

pub is_shifted : (part : DatePart) (m d : ℕ) (at : Option ℤ) → IsDate m d at → IsFirst part m d → IsShifted part (shifted m d at)
is_shifted part m d at date first =
    elim (shifted_is m d at date) [
      | inl e ↦ let is : IsShifted part (m, d, at) = record { date = date; first = first; again = e } in subst (IsShifted part) (sym e) is
      | inr r ↦
          let is : IsShifted part (r.day.0, r.day.1, Some r.other) = record {
            date = record {
              month = r.is_next.month;
              day = r.is_next.last;
              offset = (omega (arith, ints, r.low), omega (arith, ints, r.high));
            };
            first = next_first part m d r.day first r.is_next;
            again = stays r.day.0 r.day.1 r.other r.low r.high;
          } in
          subst (IsShifted part) (sym r.is) is
    ]

-- the numbers of a day that is shifted can be written
abbrev pub CanWrite : ℕ × ℕ × Option ℤ → Type 0
CanWrite x = (x.0 < 100) × (x.1 < 100) × IfSome x.2 IsOffset

pub can_write : (part : DatePart) (text y : List ℕ) (m d : ℕ) (at : Option ℤ) (x : ℕ × ℕ × Option ℤ) → Some (y, m, d, at) ≡ part_fields part text
    → x ≡ shifted m d at → CanWrite x
can_write part text y m d at x h e =
    let f = part_in part text (y, m, d, at) (sym h) in
    let s = is_shifted part m d at f.0 f.1 in
    let z = shifted m d at in
    let is : CanWrite z = (omega (arith, s.date.month), omega (arith, s.date.day, (days_in z.0).1), s.date.offset) in
    subst CanWrite (sym e) is

-- ---- a text that is written is read again

in_range : (last n : ℕ) → 0 < n → n ≤ last → (nat_lt 0 n && nat_le n last) ≡ true
in_range last n h k = grind (arith, nat_tests)

number_read : (last n : ℕ) (rest : List ℕ) → 0 < n → n ≤ last → n < 100 → number_at last (two_digits n ++ rest) ≡ Some (n, rest)
number_read last n rest h k small =
    ap (λ (o : Option (ℕ × List ℕ)). o >>= up_to last) (two_of n rest small) ∙ cond-true _ _ _ (in_range last n h k)

zone_read : (at : Option ℤ) → OffsetIn at → zone_at (zone_text at) ≡ Some at
zone_read None h = refl
zone_read (Some z) h = offset_again z h

abbrev with_day : ℕ → ℕ × List ℕ → Option (List ℕ × ℕ × ℕ × List ℕ)
with_day m d = Some ([], m, d.0, d.1)

abbrev with_month : ℕ × List ℕ → Option (List ℕ × ℕ × ℕ × List ℕ)
with_month m = do
  rest ← after_separator 45 m.1
  d ← number_at (days_of m.0) rest
  with_day m.0 d

month_there : (m : ℕ) → 0 < m → month_text m ≡ two_digits m
month_there m h =
    let none : (m == 0) ≡ false = grind (arith, nat_tests) in
    ap (λ b. if b then [] else two_digits m) none

fields_read : (part : DatePart) (m d : ℕ) (rest : List ℕ) → m ≤ 12 → d ≤ days_of m → IsFirst part m d → IsDays part
    → fields_at part (45 ∷ 45 ∷ (month_text m ++ (45 ∷ (two_digits d ++ rest)))) ≡ Some ([], m, d, rest)
unfolding fields_at
fields_read parts.Year m d rest h k first days = absurd days
fields_read parts.YearMonth m d rest h k first days = absurd days
fields_read parts.Month m d rest h k first days = absurd days
fields_read parts.MonthDay m d rest h k first days =
    ap (λ t. number_at 12 (t ++ (45 ∷ (two_digits d ++ rest))) >>= with_month) (month_there m first.0)
    ∙ ap (λ (o : Option (ℕ × List ℕ)). o >>= with_month) (number_read 12 m (45 ∷ (two_digits d ++ rest)) first.0 h (omega (arith, h)))
    ∙ ap (λ (o : Option (ℕ × List ℕ)). o >>= with_day m) (number_read (days_of m) d rest first.1 k (omega (arith, k, (days_in m).1)))
fields_read parts.Day m d rest h k first days =
    let same : m ≡ 0 = first.0 in
    let below : d ≤ 31 = omega (arith, k, (days_in m).1) in
    ap (λ n. fields_at parts.Day (45 ∷ 45 ∷ (month_text n ++ (45 ∷ (two_digits d ++ rest))))) same
    ∙ ap (λ (o : Option (ℕ × List ℕ)). o >>= with_day 0) (number_read 31 d rest first.1 below (omega (arith, below)))
    ∙ ap (λ n. Some ([], n, d, rest)) (sym same)

abbrev with_zone : List ℕ × ℕ × ℕ × List ℕ → Option (List ℕ × ℕ × ℕ × Option ℤ)
with_zone x = do
  zone ← zone_at x.3
  Some (x.0, x.1, x.2, zone)

pub part_read : (part : DatePart) (x : ℕ × ℕ × Option ℤ) → IsDate x.0 x.1 x.2 → IsFirst part x.0 x.1 → IsDays part
    → part_fields part (day_text x) ≡ Some ([], x.0, x.1, x.2)
unfolding part_fields
part_read part x date first days =
    ap (λ (o : Option (List ℕ × ℕ × ℕ × List ℕ)). o >>= with_zone) (fields_read part x.0 x.1 (zone_text x.2) date.month date.day first days)
    ∙ ap (λ (o : Option (Option ℤ)). o >>= (λ zone. Some ([], x.0, x.1, zone))) (zone_read x.2 date.offset)

-- ---- the law

abbrev day_of : List ℕ × ℕ × ℕ × Option ℤ → List ℕ
day_of x = day_text (shifted x.1 x.2 x.3)

abbrev Own : DatePart → List ℕ → Type 0
Own part form = day_form part form ≡ Some form

one_day_by : (part : DatePart) (text form : List ℕ) (o : Option (List ℕ × ℕ × ℕ × Option ℤ)) → part_fields part text ≡ o → IsDays part
    → option_map day_of o ≡ Some form → Own part form
one_day_by part text form None e days h = cc
one_day_by part text form (Some x) e days h =
    let f = part_in part text x e in
    let s = is_shifted part x.1 x.2 x.3 f.0 f.1 in
    let y = shifted x.1 x.2 x.3 in
    let own : Own part (day_text y) =
    ap (λ (o : Option (List ℕ × ℕ × ℕ × Option ℤ)). option_map day_of o) (part_read part y s.date s.first days)
    ∙ ap (λ (y : ℕ × ℕ × Option ℤ). Some (day_text y)) s.again in
    subst (Own part) (same_Some (day_text y) form h) own

pub one_day_text : (part : DatePart) → IsDays part → (text form : List ℕ) → day_form part text ≡ Some form → day_form part form ≡ Some form
one_day_text part days text form h = one_day_by part text form (part_fields part text) refl days h

-- the text of a part of a date is its own text
pub one_date_part_text : (part : DatePart) (text form : List ℕ) → date_part_form part text ≡ Some form → date_part_form part form ≡ Some form
one_date_part_text parts.Year text form h = one_plain_text parts.Year text form h
one_date_part_text parts.YearMonth text form h = one_plain_text parts.YearMonth text form h
one_date_part_text parts.Month text form h = one_plain_text parts.Month text form h
one_date_part_text parts.MonthDay text form h = one_day_text parts.MonthDay tt text form h
one_date_part_text parts.Day text form h = one_day_text parts.Day tt text form h
