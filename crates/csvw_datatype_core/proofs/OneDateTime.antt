-- The text of a moment with a zone or with parts of a second is its own text. The check doesn't find it by itself: it takes the parts of the text apart.
use Rattle.std.proofs.Common.{◌≡◌, ℕ, suc, ◌⊎◌, inl, inr, ◌==◌, Bool, true, false, cond, Option, Some, None, IfSome, option_and_then, List, [], ◌∷◌, ◌++◌}
use Rattle.std.proofs.Common.{◌+◌, append_assoc, is_some, length, take, drop, refl, sym, ap, subst, ◌∙◌, not, arith, ℤ, pos, neg_ℤ, ◌+ℤ◌, ◌*ℤ◌, ◌≤ℤ◌}
use Rattle.std.specs.Char.{is_ascii_digit}
use Rattle.std.specs.List.{prefix_len}
use Rattle.std.proofs.Math.Seq.{take-append_seam, drop-append_seam}
use Rattle.std.proofs.lemmas.List.{length-append, length-take}
use Rattle.std.proofs.lemmas.Bool.{and_parts}
use Rattle.std.proofs.lemmas.Bool.Decides.{nat_tests}
use Rattle.std.proofs.lemmas.Int.{ints, by_lt_z}
use lib.Signed.{lt_z}
use Rattle.std.proofs.lemmas.Option.{same_Some}
use Rattle.csvw_datatype_core.specs.declared.date.DateFormat.TheVariants.{YearFirst}
use Rattle.csvw_datatype_core.specs.declared.moment.MomentFormat.TheVariants.{Seconds}
use Rattle.csvw_datatype_core.specs.declared.date_time.DateTime.{DateTime}
use Rattle.csvw_datatype_core.specs.declared.date_time.DateTime.TheVariants as values
use Rattle.csvw_datatype_core.specs.declared.date_time.Zone.{Zone}
use Rattle.csvw_datatype_core.specs.declared.date_time.Zone.TheVariants as zones
use Rattle.csvw_datatype_core.specs.Fields.{◌>>=◌}
use Rattle.csvw_datatype_core.specs.Dates.{ReadsDate}
use Rattle.csvw_datatype_core.specs.Forms.{moment_form}
use Rattle.csvw_datatype_core.specs.JoinedMoments.{IsPair, ReadsTime}
use Rattle.csvw_datatype_core.specs.LexicalDates.{IsMomentNumber}
use Rattle.csvw_datatype_core.specs.Moments.{ReadsMoment}
use Rattle.csvw_datatype_core.specs.Values.{moment_value}
use Rattle.csvw_datatype_core.specs.DateParts.{digit_count}
use Rattle.csvw_datatype_core.specs.DateTimes.{digits_at, fraction_at, with_first, trimmed, zone_at, is_moment_number, fraction_text, written, in_utc, local, placed, placed_by, parts_of, date_time_value}
use Rattle.csvw_datatype_core.proofs.DateTimeLemmas.{in_range, is_value, parts_found}
use Rattle.csvw_datatype_core.proofs.EveryDay.{form_is_moment}
use Rattle.csvw_datatype_core.proofs.MomentLemmas.{moment_given}

-- ---- the first 19 bytes

two_long : (ds : List ℕ) → (length ds ≡ 2) ⊎ (⊥ × (length ds ≡ 1)) → length ds ≡ 2
two_long ds h = elim h [ inl e ↦ e | inr p ↦ absurd p.0 ]

pub date_long : (text : List ℕ) (day : ℤ) → ReadsDate YearFirst text day → length text ≡ 10
date_long text day r =
    ap length r.spelled
    ∙ omega (
      arith,
      length-append r.y (45 ∷ (r.m ++ (45 ∷ r.d))),
      length-append r.m (45 ∷ r.d),
      r.year.1,
      two_long r.m r.month.count,
      two_long r.d r.date.count,
    )

time_long : (text : List ℕ) (second : ℕ) → ReadsTime Seconds text second → length text ≡ 9
time_long text second r =
    let last : IsPair r.s 60 = r.is_second.1 in
    ap length r.spelled
    ∙ omega (
      arith,
      length-append r.h (58 ∷ (r.m ++ r.tail)),
      length-append r.m r.tail,
      ap length r.is_second.0,
      r.is_hour.1,
      r.is_minute.1,
      last.1,
    )

moment_long : (text : List ℕ) (moment : ℤ) → ReadsMoment Seconds text moment → length text ≡ 19
moment_long text moment r =
    ap length r.spelled ∙ omega (arith, length-append r.date r.time, date_long r.date r.day r.is_date, time_long r.time r.second r.is_time)

form_long : (moment : ℤ) → IsMomentNumber moment → length (moment_form moment) ≡ 19
form_long moment range = moment_long (moment_form moment) moment (form_is_moment moment range)

-- ---- the digits of the parts of a second

abbrev pub AreDigits : List ℕ → Type 0
AreDigits [] = Unit {0}
AreDigits (d ∷ ds) = (is_ascii_digit d ≡ true) × AreDigits ds

count_digit : (b : ℕ) (bs : List ℕ) → is_ascii_digit b ≡ true → digit_count (b ∷ bs) ≡ suc (digit_count bs)
count_digit b bs e =
    let count = prefix_len is_ascii_digit bs in rw e (omega (arith, length-take (1 + count) (b ∷ bs), length-take count bs))

first_taken : (b : ℕ) (bs : List ℕ) (is : Bool) → is_ascii_digit b ≡ is → AreDigits (take (digit_count bs) bs)
    → AreDigits (take (digit_count (b ∷ bs)) (b ∷ bs))
first_taken b bs true e rest = let P : ℕ → Type 0 = λ n. AreDigits (take n (b ∷ bs)) in subst P (sym (count_digit b bs e)) (e, rest)
first_taken b bs false e rest = rw e tt

are_taken : (bs : List ℕ) → AreDigits (take (digit_count bs) bs)
are_taken [] = tt
are_taken (b ∷ bs) = first_taken b bs (is_ascii_digit b) refl (are_taken bs)

one_kept : (b : Bool) (d : ℕ) → is_ascii_digit d ≡ true → AreDigits (cond b [] (d ∷ []))
one_kept true d h = tt
one_kept false d h = (h, tt)

first_kept : (d : ℕ) (ds : List ℕ) → is_ascii_digit d ≡ true → AreDigits ds → AreDigits (with_first d ds)
first_kept d [] h rest = one_kept (d == 48) d h
first_kept d (e ∷ es) h rest = (h, rest)

pub are_kept : (ds : List ℕ) → AreDigits ds → AreDigits (trimmed ds)
are_kept [] h = tt
are_kept (d ∷ ds) h = first_kept d (trimmed ds) h.0 (are_kept ds h.1)

one_again : (b : Bool) (d : ℕ) → (d == 48) ≡ b → trimmed (cond b [] (d ∷ [])) ≡ cond b [] (d ∷ [])
one_again true d e = refl
one_again false d e = rw e refl

first_again : (d : ℕ) (es : List ℕ) → trimmed es ≡ es → trimmed (with_first d es) ≡ with_first d es
first_again d [] h = one_again (d == 48) d refl
first_again d (e ∷ es) h = ap (λ l. with_first d l) h

pub kept_again : (ds : List ℕ) → trimmed (trimmed ds) ≡ trimmed ds
kept_again [] = refl
kept_again (d ∷ ds) = first_again d (trimmed ds) (kept_again ds)

-- ---- the ending: "Z", or nothing

abbrev pub ending : Bool → List ℕ
ending true = 90 ∷ []
ending false = []

abbrev pub minutes_of : Bool → Option ℤ
minutes_of true = Some (pos 0)
minutes_of false = None

zone_again : (b : Bool) → zone_at (ending b) ≡ Some (minutes_of b)
zone_again true = refl
zone_again false = refl

-- a text that no digit of a second begins, and no point
abbrev pub IsRest : List ℕ → Type 0
IsRest rest = (digit_count rest ≡ 0) × (fraction_at rest ≡ Some ([], rest))

count_again : (rest ds : List ℕ) → digit_count rest ≡ 0 → AreDigits ds → digit_count (ds ++ rest) ≡ length ds
count_again rest [] none h = none
count_again rest (d ∷ ds) none h = count_digit d (ds ++ rest) h.0 ∙ ap suc (count_again rest ds none h.1)

abbrev split_as : List ℕ → List ℕ → Option (List ℕ × List ℕ)
split_as front back = Some (front, back)

digits_again : (rest : List ℕ) (d : ℕ) (ds : List ℕ) → digit_count rest ≡ 0 → AreDigits (d ∷ ds) → digits_at ((d ∷ ds) ++ rest) ≡ Some (d ∷ ds, rest)
digits_again rest d ds none h =
    let bs = (d ∷ ds) ++ rest in
    let count = count_again rest (d ∷ ds) none h in
    let some : (digit_count bs == 0) ≡ false = grind (arith, nat_tests, count) in
    rw some
    (ap (λ n. split_as (take n bs) (drop n bs)) count ∙ ap (λ l. split_as l (drop (length (d ∷ ds)) bs)) (take-append_seam (d ∷ ds) rest)
    ∙ ap (λ l. split_as (d ∷ ds) l) (drop-append_seam (d ∷ ds) rest))

pub fraction_before : (rest ds : List ℕ) → IsRest rest → AreDigits ds → fraction_at (fraction_text ds ++ rest) ≡ Some (ds, rest)
fraction_before rest [] none h = none.1
fraction_before rest (d ∷ ds) none h = digits_again rest d ds none.0 h

is_rest : (b : Bool) → IsRest (ending b)
is_rest true = (refl, refl)
is_rest false = (refl, refl)

pub fraction_again : (b : Bool) (ds : List ℕ) → AreDigits ds → fraction_at (fraction_text ds ++ ending b) ≡ Some (ds, ending b)
fraction_again b ds h = fraction_before (ending b) ds (is_rest b) h

-- ---- the parts of the text

pub parts_again : (b : Bool) (moment : ℤ) (ds : List ℕ) → IsMomentNumber moment → AreDigits ds → trimmed ds ≡ ds
    → parts_of (moment_form moment ++ (fraction_text ds ++ ending b)) ≡ Some (moment, ds, minutes_of b)
parts_again b moment ds range digits kept =
    let front = moment_form moment in
    let back = fraction_text ds ++ ending b in
    let long = form_long moment range in
    let P : ℕ → Type 0 = λ n. front ≡ take n (front ++ back) in
    let Q : ℕ → Type 0 = λ n. back ≡ drop n (front ++ back) in
    sym (parts_found (front ++ back) front back (ending b) ds ds moment (minutes_of b) (subst P long (sym (take-append_seam front back)))
    (subst Q long (sym (drop-append_seam front back))) (is_value front (Some moment) (form_is_moment moment range))
    (sym (fraction_again b ds digits)) (sym (zone_again b)) (sym kept))

value_again : (zone : Zone) (b : Bool) (moment : ℤ) (ds form : List ℕ) → IsMomentNumber moment → AreDigits ds → trimmed ds ≡ ds
    → written moment ds (ending b) ≡ values.Written form → placed zone moment ds (minutes_of b) ≡ Some (written moment ds (ending b))
    → date_time_value zone form ≡ Some (values.Written form)
value_again zone b moment ds form range digits kept is there =
    let same = sym (append_assoc (moment_form moment) (fraction_text ds) (ending b)) ∙ text_of is in
    ap (λ (t : List ℕ). date_time_value zone t) (sym same) ∙ ap (λ o. option_and_then (placed_by zone) o) (parts_again b moment ds range digits kept)
    ∙ there ∙ ap (λ v. Some v) is
  where
    content : DateTime → List ℕ
    content (values.Second second) = []
    content (values.Written text) = text

    text_of : {s t : List ℕ} → values.Written s ≡ values.Written t → s ≡ t
    text_of e = ap content e

-- ---- what a text writes

some_if : {A : Type 0} (b : Bool) (x : A) → b ≡ is_some (cond b (Some x) None)
some_if true x = refl
some_if false x = refl

pub utc_some : (moment : ℤ) (ds : List ℕ) → is_moment_number moment ≡ is_some (in_utc moment ds)
utc_some moment ds = some_if (is_moment_number moment) (written moment ds (90 ∷ []))

utc_again : (zone : Zone) (moment : ℤ) (ds form : List ℕ) (b : Bool) → is_moment_number moment ≡ b → IsMomentNumber moment → AreDigits ds → trimmed ds ≡ ds
    → cond b (Some (written moment ds (90 ∷ []))) None ≡ Some (values.Written form) → date_time_value zone form ≡ Some (values.Written form)
utc_again zone moment ds form false is range digits kept e = cc
utc_again zone moment ds form true is range digits kept e =
    let stays : (moment +ℤ (pos 0 *ℤ neg_ℤ (pos 60))) ≡ moment = omega (arith, ints) in
    let there : in_utc (moment +ℤ (pos 0 *ℤ neg_ℤ (pos 60))) ds ≡ Some (written moment ds (90 ∷ [])) = ap (λ m. in_utc m ds) stays ∙ rw is refl in
    value_again zone true moment ds form range digits kept (same_Some (written moment ds (90 ∷ [])) (values.Written form) e) there

abbrev pub IsKept : List ℕ → Type 0
IsKept ds = AreDigits ds × (trimmed ds ≡ ds)

local_again : (moment : ℤ) (ds form : List ℕ) → IsMomentNumber moment → IsKept ds → Some (local moment ds) ≡ Some (values.Written form)
    → date_time_value zones.Optional form ≡ Some (values.Written form)
local_again moment [] form range kept e = cc
local_again moment (d ∷ ds) form range kept e =
    value_again zones.Optional false moment (d ∷ ds) form range kept.0 kept.1 (same_Some (written moment (d ∷ ds) []) (values.Written form) e) refl

-- a second that is in the years 0001 to 9999
pub second_in_range : (moment : ℤ) → is_moment_number moment ≡ true → IsMomentNumber moment
second_in_range moment h =
    let parts = and_parts (not (lt_z moment (neg_ℤ (pos 62_135_596_800)))) (not (lt_z (pos 253_402_300_799) moment)) h in
    (not_below moment (neg_ℤ (pos 62_135_596_800)) parts.0, not_below (pos 253_402_300_799) moment parts.1)
  where
    not_below : (a b : ℤ) → not (lt_z a b) ≡ true → b ≤ℤ a
    not_below a b h = by_lt_z a b (λ l. grind (arith, ints, nat_tests)) (λ l. l)

utc_from : (zone : Zone) (moment : ℤ) (ds form : List ℕ) (b : Bool) → is_moment_number moment ≡ b → IsKept ds
    → cond b (Some (written moment ds (90 ∷ []))) None ≡ Some (values.Written form) → date_time_value zone form ≡ Some (values.Written form)
utc_from zone moment ds form false is kept e = cc
utc_from zone moment ds form true is kept e = utc_again zone moment ds form true is (second_in_range moment is) kept.0 kept.1 e

pub placed_again : (zone : Zone) (moment : ℤ) (ds : List ℕ) (minutes : Option ℤ) (form : List ℕ) → IsMomentNumber moment → IsKept ds
    → placed zone moment ds minutes ≡ Some (values.Written form) → date_time_value zone form ≡ Some (values.Written form)
placed_again zone moment ds (Some minutes) form range kept e = utc_from zone (moment +ℤ (minutes *ℤ neg_ℤ (pos 60))) ds form _ refl kept e
placed_again zones.Optional moment ds None form range kept e = local_again moment ds form range kept e
placed_again zones.Required moment ds None form range kept e = cc

after_zone : (zone : Zone) (moment : ℤ) (ds : List ℕ) (o : Option (Option ℤ)) (form : List ℕ) → IsMomentNumber moment → IsKept ds
    → option_and_then (placed_by zone) (o >>= (λ minutes. Some (moment, ds, minutes))) ≡ Some (values.Written form)
    → date_time_value zone form ≡ Some (values.Written form)
after_zone zone moment ds None form range kept e = cc
after_zone zone moment ds (Some minutes) form range kept e = placed_again zone moment ds minutes form range kept e

abbrev pub HasDigits : Option (List ℕ × List ℕ) → Type 0
HasDigits o = IfSome o (λ x. AreDigits x.0)

some_digits : (bs : List ℕ) (b : Bool) → HasDigits (cond b None (Some (take (digit_count bs) bs, drop (digit_count bs) bs)))
some_digits bs true = tt
some_digits bs false = are_taken bs

after_point : (b : ℕ) (bs : List ℕ) (is : Bool) → HasDigits (cond is (digits_at bs) (Some ([], b ∷ bs)))
after_point b bs true = some_digits bs (digit_count bs == 0)
after_point b bs false = tt

pub fraction_digits : (bs : List ℕ) → HasDigits (fraction_at bs)
fraction_digits [] = tt
fraction_digits (b ∷ bs) = after_point b bs (b == 46)

after_fraction : (zone : Zone) (moment : ℤ) (o : Option (List ℕ × List ℕ)) (form : List ℕ) → IsMomentNumber moment → HasDigits o
    → option_and_then (placed_by zone) (o >>= (λ fraction. zone_at fraction.1 >>= (λ minutes. Some (moment, trimmed fraction.0, minutes))))
    ≡ Some (values.Written form) → date_time_value zone form ≡ Some (values.Written form)
after_fraction zone moment None form range digits e = cc
after_fraction zone moment (Some fraction) form range digits e =
    after_zone zone moment (trimmed fraction.0) (zone_at fraction.1) form range (are_kept fraction.0 digits, kept_again fraction.0) e

after_second : (zone : Zone) (o : Option ℤ) (rest form : List ℕ) → IfSome o IsMomentNumber
    → option_and_then (placed_by zone)
    (o >>= (λ m. fraction_at rest >>= (λ fraction. zone_at fraction.1 >>= (λ minutes. Some (m, trimmed fraction.0, minutes)))))
    ≡ Some (values.Written form) → date_time_value zone form ≡ Some (values.Written form)
after_second zone None rest form range e = cc
after_second zone (Some moment) rest form range e = after_fraction zone moment (fraction_at rest) form range (fraction_digits rest) e

pub same_date_time : (zone : Zone) (text form : List ℕ) → date_time_value zone text ≡ Some (values.Written form)
    → date_time_value zone form ≡ Some (values.Written form)
unfolding parts_of
same_date_time zone text form e =
    let front = take 19 text in
    after_second zone (moment_value Seconds front) (drop 19 text) form (in_range front (moment_value Seconds front) (moment_given Seconds front)) e
