-- The text of a time of day is its own text. The check doesn't find it by itself: it takes the hours and the zone of the text apart.
use Rattle.std.proofs.Common.{◌≡◌, ℕ, ◌+◌, ◌-◌, ◌*◌, ◌/◌, ◌%◌, ◌<◌, ◌≤◌, Bool, true, false, if◌then◌else◌, Option, Some, None, IfSome}
use Rattle.std.proofs.Common.{List, [], ◌++◌, append-nil, take, drop, refl, sym, ap, ◌∙◌, arith, ℤ, pos, neg_ℤ, ◌+ℤ◌, ◌*ℤ◌, unsigned_abs}
use Rattle.std.specs.Prelude.{nat_lt, is_some, option_map}
use Rattle.std.proofs.lemmas.Bool.Decides.{nat_tests}
use Rattle.std.proofs.lemmas.Int.{ints}
use Rattle.std.proofs.lemmas.Option.{same_Some}
use Rattle.csvw_datatype_core.specs.declared.clock.ClockFormat.{ClockFormat}
use Rattle.csvw_datatype_core.specs.declared.clock.ClockFormat.TheVariants as clocks
use Rattle.csvw_datatype_core.specs.declared.time.TimeFormat.TheVariants as times
use Rattle.csvw_datatype_core.specs.Clocks.{clock_form, clock_in, clock_instant, clock_parts, clock_text, zoned_hour, zoned_minutes, zoned_second, zoned_text}
use Rattle.csvw_datatype_core.specs.DateTimes.{IsOffset, fraction_at, fraction_text, zone_at}
use Rattle.csvw_datatype_core.specs.Fields.{◌>>=◌}
use Rattle.csvw_datatype_core.specs.Instants.{placed_instant}
use Rattle.csvw_datatype_core.specs.Offsets.{offset_text}
use Rattle.csvw_datatype_core.specs.Stamps.{ending_at, fraction_within, time_len}
use Rattle.csvw_datatype_core.specs.Values.{time_value}
use Rattle.csvw_datatype_core.proofs.OffsetLemmas.{offset_again, offset_is_rest}
use Rattle.csvw_datatype_core.proofs.OneDateTime.{IsKept, IsRest, are_kept, fraction_before, fraction_digits, kept_again}
use Rattle.csvw_datatype_core.proofs.OneTime.{second_again}
use Rattle.csvw_datatype_core.proofs.StampLemmas.{SomeDigits, bind_some, digits_within}
use Rattle.csvw_datatype_core.proofs.ZoneLemmas.{day_second, ending_range, zone_range}

-- ---- the zone that is written

range_by : (h : ℕ) (a b : Bool) → nat_lt h 14 ≡ a → nat_lt h 38 ≡ b → h < 52
    → IsOffset (if a then pos ((14 - h) * 60) else (if b then pos 0 else neg_ℤ (pos ((h - 37) * 60))))
range_by h true b p q low = (omega (arith, ints), omega (arith, ints))
range_by h false true p q low = (omega (arith, ints), omega (arith, ints))
range_by h false false p q low = (omega (arith, ints, low), omega (arith, ints))

pub in_range : (h : ℕ) → h < 52 → IsOffset (zoned_minutes h)
in_range h low = range_by h (nat_lt h 14) (nat_lt h 38) refl refl low

-- ---- the second that is written

hour_by : (h : ℕ) (a b : Bool) → nat_lt h 14 ≡ a → nat_lt h 38 ≡ b → (if a then 0 else (if b then h - 14 else 23)) < 24
hour_by h true b p q = omega arith
hour_by h false true p q = let less : h < 38 = grind (arith, nat_tests) in omega (arith, less)
hour_by h false false p q = omega arith

pub hour_low : (h : ℕ) → zoned_hour h < 24
hour_low h = hour_by h (nat_lt h 14) (nat_lt h 38) refl refl

abbrev pub second_in : ℕ → ℕ → ℕ
second_in hour n = hour * 3600 + (n / 60 % 60) * 60 + n % 60

abbrev pub counted : ℕ → ℤ → ℤ
counted second minutes = (pos second +ℤ (minutes *ℤ neg_ℤ (pos 60))) +ℤ pos 50_400

pub count_by : (n : ℕ) (a b : Bool) → nat_lt (n / 3600) 14 ≡ a → nat_lt (n / 3600) 38 ≡ b
    → counted (second_in (if a then 0 else (if b then n / 3600 - 14 else 23)) n)
    (if a then pos ((14 - n / 3600) * 60) else (if b then pos 0 else neg_ℤ (pos ((n / 3600 - 37) * 60)))) ≡ pos n
count_by n true b p q = let less : n / 3600 < 14 = grind (arith, nat_tests) in omega (arith, ints, less)
count_by n false true p q = let more : 14 ≤ n / 3600 = grind (arith, nat_tests) in omega (arith, ints, more)
count_by n false false p q = let more : 38 ≤ n / 3600 = grind (arith, nat_tests) in omega (arith, ints, more)

second_back : (n : ℕ) → zoned_second (second_in (zoned_hour (n / 3600)) n) (zoned_minutes (n / 3600)) ≡ n
second_back n = ap unsigned_abs (count_by n (nat_lt (n / 3600) 14) (nat_lt (n / 3600) 38) refl refl)

pub local_back : (n : ℕ) → second_in (n / 3600) n ≡ n
local_back n = omega arith

-- ---- a text is read again

abbrev pub Found : Type 0
Found = ℕ × List ℕ × Option ℤ

abbrev pub text_of : Found → List ℕ
text_of x = clock_text x.0 x.1 x.2

pub parts_again : (hour n : ℕ) (ds rest : List ℕ) (minutes : Option ℤ) → hour < 24 → IsKept ds → IsRest rest → zone_at rest ≡ Some minutes
    → clock_parts clocks.Any (clock_in hour n ++ (fraction_text ds ++ rest)) ≡ Some (second_in hour n, ds, minutes)
unfolding clock_parts
parts_again hour n ds rest minutes low kept none zone =
    let second = second_again hour (n / 60 % 60) (n % 60) low (omega arith) (omega arith) in
    rw (second, fraction_before rest ds none kept.0, zone, kept.1) refl

zoned_again : (n : ℕ) (ds : List ℕ) → n < 187_200 → IsKept ds → clock_form clocks.Any (zoned_text n ds) ≡ Some (zoned_text n ds)
zoned_again n ds low kept =
    let h = n / 3600 in
    let few : h < 52 = omega (arith, low) in
    ap (λ o. option_map text_of o) (parts_again (zoned_hour h) n ds (offset_text (zoned_minutes h)) (Some (zoned_minutes h)) (hour_low h) kept (offset_is_rest (zoned_minutes h))
    (offset_again (zoned_minutes h) (in_range h few)))
    ∙ ap (λ k. Some (zoned_text k ds)) (second_back n)

local_again : (n : ℕ) (ds : List ℕ) → n < 86_400 → IsKept ds
    → clock_form clocks.Any (clock_in (n / 3600) n ++ fraction_text ds) ≡ Some (clock_in (n / 3600) n ++ fraction_text ds)
local_again n ds low kept =
    let h = n / 3600 in
    let none : List ℕ = [] in
    let few : h < 24 = omega (arith, low) in
    ap (λ (l : List ℕ). clock_form clocks.Any (clock_in h n ++ l)) (sym (append-nil (fraction_text ds)))
    ∙ ap (λ o. option_map text_of o) (parts_again h n ds none None few kept (refl, refl) refl)
    ∙ ap (λ k. Some (clock_in (k / 3600) k ++ fraction_text ds)) (local_back n)

-- ---- what a text writes

abbrev pub AreParts : Found → Type 0
AreParts x = (x.0 < 86_400) × IsKept x.1 × IfSome x.2 IsOffset

abbrev ends_with : ℕ → List ℕ → Option (Option ℤ) → Option Found
ends_with second ds o = o >>= (λ minutes. Some (second, ds, minutes))

pub are_parts : (f : ClockFormat) (bs : List ℕ) → IfSome (clock_parts f bs) AreParts
unfolding clock_parts
are_parts (clocks.Pattern p) bs =
    bind_some (time_value p.time (take (time_len p.time) bs)) _ (λ n. n < 86_400) AreParts (day_second p.time (take (time_len p.time) bs))
    (λ n low. bind_some (fraction_within p.digits (drop (time_len p.time) bs)) _ SomeDigits AreParts (digits_within p.digits (drop (time_len p.time) bs))
    (λ y digits. bind_some (ending_at p.zone y.1) _ (λ o. IfSome o IsOffset) AreParts (ending_range p.zone y.1)
    (λ minutes range. (low, (are_kept y.0 digits, kept_again y.0), range))))
are_parts clocks.Any bs =
    bind_some (time_value times.Seconds (take 8 bs)) _ (λ n. n < 86_400) AreParts (day_second times.Seconds (take 8 bs))
    (λ n low. bind_some (fraction_at (drop 8 bs)) _ SomeDigits AreParts (fraction_digits (drop 8 bs))
    (λ y digits. bind_some (zone_at y.1) _ (λ o. IfSome o IsOffset) AreParts (zone_range y.1)
    (λ minutes range. (low, (are_kept y.0 digits, kept_again y.0), range))))

text_again : (second : ℕ) (ds : List ℕ) (minutes : Option ℤ) → second < 86_400 → IsKept ds → IfSome minutes IsOffset
    → clock_form clocks.Any (clock_text second ds minutes) ≡ Some (clock_text second ds minutes)
text_again second ds None low kept range = local_again second ds low kept
text_again second ds (Some minutes) low kept range =
    zoned_again (zoned_second second minutes) ds (count_low second minutes low range) kept
  where
    count_low : (second : ℕ) (minutes : ℤ) → second < 86_400 → IsOffset minutes → zoned_second second minutes < 187_200
    count_low second minutes low range = omega (arith, ints, low, range.0, range.1)

same_by : (o : Option Found) (form : List ℕ) → IfSome o AreParts → option_map text_of o ≡ Some form → clock_form clocks.Any form ≡ Some form
same_by None form h e = cc
same_by (Some x) form h e =
    let same : text_of x ≡ form = same_Some (text_of x) form e in
    ap (λ (t : List ℕ). clock_form clocks.Any t) (sym same) ∙ text_again x.0 x.1 x.2 h.0 h.1 h.2 ∙ ap (λ t. Some t) same

pub same_clock : (f : ClockFormat) (text form : List ℕ) → clock_form f text ≡ Some form → clock_form clocks.Any form ≡ Some form
same_clock f text form e = same_by (clock_parts f text) form (are_parts f text) e

-- ---- a moment on the time line

both_some : (o : Option Found)
    → is_some (option_map (λ (x : ℕ × List ℕ × Option ℤ). placed_instant (pos x.0) x.1 x.2) o) ≡ is_some (option_map text_of o)
both_some None = refl
both_some (Some x) = refl

pub has_instant : (text : List ℕ) → is_some (clock_instant text) ≡ is_some (clock_form clocks.Any text)
has_instant text = both_some (clock_parts clocks.Any text)
