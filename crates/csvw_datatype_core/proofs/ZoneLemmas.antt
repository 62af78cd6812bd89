-- A second of a day and an offset are small. The check doesn't find it by itself: it takes each case of a reader.
use Rattle.std.proofs.Common.{◌≡◌, ℕ, ◌+◌, ◌*◌, ◌<◌, ◌≤◌, ◌==◌, Bool, true, false, ◌&&◌, cond, Option, Some, None, IfSome, MatchOption, List, [], ◌∷◌, refl, arith, ℤ, pos}
use Rattle.std.specs.Prelude.{nat_lt}
use Rattle.std.proofs.lemmas.Bool.{and_parts}
use Rattle.std.proofs.lemmas.Bool.Decides.{nat_tests}
use Rattle.std.proofs.lemmas.Int.{ints}
use Rattle.csvw_datatype_core.specs.declared.stamp_format.UtcMark.{UtcMark}
use Rattle.csvw_datatype_core.specs.declared.stamp_format.UtcMark.TheVariants as marks
use Rattle.csvw_datatype_core.specs.declared.stamp_format.ZoneFormat.{ZoneFormat}
use Rattle.csvw_datatype_core.specs.declared.time.TimeFormat.{TimeFormat}
use Rattle.csvw_datatype_core.specs.DateParts.{is_empty, is_offset, offset_fields}
use Rattle.csvw_datatype_core.specs.DateTimes.{IsOffset, at_utc, east, minutes_of, west, zone_at}
use Rattle.csvw_datatype_core.specs.Stamps.{after_gap, ending_at, offset_at, offset_digits, utc_at}
use Rattle.csvw_datatype_core.specs.TimeFields.{IsTimeOfDay}
use Rattle.csvw_datatype_core.specs.Times.{clock_fields}
use Rattle.csvw_datatype_core.specs.Values.{is_time_of_day, second_of, time_value}
use Rattle.csvw_datatype_core.proofs.StampLemmas.{any_some, bind_some}

-- ---- the second of a day

abbrev IsSecond : ℕ → Type 0
IsSecond n = n < 86_400

second_by : (h m s : ℕ) (b : Bool) → is_time_of_day h m s ≡ b → IfSome (cond b (Some (h * 3600 + m * 60 + s)) None) IsSecond
second_by h m s true e =
    let first = and_parts (nat_lt h 24) (nat_lt m 60 && nat_lt s 60) e in
    let last = and_parts (nat_lt m 60) (nat_lt s 60) first.1 in
    grind (arith, nat_tests, first.0, last.0, last.1)
second_by h m s false e = tt

second_low : (o : Option (ℕ × ℕ × ℕ)) → IfSome (second_of o) IsSecond
second_low None = tt
second_low (Some x) = second_by x.0 x.1 x.2 (is_time_of_day x.0 x.1 x.2) refl

pub day_second : (t : TimeFormat) (bs : List ℕ) → IfSome (time_value t bs) IsSecond
unfolding time_value
day_second t bs = second_low (clock_fields t bs)

pub second_limit : (h m s : ℕ) (o : Option ℕ) → MatchOption o (¬ IsTimeOfDay h m s) (λ n. IsTimeOfDay h m s × (n ≡ h * 3600 + m * 60 + s)) → IfSome o IsSecond
second_limit h m s None k = tt
second_limit h m s (Some n) k = let is = k.0 in omega (arith, k.1, is.0, is.1, is.2)

-- ---- an offset

pub offset_limit : (h m : ℕ) → is_offset h m ≡ true → h * 60 + m ≤ 840
offset_limit h m e = grind (arith, nat_tests)

abbrev IsFew : ℕ → Type 0
IsFew n = n ≤ 840

minutes_by : (h m : ℕ) (b : Bool) → is_offset h m ≡ b → IfSome (cond b (Some (h * 60 + m)) None) IsFew
minutes_by h m true e = offset_limit h m e
minutes_by h m false e = tt

minutes_low : (o : Option (ℕ × ℕ)) → IfSome (minutes_of o) IsFew
minutes_low None = tt
minutes_low (Some x) = minutes_by x.0 x.1 (is_offset x.0 x.1) refl

abbrev pub IsRange : Option ℤ → Type 0
IsRange o = IfSome o IsOffset

east_low : (o : Option ℕ) → IfSome o IsFew → IfSome (east o) IsRange
east_low None h = tt
east_low (Some n) h = (omega (arith, ints), omega (arith, ints, h))

west_low : (o : Option ℕ) → IfSome o IsFew → IfSome (west o) IsRange
west_low None h = tt
west_low (Some n) h = (omega (arith, ints, h), omega (arith, ints))

utc_by : (b : Bool) → IfSome (cond b (Some (Some (pos 0))) None) IsRange
utc_by true = (omega (arith, ints), omega (arith, ints))
utc_by false = tt

sign_by : (a b c : Bool) (x y z : Option (Option ℤ)) → IfSome x IsRange → IfSome y IsRange → IfSome z IsRange
    → IfSome (cond a x (cond b y (cond c z None))) IsRange
sign_by true b c x y z p q r = p
sign_by false true c x y z p q r = q
sign_by false false true x y z p q r = r
sign_by false false false x y z p q r = tt

pub zone_range : (bs : List ℕ) → IfSome (zone_at bs) IsRange
zone_range [] = tt
zone_range (b ∷ bs) =
    sign_by (b == 90) (b == 43) (b == 45) (at_utc bs) (east (minutes_of (offset_fields bs))) (west (minutes_of (offset_fields bs))) (utc_by (is_empty bs))
    (east_low _ (minutes_low (offset_fields bs))) (west_low _ (minutes_low (offset_fields bs)))

pub utc_range : (utc : UtcMark) (bs : List ℕ) → IfSome (utc_at utc bs) IsRange
utc_range marks.Allowed bs = utc_by (is_empty bs)
utc_range marks.Digits bs = tt

pub offset_range : (zone : ZoneFormat) (bs : List ℕ) → IfSome (offset_at zone bs) IsRange
offset_range zone [] = tt
offset_range zone (b ∷ bs) =
    sign_by (b == 90) (b == 43) (b == 45) (utc_at zone.utc bs) (east (minutes_of (offset_digits zone.form bs)))
    (west (minutes_of (offset_digits zone.form bs))) (utc_range zone.utc bs) (east_low _ (minutes_low (offset_digits zone.form bs)))
    (west_low _ (minutes_low (offset_digits zone.form bs)))

none_by : (b : Bool) → IfSome (cond b (Some None) None) IsRange
none_by true = tt
none_by false = tt

pub ending_range : (zone : Option ZoneFormat) (bs : List ℕ) → IfSome (ending_at zone bs) IsRange
ending_range None bs = none_by (is_empty bs)
ending_range (Some zone) bs =
    bind_some (after_gap zone.gap bs) (offset_at zone) (λ r. Unit {0}) IsRange (any_some (after_gap zone.gap bs)) (λ r u. offset_range zone r)
