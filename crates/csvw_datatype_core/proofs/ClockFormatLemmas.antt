-- A pattern of a time of day has one reading: the zone, the digits and the time of day. The search doesn't take a pattern apart.
use Rattle.std.proofs.Common.{◌≡◌, ◌≢◌, ℕ, ◌==◌, Bool, true, false, ◌&&◌, if◌then◌else◌, Option, Some, None, List, ◌++◌, length, refl, sym, ap, ◌∙◌}
use Rattle.std.specs.Prelude.{nat_le}
use Rattle.std.proofs.lemmas.Bool.{and_parts}
use Rattle.std.proofs.lemmas.Option.{same_Some}
use Rattle.csvw_datatype_core.specs.declared.clock.ClockFormat.{ClockFormat}
use Rattle.csvw_datatype_core.specs.declared.clock.ClockFormat.TheVariants as clocks
use Rattle.csvw_datatype_core.specs.declared.clock.ClockPattern.{ClockPattern}
use Rattle.csvw_datatype_core.specs.declared.stamp_format.ZoneFormat.{ZoneFormat}
use Rattle.csvw_datatype_core.specs.declared.time.TimeFormat.{TimeFormat}
use Rattle.csvw_datatype_core.specs.declared.time.TimeFormat.TheVariants as times
use Rattle.csvw_datatype_core.specs.Clocks.{clock_pattern, has_pattern, is_clock_pattern, is_seconds}
use Rattle.csvw_datatype_core.specs.StampFormats.{fraction_pattern, fraction_split, zone_split}
use Rattle.csvw_datatype_core.specs.Times.{time_pattern}
use Rattle.csvw_datatype_core.proofs.StampFormatLemmas.{fraction_after, pattern_plain, zone_after}

abbrev front_of : ClockPattern → List ℕ
front_of p = time_pattern p.time ++ fraction_pattern p.digits

few : (p : ClockPattern) → is_clock_pattern p ≡ true → nat_le p.digits 255 ≡ true
few p s = (and_parts (nat_le p.digits 255) (if p.digits == 0 then true else is_seconds p.time) s).0

zone_of : (bs : List ℕ) (p : ClockPattern) → bs ≡ clock_pattern (clocks.Pattern p) → zone_split bs ≡ Some (front_of p, p.zone)
zone_of bs p e = ap zone_split e ∙ zone_after (time_pattern p.time) p.digits p.zone (λ l. pattern_plain l p.time)

fraction_of : (p : ClockPattern) → is_clock_pattern p ≡ true → fraction_split (front_of p) ≡ Some (time_pattern p.time, p.digits)
fraction_of p s = fraction_after (time_pattern p.time) p.digits (λ l. pattern_plain l p.time) (few p s)

zone_parts : (bs front : List ℕ) (zone : Option ZoneFormat) (p : ClockPattern) → Some (front, zone) ≡ zone_split bs
    → bs ≡ clock_pattern (clocks.Pattern p) → ◌≡◌ {A = List ℕ × Option ZoneFormat} (front, zone) (front_of p, p.zone)
zone_parts bs front zone p h e = same_Some (front, zone) (front_of p, p.zone) (h ∙ zone_of bs p e)

fraction_parts : (bs front last : List ℕ) (zone : Option ZoneFormat) (n : ℕ) (p : ClockPattern) → Some (front, zone) ≡ zone_split bs
    → Some (last, n) ≡ fraction_split front → is_clock_pattern p ≡ true → bs ≡ clock_pattern (clocks.Pattern p)
    → ◌≡◌ {A = List ℕ × ℕ} (last, n) (time_pattern p.time, p.digits)
fraction_parts bs front last zone n p h k s e =
    same_Some (last, n) (time_pattern p.time, p.digits)
    (k ∙ ap (λ (x : List ℕ × Option ZoneFormat). fraction_split x.0) (zone_parts bs front zone p h e) ∙ fraction_of p s)

pub never_zone : (bs : List ℕ) → None ≡ zone_split bs → (f : ClockFormat) → has_pattern f ≡ true → bs ≢ clock_pattern f
never_zone bs h (clocks.Pattern p) s = λ e. let never = h ∙ zone_of bs p e in cc
never_zone bs h clocks.Any s = λ e. cc

pub never_fraction : (bs front : List ℕ) (zone : Option ZoneFormat) → Some (front, zone) ≡ zone_split bs → None ≡ fraction_split front
    → (f : ClockFormat) → has_pattern f ≡ true → bs ≢ clock_pattern f
never_fraction bs front after h k (clocks.Pattern p) s = λ e.
    let never = k ∙ ap (λ (x : List ℕ × Option ZoneFormat). fraction_split x.0) (zone_parts bs front after p h e) ∙ fraction_of p s in cc
never_fraction bs front after h k clocks.Any s = λ e. cc

pub never_time : (bs front last : List ℕ) (zone : Option ZoneFormat) (n : ℕ) → Some (front, zone) ≡ zone_split bs
    → Some (last, n) ≡ fraction_split front → ((t : TimeFormat) → last ≢ time_pattern t) → (f : ClockFormat) → has_pattern f ≡ true
    → bs ≢ clock_pattern f
never_time bs front last after n h k none (clocks.Pattern p) s = λ e.
    none p.time (ap (λ (x : List ℕ × ℕ). x.0) (fraction_parts bs front last after n p h k s e))
never_time bs front last after n h k none clocks.Any s = λ e. cc

-- the pattern with seconds and colons has eight letters
seconds_by : (t : TimeFormat) → (length (time_pattern t) == 8) ≡ is_seconds t
seconds_by times.Seconds = refl
seconds_by times.CompactSeconds = refl
seconds_by times.Minutes = refl
seconds_by times.CompactMinutes = refl

same_seconds : (t u : TimeFormat) → time_pattern t ≡ time_pattern u → is_seconds t ≡ is_seconds u
same_seconds t u e = sym (seconds_by t) ∙ ap (λ l. length l == 8) e ∙ seconds_by u

abbrev test : ℕ → Bool → Bool
test n seconds = nat_le n 255 && (if n == 0 then true else seconds)

pub never_clock : (bs front last : List ℕ) (zone : Option ZoneFormat) (n : ℕ) (t : TimeFormat) → Some (front, zone) ≡ zone_split bs
    → Some (last, n) ≡ fraction_split front → last ≡ time_pattern t → test n (is_seconds t) ≡ false → (f : ClockFormat)
    → has_pattern f ≡ true → bs ≢ clock_pattern f
never_clock bs front last after n t h k is fails (clocks.Pattern p) s = λ e.
    let x = fraction_parts bs front last after n p h k s e in
    let digits : n ≡ p.digits = ap (λ (y : List ℕ × ℕ). y.1) x in
    let seconds : is_seconds t ≡ is_seconds p.time = same_seconds t p.time (sym is ∙ ap (λ (y : List ℕ × ℕ). y.0) x) in
    let never = sym fails ∙ ap (λ k. test k (is_seconds t)) digits ∙ ap (λ b. test p.digits b) seconds ∙ s in
    cc
never_clock bs front last after n t h k is fails clocks.Any s = λ e. cc
