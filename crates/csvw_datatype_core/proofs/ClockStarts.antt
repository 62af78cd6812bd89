-- Two texts of times of day have the same one text exactly if they are at the same time. The check doesn't find it by itself: it reads the texts again.
use Rattle.std.proofs.Common.{◌≡◌, ℕ, ◌/◌, ◌<◌, ◌↔◌, Option, Some, None, IfSome}
use Rattle.std.proofs.Common.{List, [], ◌++◌, append-nil, refl, sym, ap, ◌∙◌, arith, ℤ, pos, neg_ℤ, ◌+ℤ◌, ◌*ℤ◌, unsigned_abs}
use Rattle.std.specs.Prelude.{nat_lt, option_map}
use Rattle.std.proofs.lemmas.Int.{ints}
use Rattle.std.proofs.lemmas.Option.{same_Some}
use Rattle.csvw_datatype_core.specs.declared.clock.ClockFormat.{ClockFormat}
use Rattle.csvw_datatype_core.specs.declared.clock.ClockFormat.TheVariants as clocks
use Rattle.csvw_datatype_core.specs.declared.instant.InstantKind.TheVariants as kinds
use Rattle.csvw_datatype_core.specs.Clocks.{clock_form, clock_in, clock_parts, clock_start, clock_text, zoned_hour, zoned_minutes, zoned_second, zoned_text}
use Rattle.csvw_datatype_core.specs.DateTimes.{IsOffset, fraction_text}
use Rattle.csvw_datatype_core.specs.Instants.{Moment, placed_instant}
use Rattle.csvw_datatype_core.specs.Offsets.{offset_text}
use Rattle.csvw_datatype_core.proofs.ClockLemmas.{AreParts, Found, are_parts, count_by, counted, hour_low, in_range, local_back}
use Rattle.csvw_datatype_core.proofs.ClockLemmas.{parts_again, second_in, text_of}
use Rattle.csvw_datatype_core.proofs.OffsetLemmas.{offset_again, offset_is_rest}
use Rattle.csvw_datatype_core.proofs.OneDateTime.{IsKept}

abbrev start_of : Found → Moment
start_of x = placed_instant (pos x.0) x.1 x.2

-- the second in the zone "Z" of a time of day
abbrev utc : ℕ → ℤ → ℤ
utc second minutes = pos second +ℤ (minutes *ℤ neg_ℤ (pos 60))

-- ---- the text that is written has the moment of what is written

count_low : (second : ℕ) (minutes : ℤ) → second < 86_400 → IsOffset minutes → zoned_second second minutes < 187_200
count_low second minutes low range = omega (arith, ints, low, range.0, range.1)

-- a second is counted from 14 hours before its day, so its number isn't negative
count_is : (second : ℕ) (minutes : ℤ) → second < 86_400 → IsOffset minutes → pos (zoned_second second minutes) ≡ counted second minutes
count_is second minutes low range = omega (arith, ints, low, range.0, range.1)

count_back : (n : ℕ) → counted (second_in (zoned_hour (n / 3600)) n) (zoned_minutes (n / 3600)) ≡ pos n
count_back n = count_by n (nat_lt (n / 3600) 14) (nat_lt (n / 3600) 38) refl refl

same_utc : (second other : ℕ) (minutes offset : ℤ) → counted second minutes ≡ counted other offset → utc second minutes ≡ utc other offset
same_utc second other minutes offset same = omega (arith, ints, same)

utc_kept : (second : ℕ) (minutes : ℤ) → second < 86_400 → IsOffset minutes
    → let n = zoned_second second minutes in utc (second_in (zoned_hour (n / 3600)) n) (zoned_minutes (n / 3600)) ≡ utc second minutes
utc_kept second minutes low range =
    let n = zoned_second second minutes in
    same_utc (second_in (zoned_hour (n / 3600)) n) second (zoned_minutes (n / 3600)) minutes (count_back n ∙ count_is second minutes low range)

local_start : (n : ℕ) (ds : List ℕ) → n < 86_400 → IsKept ds
    → clock_start clocks.Any (clock_in (n / 3600) n ++ fraction_text ds) ≡ Some (pos n, ds, kinds.Local)
local_start n ds low kept =
    let h = n / 3600 in
    let none : List ℕ = [] in
    let few : h < 24 = omega (arith, low) in
    ap (λ (l : List ℕ). clock_start clocks.Any (clock_in h n ++ l)) (sym (append-nil (fraction_text ds)))
    ∙ ap (λ o. option_map start_of o) (parts_again h n ds none None few kept (refl, refl) refl)
    ∙ ap (λ k. Some (pos k, ds, kinds.Local)) (local_back n)

zoned_start : (n : ℕ) (ds : List ℕ) → n < 187_200 → IsKept ds
    → clock_start clocks.Any (zoned_text n ds) ≡ Some (utc (second_in (zoned_hour (n / 3600)) n) (zoned_minutes (n / 3600)), ds, kinds.Zoned)
zoned_start n ds low kept =
    let h = n / 3600 in
    let few : h < 52 = omega (arith, low) in
    let minutes = zoned_minutes h in
    ap (λ o. option_map start_of o) (parts_again (zoned_hour h) n ds (offset_text minutes) (Some minutes) (hour_low h) kept (offset_is_rest minutes)
    (offset_again minutes (in_range h few)))

start_kept : (second : ℕ) (ds : List ℕ) (minutes : Option ℤ) → second < 86_400 → IsKept ds → IfSome minutes IsOffset
    → clock_start clocks.Any (clock_text second ds minutes) ≡ Some (placed_instant (pos second) ds minutes)
start_kept second ds None low kept range = local_start second ds low kept
start_kept second ds (Some minutes) low kept range =
    zoned_start (zoned_second second minutes) ds (count_low second minutes low range) kept
    ∙ ap (λ (z : ℤ). Some (z, ds, kinds.Zoned)) (utc_kept second minutes low range)

same_start : (u v : Found) → AreParts u → AreParts v → text_of u ≡ text_of v → Some (start_of u) ≡ Some (start_of v)
same_start u v h k same =
    sym (start_kept u.0 u.1 u.2 h.0 h.1 h.2) ∙ ap (λ (t : List ℕ). clock_start clocks.Any t) same ∙ start_kept v.0 v.1 v.2 k.0 k.1 k.2

-- ---- a moment has one text

never_both : (a b : ℤ) (ds es : List ℕ) → ◌≡◌ {A = Moment} (a, ds, kinds.Local) (b, es, kinds.Zoned) → ⊥
never_both a b ds es e = let kind : kinds.Local ≡ kinds.Zoned = ap (λ (x : Moment). x.2) e in cc

same_count : (second other : ℕ) (minutes offset : ℤ) → utc second minutes ≡ utc other offset → counted second minutes ≡ counted other offset
same_count second other minutes offset same = ap (λ (z : ℤ). z +ℤ pos 50_400) same

same_text : (m n : ℕ) (ds es : List ℕ) (y z : Option ℤ) → placed_instant (pos m) ds y ≡ placed_instant (pos n) es z → clock_text m ds y ≡ clock_text n es z
same_text m n ds es None None same =
    let seconds : pos m ≡ pos n = ap (λ (x : Moment). x.0) same in
    let digits : ds ≡ es = ap (λ (x : Moment). x.1) same in
    let number : m ≡ n = omega (arith, ints, seconds) in
    ap (λ (k : ℕ). clock_text k ds None) number ∙ ap (λ (l : List ℕ). clock_text n l None) digits
same_text m n ds es None (Some z) same = absurd (never_both _ _ _ _ same)
same_text m n ds es (Some y) None same = absurd (never_both _ _ _ _ (sym same))
same_text m n ds es (Some y) (Some z) same =
    let seconds : utc m y ≡ utc n z = ap (λ (x : Moment). x.0) same in
    let digits : ds ≡ es = ap (λ (x : Moment). x.1) same in
    let number : zoned_second m y ≡ zoned_second n z = ap unsigned_abs (same_count m n y z seconds) in
    ap (λ (k : ℕ). zoned_text k ds) number ∙ ap (λ (l : List ℕ). zoned_text (zoned_second n z) l) digits

-- ---- the law

by_parts : (o p : Option Found) (x y : List ℕ) → IfSome o AreParts → IfSome p AreParts → option_map text_of o ≡ Some x → option_map text_of p ≡ Some y
    → (x ≡ y) ↔ (option_map start_of o ≡ option_map start_of p)
by_parts None p x y h k e f = cc
by_parts (Some u) None x y h k e f = cc
by_parts (Some u) (Some v) x y h k e f =
    let first : text_of u ≡ x = same_Some (text_of u) x e in
    let second : text_of v ≡ y = same_Some (text_of v) y f in (
      λ same. same_start u v h k (first ∙ same ∙ sym second),
      λ same. sym first ∙ same_text u.0 v.0 u.1 v.1 u.2 v.2 (same_Some (start_of u) (start_of v) same) ∙ second,
    )

pub clocks_at_one_time : (f g : ClockFormat) (s t x y : List ℕ) → clock_form f s ≡ Some x → clock_form g t ≡ Some y
    → (x ≡ y) ↔ (clock_start f s ≡ clock_start g t)
clocks_at_one_time f g s t x y e h = by_parts (clock_parts f s) (clock_parts g t) x y (are_parts f s) (are_parts g t) e h
