-- A pattern of a date has one reading, and the text of a date with a zone is its own text. The search doesn't take a text or a pattern apart.
use Rattle.std.proofs.Common.{◌≡◌, ◌≢◌, ℕ, Bool, true, false, not, if◌then◌else◌, Option, Some, None, MatchOption, IfSome, option_and_then}
use Rattle.std.proofs.Common.{List, [], ◌∷◌, ◌++◌, length, take, drop, refl, sym, ap, subst, ◌∙◌, arith, ℤ, pos, neg_ℤ, ◌+ℤ◌, ◌≤ℤ◌, ◌<ℤ◌}
use Rattle.std.specs.Prelude.{codes}
use Rattle.std.proofs.Math.Seq.{take-append_seam, drop-append_seam}
use Rattle.std.proofs.lemmas.Bool.{and_parts}
use Rattle.std.proofs.lemmas.Bool.Decides.{nat_tests}
use Rattle.std.proofs.lemmas.Int.{ints, by_lt_z}
use Rattle.std.proofs.lemmas.Option.{same_Some}
use lib.Signed.{lt_z}
use Rattle.csvw_datatype_core.specs.declared.date.DateFormat.{DateFormat}
use Rattle.csvw_datatype_core.specs.declared.date.DateFormat.TheVariants.{YearFirst, Compact, DayFirst, MonthFirst}
use Rattle.csvw_datatype_core.specs.declared.date.Separator.{Separator}
use Rattle.csvw_datatype_core.specs.declared.stamp_format.ZoneFormat.{ZoneFormat}
use Rattle.csvw_datatype_core.specs.declared.zoned_date.ZonedDate.{ZonedDate}
use Rattle.csvw_datatype_core.specs.declared.zoned_date.ZonedDate.TheVariants as values
use Rattle.csvw_datatype_core.specs.declared.zoned_date.ZonedDateFormat.{ZonedDateFormat}
use Rattle.csvw_datatype_core.specs.Dates.{ReadsDate, separator_byte}
use Rattle.csvw_datatype_core.specs.DatePatterns.{date_pattern, day_letters, month_letters}
use Rattle.csvw_datatype_core.specs.DateTimes.{IsOffset, zone_at}
use Rattle.csvw_datatype_core.specs.Forms.{date_form}
use Rattle.csvw_datatype_core.specs.LexicalDates.{IsDayNumber}
use Rattle.csvw_datatype_core.specs.Offsets.{offset_text}
use Rattle.csvw_datatype_core.specs.StampFormats.{without, zone_pattern, zone_split}
use Rattle.csvw_datatype_core.specs.Stamps.{ending_at}
use Rattle.csvw_datatype_core.specs.Values.{date_value}
use Rattle.csvw_datatype_core.specs.ZonedDates.{date_len, date_parts, dated, dated_pair, in_zone, is_day_number, placed_day, zoned_date_value, zoned_pattern}
use Rattle.csvw_datatype_core.proofs.EveryDay.{form_is_date}
use Rattle.csvw_datatype_core.proofs.LexicalDateLemmas.{date_in_range}
use Rattle.csvw_datatype_core.proofs.OffsetLemmas.{offset_again}
use Rattle.csvw_datatype_core.proofs.OneDateTime.{date_long}
use Rattle.csvw_datatype_core.proofs.SpacedLemmas.{day_is}
use Rattle.csvw_datatype_core.proofs.StampFormatLemmas.{IsPlain, stays_after, zone_again, zone_spelled}
use Rattle.csvw_datatype_core.proofs.StampLemmas.{bind_some}
use Rattle.csvw_datatype_core.proofs.ValueLemmas.{date_given}
use Rattle.csvw_datatype_core.proofs.ZoneLemmas.{IsRange, ending_range, zone_range}

-- ---- the patterns

-- a pattern of a date doesn't end with a letter that isn't in it
kept_by : (b : ℕ) → without b (codes "yyyy-MM-dd") ≡ codes "yyyy-MM-dd" → without b (codes "yyyyMMdd") ≡ codes "yyyyMMdd"
    → ((by : Separator) → without b (separator_byte by ∷ codes "yyyy") ≡ separator_byte by ∷ codes "yyyy") → (f : DateFormat)
    → without b (date_pattern f) ≡ date_pattern f
kept_by b p q r YearFirst = p
kept_by b p q r Compact = q
kept_by b p q r (DayFirst digits by) =
    let s = separator_byte by in
    stays_after b (day_letters digits) s (month_letters digits ++ (s ∷ codes "yyyy"))
    (stays_after b (s ∷ month_letters digits) s (codes "yyyy") (r by))
kept_by b p q r (MonthFirst digits by) =
    let s = separator_byte by in
    stays_after b (month_letters digits) s (day_letters digits ++ (s ∷ codes "yyyy"))
    (stays_after b (s ∷ day_letters digits) s (codes "yyyy") (r by))

date_plain : (f : DateFormat) → IsPlain (date_pattern f)
date_plain f = record {
  lower = kept_by 120 refl refl (λ by. refl) f;
  upper = kept_by 88 refl refl (λ by. refl) f;
  gap = kept_by 32 refl refl (λ by. refl) f;
}

zone_of : (bs : List ℕ) (f : ZonedDateFormat) → bs ≡ zoned_pattern f → zone_split bs ≡ Some (date_pattern f.date, f.zone)
zone_of bs f e = ap zone_split e ∙ zone_again (date_pattern f.date) f.zone (date_plain f.date)

pub never_zone : (bs : List ℕ) → None ≡ zone_split bs → (f : ZonedDateFormat) → bs ≢ zoned_pattern f
never_zone bs h f = λ e. let never = h ∙ zone_of bs f e in cc

pub never_date : (bs front : List ℕ) (zone : Option ZoneFormat) → Some (front, zone) ≡ zone_split bs → ((d : DateFormat) → front ≢ date_pattern d)
    → (f : ZonedDateFormat) → bs ≢ zoned_pattern f
never_date bs front after h none f = λ e.
    none f.date (ap (λ (x : List ℕ × Option ZoneFormat). x.0) (same_Some (front, after) (date_pattern f.date, f.zone) (h ∙ zone_of bs f e)))

pub spelled : (bs front : List ℕ) (zone : Option ZoneFormat) (d : DateFormat) → Some (front, zone) ≡ zone_split bs → front ≡ date_pattern d
    → bs ≡ date_pattern d ++ zone_pattern zone
spelled bs front after d h is = zone_spelled bs front after (sym h) ∙ ap (λ (l : List ℕ). l ++ zone_pattern after) is

-- ---- what a text writes

range_by : (f : DateFormat) (text : List ℕ) (o : Option ℤ) → MatchOption o ((day : ℤ) → ReadsDate f text day → ⊥) (ReadsDate f text)
    → IfSome o IsDayNumber
range_by f text None h = tt
range_by f text (Some day) h = date_in_range f text day h

pub day_range : (f : DateFormat) (text : List ℕ) → IfSome (date_value f text) IsDayNumber
day_range f text = range_by f text (date_value f text) (date_given f text)

pub day_answer : (f : DateFormat) (text : List ℕ) (o : Option ℤ) → MatchOption o ((day : ℤ) → ReadsDate f text day → ⊥) (ReadsDate f text)
    → IfSome o IsDayNumber
day_answer f text o h = range_by f text o h

abbrev pub Found : Type 0
Found = ℤ × Option ℤ

abbrev pub AreParts : Found → Type 0
AreParts x = IsDayNumber x.0 × IsRange x.1

pub are_parts : (f : Option ZonedDateFormat) (bs : List ℕ) → IfSome (date_parts f bs) AreParts
unfolding date_parts
are_parts (Some f) bs =
    bind_some (date_value f.date (take (date_len f.date bs) bs)) _ IsDayNumber AreParts (day_range f.date (take (date_len f.date bs) bs))
    (λ day range. bind_some (ending_at f.zone (drop (date_len f.date bs) bs)) _ IsRange AreParts
    (ending_range f.zone (drop (date_len f.date bs) bs)) (λ minutes few. (range, few)))
are_parts None bs =
    bind_some (date_value YearFirst (take 10 bs)) _ IsDayNumber AreParts (day_range YearFirst (take 10 bs))
    (λ day range. bind_some (zone_at (drop 10 bs)) _ IsRange AreParts (zone_range (drop 10 bs)) (λ minutes few. (range, few)))

-- what is found in turn is what the text writes
pub format_found : (f : ZonedDateFormat) (bs front back : List ℕ) (day : ℤ) (minutes : Option ℤ) → front ≡ take (date_len f.date bs) bs
    → back ≡ drop (date_len f.date bs) bs → Some day ≡ date_value f.date front → Some minutes ≡ ending_at f.zone back
    → Some (day, minutes) ≡ date_parts (Some f) bs
unfolding date_parts
format_found f bs front back day minutes p q is_day is_zone =
    let e : date_value f.date (take (date_len f.date bs) bs) ≡ Some day = ap (λ (l : List ℕ). date_value f.date l) (sym p) ∙ sym is_day in
    let g : ending_at f.zone (drop (date_len f.date bs) bs) ≡ Some minutes = ap (λ (l : List ℕ). ending_at f.zone l) (sym q) ∙ sym is_zone in
    rw (e, g) refl

-- ---- the text is read again

parts_by : (front back : List ℕ) (day minutes : ℤ) → length front ≡ 10 → date_value YearFirst front ≡ Some day → zone_at back ≡ Some (Some minutes)
    → date_parts None (front ++ back) ≡ Some (day, Some minutes)
unfolding date_parts
parts_by front back day minutes long is_day is_zone =
    let P : ℕ → Type 0 = λ n. take n (front ++ back) ≡ front in
    let Q : ℕ → Type 0 = λ n. drop n (front ++ back) ≡ back in
    rw (subst P long (take-append_seam front back), subst Q long (drop-append_seam front back), is_day, is_zone) refl

pub parts_again : (day minutes : ℤ) → IsDayNumber day → IsOffset minutes → date_parts None (date_form day ++ offset_text minutes) ≡ Some (day, Some minutes)
parts_again day minutes range few =
    let front = date_form day in
    let is = form_is_date day range in
    parts_by front (offset_text minutes) day minutes (date_long front day is) (sym (day_is YearFirst front (Some day) is)) (offset_again minutes few)

-- an offset that is written
abbrev pub IsHalf : ℤ → Type 0
IsHalf minutes = (neg_ℤ (pos 720) <ℤ minutes) × (minutes ≤ℤ pos 720)

below_by : (a b : ℤ) (t : Bool) → lt_z a b ≡ t → b ≤ℤ a → t ≡ false
below_by a b true e h = absurd (omega (arith, ints, e, h))
below_by a b false e h = refl

above_by : (a b : ℤ) (t : Bool) → lt_z a b ≡ t → a <ℤ b → t ≡ true
above_by a b true e h = refl
above_by a b false e h = absurd (omega (arith, ints, e, h))

stays_in_zone : (day minutes : ℤ) → IsHalf minutes → in_zone day minutes ≡ dated day minutes
stays_in_zone day minutes h = rw (below_by (pos 720) minutes _ refl h.1, above_by (neg_ℤ (pos 720)) minutes _ refl h.0) refl

pub in_years : (day : ℤ) → is_day_number day ≡ true → IsDayNumber day
in_years day h =
    let parts = and_parts (not (lt_z day (neg_ℤ (pos 719_162)))) (not (lt_z (pos 2_932_896) day)) h in
    (not_below day (neg_ℤ (pos 719_162)) parts.0, not_below (pos 2_932_896) day parts.1)
  where
    not_below : (a b : ℤ) → not (lt_z a b) ≡ true → b ≤ℤ a
    not_below a b h = by_lt_z a b (λ l. grind (arith, ints, nat_tests)) (λ l. l)

dated_by : (day minutes : ℤ) (form : List ℕ) (b : Bool) → is_day_number day ≡ b → IsHalf minutes
    → (if b then Some (values.Written (date_form day ++ offset_text minutes)) else None) ≡ Some (values.Written form)
    → zoned_date_value None form ≡ Some (values.Written form)
dated_by day minutes form false is h e = cc
dated_by day minutes form true is h e =
    let few : IsOffset minutes = (omega (arith, ints, h.0), omega (arith, ints, h.1)) in
    let same : date_form day ++ offset_text minutes ≡ form = ap content e in
    ap (λ (t : List ℕ). zoned_date_value None t) (sym same) ∙ ap (λ o. option_and_then placed_day o) (parts_again day minutes (in_years day is) few)
    ∙ stays_in_zone day minutes h ∙ rw is (ap (λ t. Some (values.Written t)) same)
  where
    content : Option ZonedDate → List ℕ
    content (Some (values.Written text)) = text
    content _ = []

abbrev pub shift_by : Bool → Bool → ℤ → ℤ → ℤ × ℤ
shift_by a b day minutes =
    if a then (day +ℤ neg_ℤ (pos 1), minutes +ℤ neg_ℤ (pos 1440)) else (if b then (day, minutes) else (day +ℤ pos 1, minutes +ℤ pos 1440))

again_by : (day minutes : ℤ) (form : List ℕ) (a b : Bool) → lt_z (pos 720) minutes ≡ a → lt_z (neg_ℤ (pos 720)) minutes ≡ b → IsOffset minutes
    → dated_pair (shift_by a b day minutes)
    ≡ Some (values.Written form) → zoned_date_value None form ≡ Some (values.Written form)
again_by day minutes form true b p q few e =
    dated_by (day +ℤ neg_ℤ (pos 1)) (minutes +ℤ neg_ℤ (pos 1440)) form _ refl (omega (arith, ints, p), omega (arith, ints, few.1)) e
again_by day minutes form false true p q few e =
    dated_by day minutes form _ refl (omega (arith, ints, q), omega (arith, ints, p)) e
again_by day minutes form false false p q few e =
    dated_by (day +ℤ pos 1) (minutes +ℤ pos 1440) form _ refl (omega (arith, ints, few.0), omega (arith, ints, q)) e

placed_again : (x : Found) (form : List ℕ) → AreParts x → placed_day x ≡ Some (values.Written form) → zoned_date_value None form ≡ Some (values.Written form)
placed_again (day, None) form h e = cc
placed_again (day, Some minutes) form h e = again_by day minutes form _ _ refl refl h.1 e

value_again : (o : Option Found) (form : List ℕ) → IfSome o AreParts → option_and_then placed_day o ≡ Some (values.Written form)
    → zoned_date_value None form ≡ Some (values.Written form)
value_again None form h e = cc
value_again (Some x) form h e = placed_again x form h e

pub same_zoned_date : (f : Option ZonedDateFormat) (text form : List ℕ) → zoned_date_value f text ≡ Some (values.Written form)
    → zoned_date_value None form ≡ Some (values.Written form)
same_zoned_date f text form e = value_again (date_parts f text) form (are_parts f text) e

-- ---- a day without a zone

never_dated : (b : Bool) (text : List ℕ) (day : ℤ) → (if b then Some (values.Written text) else None) ≡ Some (values.Day day) → ⊥
never_dated true text day e = cc
never_dated false text day e = cc

never_in_zone : (a b : Bool) (day minutes other : ℤ)
    → dated_pair (shift_by a b day minutes)
    ≡ Some (values.Day other) → ⊥
never_in_zone true b day minutes other e = never_dated _ _ other e
never_in_zone false true day minutes other e = never_dated _ _ other e
never_in_zone false false day minutes other e = never_dated _ _ other e

placed_range : (x : Found) (day : ℤ) → AreParts x → placed_day x ≡ Some (values.Day day) → IsDayNumber day
placed_range (found, None) day h e = subst (λ z. IsDayNumber z) (ap number e) h.0
  where
    number : Option ZonedDate → ℤ
    number (Some (values.Day n)) = n
    number _ = pos 0
placed_range (found, Some minutes) day h e = absurd (never_in_zone _ _ found minutes day e)

value_range : (o : Option Found) (day : ℤ) → IfSome o AreParts → option_and_then placed_day o ≡ Some (values.Day day) → IsDayNumber day
value_range None day h e = cc
value_range (Some x) day h e = placed_range x day h e

pub in_range : (f : Option ZonedDateFormat) (text : List ℕ) (day : ℤ) → zoned_date_value f text ≡ Some (values.Day day) → IsDayNumber day
in_range f text day e = value_range (date_parts f text) day (are_parts f text) e
