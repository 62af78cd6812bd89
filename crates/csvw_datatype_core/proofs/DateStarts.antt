-- Two texts of dates have the same value exactly if their dates begin at the same time. The check doesn't find it by itself: it reads a value's text again.
use Rattle.std.proofs.Common.{◌≡◌, ◌↔◌, ℕ, Bool, true, false, if◌then◌else◌, Option, Some, None, IfSome, option_and_then}
use Rattle.std.proofs.Common.{List, [], ◌++◌, refl, sym, ap, subst, ◌∙◌, arith, ℤ, pos, neg_ℤ, ◌+ℤ◌, ◌*ℤ◌}
use Rattle.std.specs.Option.{option_map}
use Rattle.std.proofs.lemmas.Int.{ints}
use Rattle.std.proofs.lemmas.Option.{same_Some}
use lib.Signed.{lt_z}
use Rattle.csvw_datatype_core.specs.declared.instant.InstantKind.TheVariants as kinds
use Rattle.csvw_datatype_core.specs.declared.zoned_date.ZonedDate.{ZonedDate}
use Rattle.csvw_datatype_core.specs.declared.zoned_date.ZonedDate.TheVariants as values
use Rattle.csvw_datatype_core.specs.declared.zoned_date.ZonedDateFormat.{ZonedDateFormat}
use Rattle.csvw_datatype_core.specs.DateTimes.{IsOffset}
use Rattle.csvw_datatype_core.specs.Forms.{date_form}
use Rattle.csvw_datatype_core.specs.Instants.{Moment, placed_instant}
use Rattle.csvw_datatype_core.specs.LexicalDates.{IsDayNumber}
use Rattle.csvw_datatype_core.specs.Offsets.{offset_text}
use Rattle.csvw_datatype_core.specs.ZonedDates.{date_parts, date_start, dated_pair, is_day_number, placed_day, zoned_date_value}
use Rattle.csvw_datatype_core.proofs.ZonedDateLemmas.{AreParts, Found, IsHalf, are_parts, in_years, parts_again, shift_by}

-- the second at which a day with an offset begins
abbrev second : ℤ → ℤ → ℤ
second day minutes = (day *ℤ pos 86_400) +ℤ (minutes *ℤ neg_ℤ (pos 60))

abbrev zoned : ℤ → Moment
zoned n = (n, [], kinds.Zoned)

abbrev start : Found → Moment
start x = placed_instant (x.0 *ℤ pos 86_400) [] x.1

-- ---- the moment of a value

-- the day and the offset that the text of a date writes, which begins at a moment
record IsWritten (at : Moment) (text : List ℕ) : Type 0 where
  pub day : ℤ
  pub minutes : ℤ
  pub starts : at ≡ zoned (second day minutes)
  pub form : date_form day ++ offset_text minutes ≡ text
  pub range : IsDayNumber day
  pub half : IsHalf minutes

-- a value begins at a moment
abbrev Begins : Moment → ZonedDate → Type 0
Begins at (values.Day day) = at ≡ start (day, None)
Begins at (values.Written text) = IsWritten at text

begins_by : (at : Moment) (day minutes : ℤ) (v : ZonedDate) (b : Bool) → is_day_number day ≡ b → IsHalf minutes → at ≡ zoned (second day minutes)
    → (if b then Some (values.Written (date_form day ++ offset_text minutes)) else None) ≡ Some v → Begins at v
begins_by at day minutes v false is h same e = cc
begins_by at day minutes v true is h same e =
    let text = date_form day ++ offset_text minutes in
    let written : IsWritten at text =
    record { day = day; minutes = minutes; starts = same; form = refl; range = in_years day is; half = h } in
    subst (Begins at) (same_Some (values.Written text) v e) written

shifted_begins : (day minutes : ℤ) (v : ZonedDate) (a b : Bool) → lt_z (pos 720) minutes ≡ a → lt_z (neg_ℤ (pos 720)) minutes ≡ b → IsOffset minutes
    → dated_pair (shift_by a b day minutes) ≡ Some v → Begins (zoned (second day minutes)) v
shifted_begins day minutes v true b p q few e =
    let same : second day minutes ≡ second (day +ℤ neg_ℤ (pos 1)) (minutes +ℤ neg_ℤ (pos 1440)) = omega (arith, ints) in
    begins_by (zoned (second day minutes)) (day +ℤ neg_ℤ (pos 1)) (minutes +ℤ neg_ℤ (pos 1440)) v _ refl (omega (arith, ints, p), omega (arith, ints, few.1))
    (ap zoned same) e
shifted_begins day minutes v false true p q few e =
    begins_by (zoned (second day minutes)) day minutes v _ refl (omega (arith, ints, q), omega (arith, ints, p)) refl e
shifted_begins day minutes v false false p q few e =
    let same : second day minutes ≡ second (day +ℤ pos 1) (minutes +ℤ pos 1440) = omega (arith, ints) in
    begins_by (zoned (second day minutes)) (day +ℤ pos 1) (minutes +ℤ pos 1440) v _ refl (omega (arith, ints, few.0), omega (arith, ints, q))
    (ap zoned same) e

placed_begins : (x : Found) (v : ZonedDate) → AreParts x → placed_day x ≡ Some v → Begins (start x) v
placed_begins (day, None) v h e =
    let begins : Begins (start (day, None)) (values.Day day) = refl in
    subst (Begins (start (day, None))) (same_Some (values.Day day) v e) begins
placed_begins (day, Some minutes) v h e = shifted_begins day minutes v _ _ refl refl h.1 e

-- a value, and the moment that is found with it
record HasStart (o : Option Moment) (v : ZonedDate) : Type 0 where
  pub at : Moment
  pub is : o ≡ Some at
  pub begins : Begins at v

start_by : (o : Option Found) (v : ZonedDate) → IfSome o AreParts → option_and_then placed_day o ≡ Some v → HasStart (option_map start o) v
start_by None v h e = cc
start_by (Some x) v h e = record { at = start x; is = refl; begins = placed_begins x v h e }

has_start : (f : Option ZonedDateFormat) (text : List ℕ) (v : ZonedDate) → zoned_date_value f text ≡ Some v → HasStart (date_start f text) v
has_start f text v e = start_by (date_parts f text) v (are_parts f text) e

-- ---- one value, one moment

read_start : (at : Moment) (text : List ℕ) → IsWritten at text → option_map start (date_parts None text) ≡ Some at
read_start at text h =
    let few : IsOffset h.minutes = (omega (arith, ints, h.half.0), omega (arith, ints, h.half.1)) in
    let again = parts_again h.day h.minutes h.range few in
    ap (λ (t : List ℕ). option_map start (date_parts None t)) (sym h.form) ∙ ap (λ (o : Option Found). option_map start o) again
    ∙ ap (λ (m : Moment). Some m) (sym h.starts)

one_start : (a b : Moment) (v : ZonedDate) → Begins a v → Begins b v → a ≡ b
one_start a b (values.Day day) h k = h ∙ sym k
one_start a b (values.Written text) h k = same_Some a b (sym (read_start a text h) ∙ read_start b text k)

-- ---- one moment, one value

same_day : (day other y z : ℤ) → IsHalf y → IsHalf z → second day y ≡ second other z → day ≡ other
same_day day other y z h k same = omega (arith, ints, h.0, h.1, k.0, k.1, same)

same_minutes : (day other y z : ℤ) → day ≡ other → second day y ≡ second other z → y ≡ z
same_minutes day other y z e same = omega (arith, ints, e, same)

never_both : (a b : ℤ) → ◌≡◌ {A = Moment} (a, [], kinds.Local) (b, [], kinds.Zoned) → ⊥
never_both a b e = let kind : kinds.Local ≡ kinds.Zoned = ap (λ (x : Moment). x.2) e in cc

one_text : (at : Moment) (s t : List ℕ) → IsWritten at s → IsWritten at t → s ≡ t
one_text at s t h k =
    let same : second h.day h.minutes ≡ second k.day k.minutes = ap (λ (x : Moment). x.0) (sym h.starts ∙ k.starts) in
    let day : h.day ≡ k.day = same_day h.day k.day h.minutes k.minutes h.half k.half same in
    let minutes : h.minutes ≡ k.minutes = same_minutes h.day k.day h.minutes k.minutes day same in
    sym h.form ∙ ap (λ d. date_form d ++ offset_text h.minutes) day ∙ ap (λ m. date_form k.day ++ offset_text m) minutes ∙ k.form

one_value : (at : Moment) (v w : ZonedDate) → Begins at v → Begins at w → v ≡ w
one_value at (values.Day day) (values.Day other) h k =
    let same : (day *ℤ pos 86_400) ≡ (other *ℤ pos 86_400) = ap (λ (x : Moment). x.0) (sym h ∙ k) in
    let days : day ≡ other = omega (arith, ints, same) in
    ap (λ d. values.Day d) days
one_value at (values.Day day) (values.Written text) h k = absurd (never_both _ _ (sym h ∙ k.starts))
one_value at (values.Written text) (values.Day day) h k = absurd (never_both _ _ (sym k ∙ h.starts))
one_value at (values.Written text) (values.Written other) h k = ap (λ t. values.Written t) (one_text at text other h k)

-- ---- the law

by_starts : (o p : Option Moment) (x y : ZonedDate) → HasStart o x → HasStart p y → (x ≡ y) ↔ (o ≡ p)
by_starts o p x y h k = (
  λ e. h.is ∙ ap (λ (m : Moment). Some m) (one_start h.at k.at y (subst (Begins h.at) e h.begins) k.begins) ∙ sym k.is,
  λ e.
      let same : h.at ≡ k.at = same_Some h.at k.at (sym h.is ∙ e ∙ k.is) in
      one_value k.at x y (subst (λ (m : Moment). Begins m x) same h.begins) k.begins,
)

pub dates_at_one_time : (f g : Option ZonedDateFormat) (s t : List ℕ) (x y : ZonedDate) → zoned_date_value f s ≡ Some x → zoned_date_value g t ≡ Some y
    → (x ≡ y) ↔ (date_start f s ≡ date_start g t)
dates_at_one_time f g s t x y a b = by_starts (date_start f s) (date_start g t) x y (has_start f s x a) (has_start g t y b)
