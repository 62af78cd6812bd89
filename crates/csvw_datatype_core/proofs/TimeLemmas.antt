-- The fields of a time of day and its text, and the moment of a date and a time.
use Rattle.std.proofs.Common.{◌≡◌, ℕ, ◌+◌, ◌*◌, ◌<◌, inl, inr, Option, Some, None, List, [], ◌∷◌, ◌++◌, length, take, drop, refl, sym, ap, subst, ◌∙◌}
use Rattle.std.proofs.Common.{arith, append-nil, length-append, ℤ, pos, ◌+ℤ◌, ◌*ℤ◌, MatchOption}
use Rattle.std.specs.Str.Parse.{digits_value}
use Rattle.std.proofs.Math.Seq.{take-append_seam, drop-append_seam}
use Rattle.csvw_datatype_core.specs.declared.date.DateFormat.TheVariants.{YearFirst}
use Rattle.csvw_datatype_core.specs.declared.moment.MomentFormat.{MomentFormat}
use Rattle.csvw_datatype_core.specs.declared.moment.MomentFormat.TheVariants.{Seconds, Minutes, Spaced}
use Rattle.csvw_datatype_core.specs.Dates.{ReadsDate}
use Rattle.csvw_datatype_core.specs.JoinedMoments.{IsPair, IsSeconds, ReadsTime, ReadsJoined}
use Rattle.csvw_datatype_core.specs.Fields.{after_separator, two_at, at_end}
use Rattle.csvw_datatype_core.specs.TimeFields.{IsTimeOfDay, second_field, time_fields}
use Rattle.csvw_datatype_core.proofs.DateLemmas.{Digits, two_sound, two_again, bind_some, bind_number, separator_sound, end_sound}

-- the seconds that a text ends with
record EndsWith (f : MomentFormat) (bs : List ℕ) (x : ℕ) : Type 0 where
  pub s : List ℕ
  pub value : x ≡ digits_value 10 s
  pub right : x < 60 → IsSeconds f bs s

some_same : {A : Type 0} (x z d : A) → Some x ≡ Some z → x ≡ z
some_same {A} x z d h = let g : Option A → A = λ o. elim o [ None ↦ d | Some x ↦ x ] in ap g h

pair_of : (ds : List ℕ) (x limit : ℕ) → Digits 2 ds → x ≡ digits_value 10 ds → x < limit → IsPair ds limit
pair_of ds x limit h e l = (h.0, h.1, omega (arith, e, l))

pair_digits : (ds : List ℕ) (limit : ℕ) → IsPair ds limit → Digits 2 ds
pair_digits ds limit h = (h.0, h.1)

pair_below : (ds : List ℕ) (limit : ℕ) → IsPair ds limit → digits_value 10 ds < limit
pair_below ds limit h = h.2

second_sound : (f : MomentFormat) (bs : List ℕ) (x : ℕ) → second_field f bs ≡ Some x → EndsWith f bs x
second_sound Seconds bs x h =
    let r = bind_some (after_separator 58 bs) _ _ h in
    let s = bind_number (two_at r.value) _ _ r.rest_is in
    let e = bind_some (at_end s.after) _ _ s.rest_is in
    let f = two_sound r.value s.value s.after s.first_is in
    let same = some_same s.value x 0 e.rest_is in
    let value : x ≡ digits_value 10 f.digits = sym same ∙ f.value in
    let text : bs ≡ 58 ∷ f.digits = separator_sound 58 bs r.value r.first_is
    ∙ ap (λ t. 58 ∷ t) (f.front ∙ ap (λ t. f.digits ++ t) (end_sound s.after e.value e.first_is) ∙ append-nil f.digits) in
    record { s = f.digits; value = value; right = λ l. (text, pair_of f.digits x 60 f.right value l) }
second_sound Minutes bs x h =
    let e = bind_some (at_end bs) _ _ h in
    let same = some_same 0 x 0 e.rest_is in
    record { s = []; value = sym same; right = λ l. (end_sound bs e.value e.first_is, refl) }
second_sound (Spaced date time) bs x h = cc

triple : ℕ → ℕ → ℕ → ℕ × ℕ × ℕ
triple h m s = (h, m, s)

-- a time whose fields are in range is read
pub time_sound : (f : MomentFormat) (bs : List ℕ) (h m s : ℕ) → time_fields f bs ≡ Some (h, m, s) → IsTimeOfDay h m s
    → ReadsTime f bs (h * 3600 + m * 60 + s)
unfolding time_fields
time_sound f bs h m s is inside =
    let r = bind_some (after_separator 84 bs) _ _ is in
    let a = bind_number (two_at r.value) _ _ r.rest_is in
    let q = bind_some (after_separator 58 a.after) _ _ a.rest_is in
    let b = bind_number (two_at q.value) _ _ q.rest_is in
    let c = bind_some (second_field f b.after) _ _ b.rest_is in
    let same = some_same (a.value, b.value, c.value) (h, m, s) (0, 0, 0) c.rest_is in
    let fa = two_sound r.value a.value a.after a.first_is in
    let fb = two_sound q.value b.value b.after b.first_is in
    let fc = second_sound f b.after c.value c.first_is in
    let hv : h ≡ digits_value 10 fa.digits = sym (ap (λ (x : ℕ × ℕ × ℕ). x.0) same) ∙ fa.value in
    let mv : m ≡ digits_value 10 fb.digits = sym (ap (λ (x : ℕ × ℕ × ℕ). x.1) same) ∙ fb.value in
    let cv : c.value ≡ s = ap (λ (x : ℕ × ℕ × ℕ). x.2) same in
    let sv : s ≡ digits_value 10 fc.s = sym cv ∙ fc.value in
    record {
      h = fa.digits;
      m = fb.digits;
      tail = b.after;
      s = fc.s;
      is_hour = pair_of fa.digits h 24 fa.right hv inside.0;
      is_minute = pair_of fb.digits m 60 fb.right mv inside.1;
      is_second = fc.right (omega (arith, cv, inside.2));
      spelled = separator_sound 84 bs r.value r.first_is
          ∙ ap (λ t. 84 ∷ t) (fa.front ∙ ap (λ t. fa.digits ++ t) (separator_sound 58 a.after q.value q.first_is ∙ ap (λ t. 58 ∷ t) fb.front));
      is_value = omega (arith, hv, mv, sv);
    }

second_again : (f : MomentFormat) (tail s : List ℕ) → IsSeconds f tail s → second_field f tail ≡ Some (digits_value 10 s)
second_again Seconds tail s h =
    let b : two_at s ≡ Some (digits_value 10 s, []) = ap two_at (sym (append-nil s)) ∙ two_again s [] (pair_digits s 60 h.1) in
    rw (h.0, b) refl
second_again Minutes tail s h = rw (h.0, h.1) refl
second_again (Spaced date time) tail s h = absurd h

-- what is read has fields in range
pub time_again : (f : MomentFormat) (bs : List ℕ) (second : ℕ) → (r : ReadsTime f bs second)
    → time_fields f bs ≡ Some (digits_value 10 r.h, digits_value 10 r.m, digits_value 10 r.s)
unfolding time_fields
time_again f bs second r =
    let b = two_again r.h (58 ∷ (r.m ++ r.tail)) (pair_digits r.h 24 r.is_hour) in
    let d = two_again r.m r.tail (pair_digits r.m 60 r.is_minute) in
    let e = second_again f r.tail r.s r.is_second in
    rw (r.spelled, b, d, e) refl

pub seconds_below : (f : MomentFormat) (tail s : List ℕ) → IsSeconds f tail s → digits_value 10 s < 60
seconds_below Seconds tail s h = pair_below s 60 h.1
seconds_below Minutes tail s h = rw h.1 (omega arith)
seconds_below (Spaced date time) tail s h = absurd h

pub no_time_fields : (f : MomentFormat) (bs : List ℕ) → time_fields f bs ≡ None → (second : ℕ) → ReadsTime f bs second → ⊥
no_time_fields f bs h second r = let e = time_again f bs second r in cc

pub no_time : (f : MomentFormat) (bs : List ℕ) (h m s : ℕ) → time_fields f bs ≡ Some (h, m, s) → (IsTimeOfDay h m s → ⊥) → (second : ℕ)
    → ReadsTime f bs second → ⊥
no_time f bs h m s is never second r =
    let same = some_same (h, m, s) (digits_value 10 r.h, digits_value 10 r.m, digits_value 10 r.s) (0, 0, 0) (sym is ∙ time_again f bs second r) in
    let hv : h ≡ digits_value 10 r.h = ap (λ (x : ℕ × ℕ × ℕ). x.0) same in
    let mv : m ≡ digits_value 10 r.m = ap (λ (x : ℕ × ℕ × ℕ). x.1) same in
    let sv : s ≡ digits_value 10 r.s = ap (λ (x : ℕ × ℕ × ℕ). x.2) same in
    never (omega (arith, hv, r.is_hour.2), omega (arith, mv, r.is_minute.2), omega (arith, sv, seconds_below f r.tail r.s r.is_second))

-- the answer for fields, as one for the text
pub time_answer : (f : MomentFormat) (bs : List ℕ) (h m s : ℕ) (o : Option ℕ) → time_fields f bs ≡ Some (h, m, s)
    → MatchOption o (IsTimeOfDay h m s → ⊥) (λ n. IsTimeOfDay h m s × (n ≡ h * 3600 + m * 60 + s))
    → MatchOption o ((second : ℕ) → ReadsTime f bs second → ⊥) (ReadsTime f bs)
time_answer f bs h m s None is a = no_time f bs h m s is a
time_answer f bs h m s (Some n) is a = let P : ℕ → Type 0 = λ n. ReadsTime f bs n in subst P (sym a.1) (time_sound f bs h m s is a.0)

-- the date of a moment is its first ten bytes
date_length : (text : List ℕ) (day : ℤ) → ReadsDate YearFirst text day → length text ≡ 10
date_length text day r =
    let m : length r.m ≡ 2 = elim r.month.count [ inl two ↦ two | inr one ↦ absurd one.0 ] in
    let d : length r.d ≡ 2 = elim r.date.count [ inl two ↦ two | inr one ↦ absurd one.0 ] in
    ap length r.spelled ∙ length-append r.y (45 ∷ (r.m ++ (45 ∷ r.d))) ∙ omega (arith, r.year.1, m, d, length-append r.m (45 ∷ r.d))

pub moment_long : (f : MomentFormat) (text : List ℕ) → length text < 10 → (moment : ℤ) → ReadsJoined f text moment → ⊥
moment_long f text short moment r = omega (arith, short, ap length r.spelled, length-append r.date r.time, date_length r.date r.day r.is_date)

-- a moment has its date in front of its time
pub record Parts (f : MomentFormat) (text : List ℕ) (moment : ℤ) : Type 0 where
  pub day : ℤ
  pub second : ℕ
  pub date : ReadsDate YearFirst (take 10 text) day
  pub time : ReadsTime f (drop 10 text) second
  pub value : moment ≡ (day *ℤ pos 86_400) +ℤ pos second

take_front : (xs ys : List ℕ) (n : ℕ) → length xs ≡ n → take n (xs ++ ys) ≡ xs
take_front xs ys n e = ap (λ k. take k (xs ++ ys)) (sym e) ∙ take-append_seam xs ys

drop_front : (xs ys : List ℕ) (n : ℕ) → length xs ≡ n → drop n (xs ++ ys) ≡ ys
drop_front xs ys n e = ap (λ k. drop k (xs ++ ys)) (sym e) ∙ drop-append_seam xs ys

pub parts_of : (f : MomentFormat) (text : List ℕ) (moment : ℤ) → ReadsJoined f text moment → Parts f text moment
parts_of f text moment r =
    let l = date_length r.date r.day r.is_date in
    let a : take 10 text ≡ r.date = ap (take 10) r.spelled ∙ take_front r.date r.time 10 l in
    let b : drop 10 text ≡ r.time = ap (drop 10) r.spelled ∙ drop_front r.date r.time 10 l in
    let P : List ℕ → Type 0 = λ t. ReadsDate YearFirst t r.day in
    let Q : List ℕ → Type 0 = λ t. ReadsTime f t r.second in
    record { day = r.day; second = r.second; date = subst P (sym a) r.is_date; time = subst Q (sym b) r.is_time; value = r.is_value }

pub no_date : (f : MomentFormat) (text : List ℕ) → ((day : ℤ) → ReadsDate YearFirst (take 10 text) day → ⊥) → (moment : ℤ) → ReadsJoined f text moment → ⊥
no_date f text never moment r = let p = parts_of f text moment r in never p.day p.date

pub no_time_of_day : (f : MomentFormat) (text : List ℕ) → ((second : ℕ) → ReadsTime f (drop 10 text) second → ⊥) → (moment : ℤ) → ReadsJoined f text moment → ⊥
no_time_of_day f text never moment r = let p = parts_of f text moment r in never p.second p.time

pub moment_read : (f : MomentFormat) (text : List ℕ) (day : ℤ) (second : ℕ) (moment : ℤ) → take 10 text ++ drop 10 text ≡ text
    → ReadsDate YearFirst (take 10 text) day → ReadsTime f (drop 10 text) second → moment ≡ (day *ℤ pos 86_400) +ℤ pos second → ReadsJoined f text moment
moment_read f text day second moment whole d t e =
    record { date = take 10 text; time = drop 10 text; day = day; second = second; is_date = d; is_time = t; spelled = sym whole; is_value = e }
