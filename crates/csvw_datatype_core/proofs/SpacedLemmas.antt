-- A moment whose text has a space: the text before the first space is the date, since a date has no space.
use Rattle.std.proofs.Common.{◌≡◌, ◌≢◌, ℕ, suc, ◌+◌, ◌*◌, ◌<◌, ◌==◌, length, Bool, true, false, Option, Some, None, List, [], ◌∷◌, ◌++◌}
use Rattle.std.proofs.Common.{refl, sym, ap, subst, ◌∙◌, arith, ℤ, pos, ◌+ℤ◌, ◌*ℤ◌, MatchOption, if◌then◌else◌, Bor}
use Rattle.std.specs.Prelude.{option_map}
use Rattle.std.specs.List.{AllByRecursion}
use Rattle.std.specs.Char.{IsAsciiDigit}
use Rattle.std.proofs.Math.ListN.{get_or}
use Rattle.std.proofs.lemmas.Bool.{eqb-true}
use Rattle.std.proofs.lemmas.Option.{same_Some}
use Rattle.csvw_datatype_core.specs.declared.date.Separator.{Separator}
use Rattle.csvw_datatype_core.specs.declared.date.Separator.TheVariants.{Dash, Slash, Dot}
use Rattle.csvw_datatype_core.specs.declared.date.DateFormat.{DateFormat}
use Rattle.csvw_datatype_core.specs.declared.date.DateFormat.TheVariants.{YearFirst, Compact, DayFirst, MonthFirst}
use Rattle.csvw_datatype_core.specs.declared.time.TimeFormat.{TimeFormat}
use Rattle.csvw_datatype_core.specs.Dates.{separator_byte, date_text, ReadsDate}
use Rattle.csvw_datatype_core.specs.Moments.{ReadsSpaced}
use Rattle.csvw_datatype_core.specs.Fields.{option_view}
use Rattle.csvw_datatype_core.specs.TimeFields.{IsTimeOfDay}
use Rattle.csvw_datatype_core.specs.Times.{clock_fields}
use Rattle.csvw_datatype_core.specs.LexicalDates.{IsMomentNumber}
use Rattle.csvw_datatype_core.specs.Values.{second_of, is_time_of_day, time_value, date_value, at_space, parts_value, spaced_value, together}
use Rattle.csvw_datatype_core.proofs.OneValue.{one_date}
use Rattle.csvw_datatype_core.proofs.LexicalDateLemmas.{date_in_range, in_range}
use Rattle.csvw_datatype_core.proofs.ValueLemmas.{date_given, time_tested, no_time_tested}

-- no byte is a space
abbrev pub IsFree : List ℕ → Type 0
IsFree bs = AllByRecursion (λ b. b ≢ 32) bs

no_space : (b : ℕ) (same : Bool) → b ≢ 32 → (b == 32) ≡ same → same ≡ false
no_space b false differs e = refl
no_space b true differs e = absurd (differs (eqb-true b 32 e))

digit_free : (d : ℕ) → IsAsciiDigit d → d ≢ 32
digit_free d h = λ e. omega (arith, h, e)

digits_free : (ds : List ℕ) → AllByRecursion IsAsciiDigit ds → IsFree ds
digits_free [] h = tt
digits_free (d ∷ ds) h = (digit_free d h.0, digits_free ds h.1)

free_append : (xs ys : List ℕ) → IsFree xs → IsFree ys → IsFree (xs ++ ys)
free_append [] ys p q = q
free_append (x ∷ xs) ys p q = (p.0, free_append xs ys p.1 q)

separator_free : (by : Separator) → separator_byte by ≢ 32
separator_free Dash = λ e. omega (arith, e)
separator_free Slash = λ e. omega (arith, e)
separator_free Dot = λ e. omega (arith, e)

-- three parts with a separator between them
parts_free : (by : ℕ) (a b c : List ℕ) → by ≢ 32 → IsFree a → IsFree b → IsFree c → IsFree (a ++ (by ∷ (b ++ (by ∷ c))))
parts_free by a b c s p q r = free_append a (by ∷ (b ++ (by ∷ c))) p (s, free_append b (by ∷ c) q (s, r))

text_free : (f : DateFormat) (y m d : List ℕ) → IsFree y → IsFree m → IsFree d → IsFree (date_text f y m d)
text_free YearFirst y m d p q r = parts_free 45 y m d (separator_free Dash) p q r
text_free Compact y m d p q r = free_append y (m ++ d) p (free_append m d q r)
text_free (DayFirst digits by) y m d p q r = parts_free (separator_byte by) d m y (separator_free by) r q p
text_free (MonthFirst digits by) y m d p q r = parts_free (separator_byte by) m d y (separator_free by) q r p

-- a date has no space
date_free : (f : DateFormat) (text : List ℕ) (day : ℤ) → ReadsDate f text day → IsFree text
date_free f text day r =
    subst IsFree (sym r.spelled)
    (text_free f r.y r.m r.d (digits_free r.y r.year.0) (digits_free r.m r.month.are_digits) (digits_free r.d r.date.are_digits))

abbrev onto_front : ℕ → Option (List ℕ × List ℕ) → Option (List ℕ × List ℕ)
onto_front b o = option_map (λ x. (b ∷ x.0, x.1)) o

pub space_at : (front rest : List ℕ) → IsFree front → at_space (front ++ (32 ∷ rest)) ≡ Some (front, rest)
space_at [] rest p = refl
space_at (b ∷ bs) rest p = let is_other = no_space b (b == 32) p.0 refl in rw is_other (ap (onto_front b) (space_at bs rest p.1))

pub no_space_in : (bs : List ℕ) → IsFree bs → at_space bs ≡ None
no_space_in [] p = refl
no_space_in (b ∷ bs) p = let is_other = no_space b (b == 32) p.0 refl in rw is_other (ap (onto_front b) (no_space_in bs p.1))

-- no byte is a space, by the places of the bytes
pub by_places : (bs : List ℕ) → ((i : ℕ) → i < length bs → get_or bs i 0 ≢ 32) → IsFree bs
by_places [] free = tt
by_places (b ∷ bs) free = (free 0 (omega arith), by_places bs (λ i low. free (suc i) (omega (arith, low))))

spelled_if : (b : ℕ) (bs front rest : List ℕ) (same : Bool) (o : Option (List ℕ × List ℕ)) → (b == 32) ≡ same
    → ((f r : List ℕ) → o ≡ Some (f, r) → bs ≡ f ++ (32 ∷ r)) → (if same then Some ([], bs) else onto_front b o) ≡ Some (front, rest)
    → b ∷ bs ≡ front ++ (32 ∷ rest)
spelled_if b bs front rest true o e more h =
    let same : ([], bs) ≡ (front, rest) = same_Some ([], bs) (front, rest) h in
    ap (λ c. c ∷ bs) (eqb-true b 32 e) ∙ ap (λ (x : List ℕ × List ℕ). x.0 ++ (32 ∷ x.1)) same
spelled_if b bs front rest false None e more h = cc
spelled_if b bs front rest false (Some x) e more h =
    let same : (b ∷ x.0, x.1) ≡ (front, rest) = same_Some (b ∷ x.0, x.1) (front, rest) h in
    ap (λ t. b ∷ t) (more x.0 x.1 refl) ∙ ap (λ (y : List ℕ × List ℕ). y.0 ++ (32 ∷ y.1)) same

-- the text is the text before its space, the space, and the text after it
pub spelled_at : (bs front rest : List ℕ) → at_space bs ≡ Some (front, rest) → bs ≡ front ++ (32 ∷ rest)
spelled_at [] front rest h = cc
spelled_at (b ∷ bs) front rest h = spelled_if b bs front rest (b == 32) (at_space bs) refl (spelled_at bs) h

-- the parts of a moment with a space
pub parts_at : (f : DateFormat) (g : TimeFormat) (text : List ℕ) (moment : ℤ) → (r : ReadsSpaced f g text moment) → at_space text ≡ Some (r.date, r.time)
parts_at f g text moment r = ap at_space r.spelled ∙ space_at r.date r.time (date_free f r.date r.day r.is_date)

-- the parts that `split_once` returns are those of the definition
pub split_is : (bs : List ℕ) (o : Option (Bor (List ℕ) × Bor (List ℕ)))
    → MatchOption o ((i : ℕ) → i < length bs → get_or bs i 0 ≢ 32)
    (λ x. (bs ≡ x.0.now ++ (32 ∷ x.1.now)) × ((i : ℕ) → i < length x.0.now → get_or x.0.now i 0 ≢ 32))
    → option_view (λ x. (x.0.now, x.1.now)) o ≡ at_space bs
split_is bs None h = sym (no_space_in bs (by_places bs h))
split_is bs (Some x) h = sym (ap at_space h.0 ∙ space_at x.0.now x.1.now (by_places x.0.now h.1))

-- a reader that returns the day, or says that there is none, returns what `date_value` does
pub same_day : (f : DateFormat) (text : List ℕ) (o p : Option ℤ) → MatchOption o ((day : ℤ) → ReadsDate f text day → ⊥) (ReadsDate f text)
    → MatchOption p ((day : ℤ) → ReadsDate f text day → ⊥) (ReadsDate f text) → o ≡ p
same_day f text None None h k = refl
same_day f text None (Some b) h k = absurd (h b k)
same_day f text (Some a) None h k = absurd (k a h)
same_day f text (Some a) (Some b) h k = ap Some (one_date f text a b h k)

pub day_is : (f : DateFormat) (text : List ℕ) (o : Option ℤ) → MatchOption o ((day : ℤ) → ReadsDate f text day → ⊥) (ReadsDate f text)
    → o ≡ date_value f text
day_is f text o h = same_day f text o (date_value f text) h (date_given f text)

second_tested : (h m s : ℕ) (b : Bool) → is_time_of_day h m s ≡ b → (o : Option ℕ)
    → MatchOption o (¬ IsTimeOfDay h m s) (λ n. IsTimeOfDay h m s × (n ≡ h * 3600 + m * 60 + s))
    → o ≡ (if b then Some (h * 3600 + m * 60 + s) else None)
second_tested h m s false test None is = refl
second_tested h m s false test (Some n) is = absurd (no_time_tested h m s test is.0)
second_tested h m s true test None is = absurd (is (time_tested h m s test))
second_tested h m s true test (Some n) is = ap Some is.1

-- the second of a day, by its fields
pub second_is : (h m s : ℕ) (o : Option ℕ) → MatchOption o (¬ IsTimeOfDay h m s) (λ n. IsTimeOfDay h m s × (n ≡ h * 3600 + m * 60 + s))
    → o ≡ second_of (Some (h, m, s))
second_is h m s o is = second_tested h m s (is_time_of_day h m s) refl o is

pub no_time_value : (g : TimeFormat) (text : List ℕ) → None ≡ clock_fields g text → None ≡ time_value g text
unfolding time_value
no_time_value g text is = ap second_of is

pub time_value_is : (g : TimeFormat) (text : List ℕ) (h m s : ℕ) (o : Option ℕ) → Some (h, m, s) ≡ clock_fields g text
    → MatchOption o (¬ IsTimeOfDay h m s) (λ n. IsTimeOfDay h m s × (n ≡ h * 3600 + m * 60 + s)) → o ≡ time_value g text
unfolding time_value
time_value_is g text h m s o is found = second_is h m s o found ∙ ap second_of is

abbrev IsSpacedGiven : DateFormat → TimeFormat → List ℕ → Option ℤ → Type 0
IsSpacedGiven f g text o = MatchOption o ((moment : ℤ) → ReadsSpaced f g text moment → ⊥) (ReadsSpaced f g text)

both_given : (f : DateFormat) (g : TimeFormat) (text date time : List ℕ) (day : Option ℤ) (second : Option ℕ) → at_space text ≡ Some (date, time)
    → MatchOption day ((d : ℤ) → ReadsDate f date d → ⊥) (ReadsDate f date) → time_value g time ≡ second
    → IsSpacedGiven f g text (together day second)
both_given f g text date time None second at d s = λ moment r.
    let same = same_Some (date, time) (r.date, r.time) (sym at ∙ parts_at f g text moment r) in
    d r.day (subst (λ t. ReadsDate f t r.day) (sym (ap (λ (x : List ℕ × List ℕ). x.0) same)) r.is_date)
both_given f g text date time (Some day) None at d s = λ moment r.
    let same = same_Some (date, time) (r.date, r.time) (sym at ∙ parts_at f g text moment r) in
    let is : time_value g time ≡ Some r.second = ap (λ (x : List ℕ × List ℕ). time_value g x.1) same ∙ r.is_time in
    cc
both_given f g text date time (Some day) (Some second) at d s = record {
  date = date;
  time = time;
  day = day;
  second = second;
  is_date = d;
  is_time = s;
  spelled = spelled_at text date time at;
  is_value = refl;
}

given_at : (f : DateFormat) (g : TimeFormat) (text : List ℕ) (o : Option (List ℕ × List ℕ)) → at_space text ≡ o → IsSpacedGiven f g text (parts_value f g o)
given_at f g text None at = λ moment r. let is = parts_at f g text moment r in cc
given_at f g text (Some x) at = both_given f g text x.0 x.1 (date_value f x.0) (time_value g x.1) at (date_given f x.0) refl

pub spaced_given : (f : DateFormat) (g : TimeFormat) (text : List ℕ) → IsSpacedGiven f g text (spaced_value f g text)
unfolding spaced_value
spaced_given f g text = given_at f g text (at_space text) refl

-- a text is one moment at most
pub one_spaced : (f : DateFormat) (g : TimeFormat) (text : List ℕ) (a b : ℤ) → ReadsSpaced f g text a → ReadsSpaced f g text b → a ≡ b
one_spaced f g text a b r s =
    let same = same_Some (r.date, r.time) (s.date, s.time) (sym (parts_at f g text a r) ∙ parts_at f g text b s) in
    let q : ReadsDate f r.date s.day = subst (λ t. ReadsDate f t s.day) (sym (ap (λ (x : List ℕ × List ℕ). x.0) same)) s.is_date in
    let day : r.day ≡ s.day = one_date f r.date r.day s.day r.is_date q in
    let again : time_value g r.time ≡ Some s.second = ap (λ (x : List ℕ × List ℕ). time_value g x.1) same ∙ s.is_time in
    let second : r.second ≡ s.second = same_Some r.second s.second (sym r.is_time ∙ again) in
    r.is_value ∙ ap (λ d. (d *ℤ pos 86_400) +ℤ pos r.second) day ∙ ap (λ n. (s.day *ℤ pos 86_400) +ℤ pos n) second ∙ sym s.is_value

below_if : (h m s : ℕ) (b : Bool) (second : ℕ) → is_time_of_day h m s ≡ b
    → (if b then Some (h * 3600 + m * 60 + s) else None) ≡ Some second → second < 86_400
below_if h m s false second test is = cc
below_if h m s true second test is =
    let inside = time_tested h m s test in
    omega (arith, inside.0, inside.1, inside.2, same_Some (h * 3600 + m * 60 + s) second is)

below : (o : Option (ℕ × ℕ × ℕ)) (second : ℕ) → second_of o ≡ Some second → second < 86_400
below None second is = cc
below (Some x) second is = below_if x.0 x.1 x.2 _ second refl is

second_below : (g : TimeFormat) (text : List ℕ) (second : ℕ) → time_value g text ≡ Some second → second < 86_400
unfolding time_value
second_below g text second is = below (clock_fields g text) second is

-- the moment is in the years 0001 to 9999
pub spaced_in_range : (f : DateFormat) (g : TimeFormat) (text : List ℕ) (moment : ℤ) → ReadsSpaced f g text moment → IsMomentNumber moment
spaced_in_range f g text moment r =
    in_range r.day moment r.second (date_in_range f r.date r.day r.is_date) (second_below g r.time r.second r.is_time) r.is_value
