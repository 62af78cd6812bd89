-- A pattern is read from its end as it was written. The search doesn't split a text, nor count its letters.
use Rattle.std.proofs.Common.{◌≡◌, ◌≢◌, ℕ, zero, suc, ◌-◌, ◌≤◌, ◌==◌, Bool, true, false, ◌&&◌, if◌then◌else◌, Option, Some, None}
use Rattle.std.proofs.Common.{List, [], ◌∷◌, ◌++◌, append_assoc, append-nil, length, drop, bytes_eq, refl, sym, ap, ◌∙◌, arith}
use Rattle.std.specs.Prelude.{nat_le}
use Rattle.std.proofs.lemmas.Bool.{eqb-true, and_parts}
use Rattle.std.proofs.lemmas.Bool.Decides.{nat_tests}
use Rattle.std.proofs.lemmas.List.{length-append}
use Rattle.std.proofs.lemmas.Option.{same_Some}
use Rattle.csvw_datatype_core.specs.declared.time.TimeFormat.{TimeFormat}
use Rattle.csvw_datatype_core.specs.declared.time.TimeFormat.TheVariants as times
use Rattle.csvw_datatype_core.specs.declared.moment.MomentFormat.{MomentFormat}
use Rattle.csvw_datatype_core.specs.declared.moment.MomentFormat.TheVariants.{Seconds, Minutes, Spaced}
use Rattle.csvw_datatype_core.specs.declared.stamp_format.OffsetForm.{OffsetForm}
use Rattle.csvw_datatype_core.specs.declared.stamp_format.OffsetForm.TheVariants as forms
use Rattle.csvw_datatype_core.specs.declared.stamp_format.UtcMark.{UtcMark}
use Rattle.csvw_datatype_core.specs.declared.stamp_format.UtcMark.TheVariants as marks
use Rattle.csvw_datatype_core.specs.declared.stamp_format.ZoneGap.{ZoneGap}
use Rattle.csvw_datatype_core.specs.declared.stamp_format.ZoneGap.TheVariants as gaps
use Rattle.csvw_datatype_core.specs.declared.stamp_format.Letter.{Letter}
use Rattle.csvw_datatype_core.specs.declared.stamp_format.Letter.TheVariants as symbols
use Rattle.csvw_datatype_core.specs.declared.stamp_format.ZoneFormat.{ZoneFormat}
use Rattle.csvw_datatype_core.specs.declared.stamp_format.StampFormat.{StampFormat}
use Rattle.csvw_datatype_core.specs.DatePatterns.{date_pattern, moment_pattern}
use Rattle.csvw_datatype_core.specs.Fields.{◌>>=◌}
use Rattle.csvw_datatype_core.specs.Times.{time_pattern}
use Rattle.csvw_datatype_core.specs.StampFormats.{letters, fraction_pattern, gap_pattern, zone_letter, form_letters, zone_pattern, stamp_pattern, has_seconds, is_stamp, first_kept, without, run_at}
use Rattle.csvw_datatype_core.specs.StampFormats.{letter_byte, form_of, gap_of, zoned, upper_zone, zone_split, pointed, fraction_split}

-- ---- letters at the end

same_byte : (b : ℕ) → (b == b) ≡ true
same_byte b = grind (arith, nat_tests)

one_removed : (b : ℕ) → without b (b ∷ []) ≡ []
one_removed b = rw (same_byte b) refl

pub removed : (b : ℕ) (front : List ℕ) → without b (front ++ (b ∷ [])) ≡ without b front
removed b [] = one_removed b
removed b (d ∷ ds) = ap (λ l. first_kept b d l) (removed b ds)

one_kept : (b d : ℕ) (same : Bool) → (d == b) ≡ same → ((front : List ℕ) → d ∷ [] ≢ front ++ (b ∷ [])) → first_kept b d [] ≡ d ∷ []
one_kept b d true e h = absurd (h [] (ap (λ c. c ∷ []) (eqb-true d b e)))
one_kept b d false e h = rw e refl

pub kept : (b : ℕ) (bs : List ℕ) → ((front : List ℕ) → bs ≢ front ++ (b ∷ [])) → without b bs ≡ bs
kept b [] h = refl
kept b (d ∷ []) h = one_kept b d (d == b) refl h
kept b (d ∷ e ∷ es) h = ap (λ l. first_kept b d l) (kept b (e ∷ es) (λ front k. h (d ∷ front) (ap (λ l. d ∷ l) k)))

spelled_one : (b d : ℕ) (ds : List ℕ) (same : Bool) → (d == b) ≡ same → ds ≡ letters b (length ds - 0)
    → d ∷ ds ≡ (if same then [] else d ∷ []) ++ letters b (length (d ∷ ds) - length (if same then [] else d ∷ []))
spelled_one b d ds true e h =
    let more : length (d ∷ ds) - 0 ≡ suc (length ds) = omega arith in
    let all : length ds - 0 ≡ length ds = omega arith in
    ap (λ c. c ∷ ds) (eqb-true d b e) ∙ ap (λ l. b ∷ l) (h ∙ ap (letters b) all) ∙ sym (ap (letters b) more)
spelled_one b d ds false e h =
    let same : length ds - 0 ≡ length (d ∷ ds) - 1 = omega arith in
    ap (λ l. d ∷ l) (h ∙ ap (letters b) same)

spelled_by : (b d : ℕ) (ds w : List ℕ) → ds ≡ w ++ letters b (length ds - length w)
    → d ∷ ds ≡ first_kept b d w ++ letters b (length (d ∷ ds) - length (first_kept b d w))
spelled_by b d ds [] h = spelled_one b d ds (d == b) refl h
spelled_by b d ds (e ∷ es) h =
    let same : length ds - length (e ∷ es) ≡ length (d ∷ ds) - length (d ∷ e ∷ es) = omega arith in
    ap (λ l. d ∷ l) (h ∙ ap (λ k. (e ∷ es) ++ letters b k) same)

-- a text is the text before its letters, and the letters
run_spelled : (b : ℕ) (bs : List ℕ) → bs ≡ without b bs ++ letters b (length bs - length (without b bs))
run_spelled b [] = refl
run_spelled b (d ∷ ds) = spelled_by b d ds (without b ds) (run_spelled b ds)

letters_gone : (b n : ℕ) → without b (letters b n) ≡ []
letters_gone b zero = refl
letters_gone b (suc n) = ap (λ l. first_kept b b l) (letters_gone b n) ∙ one_removed b

gone_after : (b : ℕ) (xs ys : List ℕ) → without b ys ≡ [] → without b (xs ++ ys) ≡ without b xs
gone_after b [] ys h = h
gone_after b (x ∷ xs) ys h = ap (λ l. first_kept b x l) (gone_after b xs ys h)

with_more : (b x : ℕ) (xs : List ℕ) (y : ℕ) (ys : List ℕ) → first_kept b x (xs ++ (y ∷ ys)) ≡ x ∷ (xs ++ (y ∷ ys))
with_more b x [] y ys = refl
with_more b x (z ∷ zs) y ys = refl

pub stays_after : (b : ℕ) (xs : List ℕ) (y : ℕ) (ys : List ℕ) → without b (y ∷ ys) ≡ y ∷ ys → without b (xs ++ (y ∷ ys)) ≡ xs ++ (y ∷ ys)
stays_after b [] y ys h = h
stays_after b (x ∷ xs) y ys h = ap (λ l. first_kept b x l) (stays_after b xs y ys h) ∙ with_more b x xs y ys

letters_other : (a b n : ℕ) → (b == a) ≡ false → without a (letters b (suc n)) ≡ letters b (suc n)
letters_other a b zero e = rw e refl
letters_other a b (suc n) e = ap (λ l. first_kept a b l) (letters_other a b n e)

letters_long : (b n : ℕ) → length (letters b n) ≡ n
letters_long b zero = refl
letters_long b (suc n) = ap suc (letters_long b n)

run_is : (b : ℕ) (xs : List ℕ) (n : ℕ) → without b xs ≡ xs → run_at b (xs ++ letters b n) ≡ (xs, n)
run_is b xs n h =
    let bs = xs ++ letters b n in
    let count : length bs - length xs ≡ n = omega (arith, length-append xs (letters b n), letters_long b n) in
    ap (λ (l : List ℕ). (l, length bs - length l)) (gone_after b xs (letters b n) (letters_gone b n) ∙ h) ∙ ap (λ k. (xs, k)) count

run_none : (b : ℕ) (bs : List ℕ) → without b bs ≡ bs → run_at b bs ≡ (bs, 0)
run_none b bs h =
    let count : length bs - length bs ≡ 0 = omega arith in
    ap (λ (l : List ℕ). (l, length bs - length l)) h ∙ ap (λ k. (bs, k)) count

-- ---- the zone

abbrev zoned_by : UtcMark → ℕ → List ℕ × ℕ → Option (List ℕ × Option ZoneFormat)
zoned_by utc n y = form_of n >>= (λ form. gap_of y.1 >>= (λ gap. Some (y.0, Some (record { form = form; utc = utc; gap = gap }))))

zoned_again : (utc : UtcMark) (m : List ℕ) (gap : ZoneGap) (form : OffsetForm) → without 32 m ≡ m
    → zoned utc (m ++ gap_pattern gap, form_letters form) ≡ Some (m, Some (record { form = form; utc = utc; gap = gap }))
unfolding zoned
zoned_again utc m gaps.None forms.Short h = ap (λ y. zoned_by utc 1 y) (run_is 32 m 0 h)
zoned_again utc m gaps.None forms.Basic h = ap (λ y. zoned_by utc 2 y) (run_is 32 m 0 h)
zoned_again utc m gaps.None forms.Extended h = ap (λ y. zoned_by utc 3 y) (run_is 32 m 0 h)
zoned_again utc m gaps.Space forms.Short h = ap (λ y. zoned_by utc 1 y) (run_is 32 m 1 h)
zoned_again utc m gaps.Space forms.Basic h = ap (λ y. zoned_by utc 2 y) (run_is 32 m 1 h)
zoned_again utc m gaps.Space forms.Extended h = ap (λ y. zoned_by utc 3 y) (run_is 32 m 1 h)

abbrev lower_by : List ℕ → List ℕ × ℕ → Option (List ℕ × Option ZoneFormat)
lower_by bs y = if y.1 == 0 then upper_zone bs else zoned marks.Digits y

abbrev upper_by : List ℕ → List ℕ × ℕ → Option (List ℕ × Option ZoneFormat)
upper_by bs y = if y.1 == 0 then Some (bs, None) else zoned marks.Allowed y

lower_again : (m : List ℕ) (form : OffsetForm) → without 120 m ≡ m
    → zone_split (m ++ letters 120 (form_letters form)) ≡ zoned marks.Digits (m, form_letters form)
lower_again m forms.Short h = ap (λ y. lower_by (m ++ letters 120 1) y) (run_is 120 m 1 h)
lower_again m forms.Basic h = ap (λ y. lower_by (m ++ letters 120 2) y) (run_is 120 m 2 h)
lower_again m forms.Extended h = ap (λ y. lower_by (m ++ letters 120 3) y) (run_is 120 m 3 h)

no_lower : (m : List ℕ) (n : ℕ) → zone_split (m ++ letters 88 (suc n)) ≡ upper_zone (m ++ letters 88 (suc n))
no_lower m n =
    let bs = m ++ letters 88 (suc n) in
    ap (λ y. lower_by bs y) (run_none 120 bs (stays_after 120 m 88 (letters 88 n) (letters_other 120 88 n refl)))

upper_again : (m : List ℕ) (form : OffsetForm) → without 88 m ≡ m
    → zone_split (m ++ letters 88 (form_letters form)) ≡ zoned marks.Allowed (m, form_letters form)
upper_again m forms.Short h = no_lower m 0 ∙ ap (λ y. upper_by (m ++ letters 88 1) y) (run_is 88 m 1 h)
upper_again m forms.Basic h = no_lower m 1 ∙ ap (λ y. upper_by (m ++ letters 88 2) y) (run_is 88 m 2 h)
upper_again m forms.Extended h = no_lower m 2 ∙ ap (λ y. upper_by (m ++ letters 88 3) y) (run_is 88 m 3 h)

letters_again : (utc : UtcMark) (m : List ℕ) (form : OffsetForm) → without 120 m ≡ m → without 88 m ≡ m
    → zone_split (m ++ letters (zone_letter utc) (form_letters form)) ≡ zoned utc (m, form_letters form)
letters_again marks.Digits m form l u = lower_again m form l
letters_again marks.Allowed m form l u = upper_again m form u

gap_kept : (b : ℕ) (m : List ℕ) (gap : ZoneGap) → (32 == b) ≡ false → without b m ≡ m → without b (m ++ gap_pattern gap) ≡ m ++ gap_pattern gap
gap_kept b m gaps.None e h = gone_after b m [] refl ∙ h ∙ sym (append-nil m)
gap_kept b m gaps.Space e h = stays_after b m 32 [] (rw e refl)

-- what is before a zone doesn't end with a letter of it
pub record IsPlain (m : List ℕ) : Type 0 where
  pub lower : without 120 m ≡ m
  pub upper : without 88 m ≡ m
  pub gap : without 32 m ≡ m

pub zone_again : (m : List ℕ) (zone : Option ZoneFormat) → IsPlain m → zone_split (m ++ zone_pattern zone) ≡ Some (m, zone)
zone_again m None p =
    ap zone_split (append-nil m) ∙ ap (λ y. lower_by m y) (run_none 120 m p.lower) ∙ ap (λ y. upper_by m y) (run_none 88 m p.upper)
zone_again m (Some z) p =
    ap zone_split (sym (append_assoc m (gap_pattern z.gap) (letters (zone_letter z.utc) (form_letters z.form))))
    ∙ letters_again z.utc (m ++ gap_pattern z.gap) z.form (gap_kept 120 m z.gap refl p.lower) (gap_kept 88 m z.gap refl p.upper)
    ∙ zoned_again z.utc m z.gap z.form p.gap

form_back : (n : ℕ) (form : OffsetForm) (one two three : Bool) → (n == 1) ≡ one → (n == 2) ≡ two → (n == 3) ≡ three
    → (if one then Some forms.Short else (if two then Some forms.Basic else (if three then Some forms.Extended else None))) ≡ Some form
    → n ≡ form_letters form
form_back n form true two three a b c h = eqb-true n 1 a ∙ ap form_letters (same_Some forms.Short form h)
form_back n form false true three a b c h = eqb-true n 2 b ∙ ap form_letters (same_Some forms.Basic form h)
form_back n form false false true a b c h = eqb-true n 3 c ∙ ap form_letters (same_Some forms.Extended form h)
form_back n form false false false a b c h = cc

gap_back : (n : ℕ) (gap : ZoneGap) (none one : Bool) → (n == 0) ≡ none → (n == 1) ≡ one
    → (if none then Some gaps.None else (if one then Some gaps.Space else None)) ≡ Some gap → letters 32 n ≡ gap_pattern gap
gap_back n gap true one a b h = ap (letters 32) (eqb-true n 0 a) ∙ ap gap_pattern (same_Some gaps.None gap h)
gap_back n gap false true a b h = ap (letters 32) (eqb-true n 1 b) ∙ ap gap_pattern (same_Some gaps.Space gap h)
gap_back n gap false false a b h = cc

abbrev joined : List ℕ × Option ZoneFormat → List ℕ
joined x = x.0 ++ zone_pattern x.1

zoned_cases : (utc : UtcMark) (bs : List ℕ) (n : ℕ) (x : List ℕ × Option ZoneFormat) (form : Option OffsetForm) (gap : Option ZoneGap)
    → form_of n ≡ form → gap_of (run_at 32 bs).1 ≡ gap
    → (form >>= (λ f. gap >>= (λ g. Some (without 32 bs, Some (record { form = f; utc = utc; gap = g }))))) ≡ Some x
    → bs ++ letters (zone_letter utc) n ≡ joined x
zoned_cases utc bs n x None gap f g h = cc
zoned_cases utc bs n x (Some form) None f g h = cc
zoned_cases utc bs n x (Some form) (Some gap) f g h =
    let w = without 32 bs in
    let count = length bs - length w in
    let z : ZoneFormat = record { form = form; utc = utc; gap = gap } in
    let spaces = gap_back count gap _ _ refl refl g in
    let many = form_back n form _ _ _ refl refl refl f in
    ap (λ (l : List ℕ). l ++ letters (zone_letter utc) n) (run_spelled 32 bs ∙ ap (λ (l : List ℕ). w ++ l) spaces)
    ∙ append_assoc w (gap_pattern gap) (letters (zone_letter utc) n)
    ∙ ap (λ k. w ++ (gap_pattern gap ++ letters (zone_letter utc) k)) many
    ∙ ap joined (same_Some (w, Some z) x h)

zoned_back : (utc : UtcMark) (bs : List ℕ) (n : ℕ) (x : List ℕ × Option ZoneFormat) → zoned utc (bs, n) ≡ Some x
    → bs ++ letters (zone_letter utc) n ≡ joined x
unfolding zoned
zoned_back utc bs n x h = zoned_cases utc bs n x (form_of n) (gap_of (run_at 32 bs).1) refl refl h

upper_back : (bs : List ℕ) (x : List ℕ × Option ZoneFormat) (none : Bool)
    → (if none then Some (bs, None) else zoned marks.Allowed (run_at 88 bs)) ≡ Some x → bs ≡ joined x
upper_back bs x true h = sym (append-nil bs) ∙ ap joined (same_Some (bs, None) x h)
upper_back bs x false h = run_spelled 88 bs ∙ zoned_back marks.Allowed (without 88 bs) (length bs - length (without 88 bs)) x h

zone_back : (bs : List ℕ) (x : List ℕ × Option ZoneFormat) (none : Bool)
    → (if none then upper_zone bs else zoned marks.Digits (run_at 120 bs)) ≡ Some x → bs ≡ joined x
zone_back bs x true h = upper_back bs x ((run_at 88 bs).1 == 0) h
zone_back bs x false h = run_spelled 120 bs ∙ zoned_back marks.Digits (without 120 bs) (length bs - length (without 120 bs)) x h

pub zone_spelled : (bs front : List ℕ) (zone : Option ZoneFormat) → zone_split bs ≡ Some (front, zone) → bs ≡ front ++ zone_pattern zone
zone_spelled bs front zone h = zone_back bs (front, zone) ((run_at 120 bs).1 == 0) h

-- ---- the digits of a second

abbrev pointed_by : ℕ → List ℕ × ℕ → Option (List ℕ × ℕ)
pointed_by n y = if nat_le n 255 && (y.1 == 1) then Some (y.0, n) else None

abbrev fraction_by : List ℕ → List ℕ × ℕ → Option (List ℕ × ℕ)
fraction_by bs y = if y.1 == 0 then Some (bs, 0) else pointed y

pub fraction_again : (m : List ℕ) (n : ℕ) → without 83 m ≡ m → without 46 m ≡ m → nat_le n 255 ≡ true
    → fraction_split (m ++ fraction_pattern n) ≡ Some (m, n)
fraction_again m zero p q few = ap fraction_split (append-nil m) ∙ ap (λ y. fraction_by m y) (run_none 83 m p)
fraction_again m (suc n) p q few =
    let front = m ++ (46 ∷ []) in
    let bs = front ++ letters 83 (suc n) in
    let some : (suc n == 0) ≡ false = grind (arith, nat_tests) in
    let apart : fraction_by bs (front, suc n) ≡ pointed (front, suc n) = rw some refl in
    let last : pointed_by (suc n) (m, 1) ≡ Some (m, suc n) = rw few refl in
    ap fraction_split (sym (append_assoc m (46 ∷ []) (letters 83 (suc n))))
    ∙ ap (λ y. fraction_by bs y) (run_is 83 front (suc n) (stays_after 83 m 46 [] refl)) ∙ apart
    ∙ ap (λ y. pointed_by (suc n) y) (run_is 46 m 1 q) ∙ last

abbrev with_digits : List ℕ × ℕ → List ℕ
with_digits x = x.0 ++ fraction_pattern x.1

some_digits : (n : ℕ) → (n == 0) ≡ false → 46 ∷ letters 83 n ≡ fraction_pattern n
some_digits zero h = cc
some_digits (suc n) h = refl

pointed_back : (bs : List ℕ) (n : ℕ) (x : List ℕ × ℕ) (fits : Bool) → (n == 0) ≡ false
    → (nat_le n 255 && ((run_at 46 bs).1 == 1)) ≡ fits → (if fits then Some (without 46 bs, n) else None) ≡ Some x
    → bs ++ letters 83 n ≡ with_digits x
pointed_back bs n x false some e h = cc
pointed_back bs n x true some e h =
    let w = without 46 bs in
    let one = eqb-true (length bs - length w) 1 (and_parts (nat_le n 255) ((run_at 46 bs).1 == 1) e).1 in
    ap (λ (l : List ℕ). l ++ letters 83 n) (run_spelled 46 bs ∙ ap (λ k. w ++ letters 46 k) one)
    ∙ append_assoc w (46 ∷ []) (letters 83 n) ∙ ap (λ (l : List ℕ). w ++ l) (some_digits n some) ∙ ap with_digits (same_Some (w, n) x h)

fraction_back : (bs : List ℕ) (x : List ℕ × ℕ) (none : Bool) → ((run_at 83 bs).1 == 0) ≡ none
    → (if none then Some (bs, 0) else pointed (run_at 83 bs)) ≡ Some x → bs ≡ with_digits x
fraction_back bs x true e h = sym (append-nil bs) ∙ ap with_digits (same_Some (bs, 0) x h)
fraction_back bs x false e h = run_spelled 83 bs ∙ pointed_back (without 83 bs) (length bs - length (without 83 bs)) x _ e refl h

pub fraction_spelled : (bs front : List ℕ) (n : ℕ) → fraction_split bs ≡ Some (front, n) → bs ≡ front ++ fraction_pattern n
fraction_spelled bs front n h = fraction_back bs (front, n) ((run_at 83 bs).1 == 0) refl h

-- ---- the loop

pub removed_from : (b : ℕ) (whole bs front : List ℕ) → bs ≡ front ++ (b ∷ []) → without b bs ≡ without b whole → without b front ≡ without b whole
removed_from b whole bs front e h = sym (removed b front) ∙ ap (λ (l : List ℕ). without b l) (sym e) ∙ h

-- ---- what is before the zone and the digits

pub pattern_plain : (l : Letter) (t : TimeFormat) → without (letter_byte l) (time_pattern t) ≡ time_pattern t
pattern_plain symbols.Parts times.Seconds = refl
pattern_plain symbols.Parts times.CompactSeconds = refl
pattern_plain symbols.Parts times.Minutes = refl
pattern_plain symbols.Parts times.CompactMinutes = refl
pattern_plain symbols.Point times.Seconds = refl
pattern_plain symbols.Point times.CompactSeconds = refl
pattern_plain symbols.Point times.Minutes = refl
pattern_plain symbols.Point times.CompactMinutes = refl
pattern_plain symbols.Gap times.Seconds = refl
pattern_plain symbols.Gap times.CompactSeconds = refl
pattern_plain symbols.Gap times.Minutes = refl
pattern_plain symbols.Gap times.CompactMinutes = refl
pattern_plain symbols.Upper times.Seconds = refl
pattern_plain symbols.Upper times.CompactSeconds = refl
pattern_plain symbols.Upper times.Minutes = refl
pattern_plain symbols.Upper times.CompactMinutes = refl
pattern_plain symbols.Lower times.Seconds = refl
pattern_plain symbols.Lower times.CompactSeconds = refl
pattern_plain symbols.Lower times.Minutes = refl
pattern_plain symbols.Lower times.CompactMinutes = refl

time_plain : (l : Letter) (t : TimeFormat) → without (letter_byte l) (32 ∷ time_pattern t) ≡ 32 ∷ time_pattern t
time_plain l times.Seconds = ap (λ r. first_kept (letter_byte l) 32 r) (pattern_plain l times.Seconds)
time_plain l times.CompactSeconds = ap (λ r. first_kept (letter_byte l) 32 r) (pattern_plain l times.CompactSeconds)
time_plain l times.Minutes = ap (λ r. first_kept (letter_byte l) 32 r) (pattern_plain l times.Minutes)
time_plain l times.CompactMinutes = ap (λ r. first_kept (letter_byte l) 32 r) (pattern_plain l times.CompactMinutes)

joined_plain : (l : Letter) → (without (letter_byte l) (moment_pattern Seconds) ≡ moment_pattern Seconds)
    × (without (letter_byte l) (moment_pattern Minutes) ≡ moment_pattern Minutes)
joined_plain symbols.Parts = (refl, refl)
joined_plain symbols.Point = (refl, refl)
joined_plain symbols.Gap = (refl, refl)
joined_plain symbols.Upper = (refl, refl)
joined_plain symbols.Lower = (refl, refl)

moment_plain : (l : Letter) (m : MomentFormat) → without (letter_byte l) (moment_pattern m) ≡ moment_pattern m
moment_plain l Seconds = (joined_plain l).0
moment_plain l Minutes = (joined_plain l).1
moment_plain l (Spaced date time) = stays_after (letter_byte l) (date_pattern date) 32 (time_pattern time) (time_plain l time)

-- a pattern that none of the letters ends
abbrev pub IsFront : List ℕ → Type 0
IsFront m = (l : Letter) → without (letter_byte l) m ≡ m

front_kept : (l : Letter) (m : List ℕ) (n : ℕ) → (83 == letter_byte l) ≡ false → IsFront m
    → without (letter_byte l) (m ++ fraction_pattern n) ≡ m ++ fraction_pattern n
front_kept l m zero e p = gone_after (letter_byte l) m [] refl ∙ p l ∙ sym (append-nil m)
front_kept l m (suc n) e p =
    let b = letter_byte l in
    stays_after b m 46 (letters 83 (suc n)) (ap (λ r. first_kept b 46 r) (letters_other b 83 n e))

front_plain : (m : List ℕ) (n : ℕ) → IsFront m → IsPlain (m ++ fraction_pattern n)
front_plain m n p = record {
  lower = front_kept symbols.Lower m n refl p;
  upper = front_kept symbols.Upper m n refl p;
  gap = front_kept symbols.Gap m n refl p;
}

-- the zone and the digits are read again before such a pattern
pub zone_after : (m : List ℕ) (n : ℕ) (zone : Option ZoneFormat) → IsFront m
    → zone_split ((m ++ fraction_pattern n) ++ zone_pattern zone) ≡ Some (m ++ fraction_pattern n, zone)
zone_after m n zone p = zone_again (m ++ fraction_pattern n) zone (front_plain m n p)

pub fraction_after : (m : List ℕ) (n : ℕ) → IsFront m → nat_le n 255 ≡ true → fraction_split (m ++ fraction_pattern n) ≡ Some (m, n)
fraction_after m n p few = fraction_again m n (p symbols.Parts) (p symbols.Point) few

-- ---- whether a pattern ends with the seconds

end_of : (xs ys : List ℕ) (k : ℕ) → k ≤ length ys → drop (length (xs ++ ys) - k) (xs ++ ys) ≡ drop (length ys - k) ys
end_of [] ys k h = refl
end_of (x ∷ xs) ys k h =
    let more : length (x ∷ (xs ++ ys)) - k ≡ suc (length (xs ++ ys) - k) = omega (arith, h, length-append xs ys) in
    ap (λ n. drop n (x ∷ (xs ++ ys))) more ∙ end_of xs ys k h

abbrev ends_seconds : List ℕ → Bool
ends_seconds bs = bytes_eq (drop (length bs - 3) bs) (58 ∷ 115 ∷ 115 ∷ [])

abbrev is_end : List ℕ → Bool
is_end bs = bytes_eq bs (58 ∷ 115 ∷ 115 ∷ [])

seconds_by : (m : MomentFormat) → ends_seconds (moment_pattern m) ≡ has_seconds m
seconds_by Seconds = refl
seconds_by Minutes = refl
seconds_by (Spaced d times.Seconds) = ap is_end (end_of (date_pattern d) (32 ∷ time_pattern times.Seconds) 3 (omega arith))
seconds_by (Spaced d times.CompactSeconds) = ap is_end (end_of (date_pattern d) (32 ∷ time_pattern times.CompactSeconds) 3 (omega arith))
seconds_by (Spaced d times.Minutes) = ap is_end (end_of (date_pattern d) (32 ∷ time_pattern times.Minutes) 3 (omega arith))
seconds_by (Spaced d times.CompactMinutes) = ap is_end (end_of (date_pattern d) (32 ∷ time_pattern times.CompactMinutes) 3 (omega arith))

same_seconds : (m n : MomentFormat) → moment_pattern m ≡ moment_pattern n → has_seconds m ≡ has_seconds n
same_seconds m n e = sym (seconds_by m) ∙ ap ends_seconds e ∙ seconds_by n

-- ---- the format

abbrev front_of : StampFormat → List ℕ
front_of f = moment_pattern f.moment ++ fraction_pattern f.digits

few : (f : StampFormat) → is_stamp f ≡ true → nat_le f.digits 255 ≡ true
few f s = (and_parts (nat_le f.digits 255) (if f.digits == 0 then true else has_seconds f.moment) s).0

zone_of : (bs : List ℕ) (f : StampFormat) → bs ≡ stamp_pattern f → zone_split bs ≡ Some (front_of f, f.zone)
zone_of bs f e = ap zone_split e ∙ zone_after (moment_pattern f.moment) f.digits f.zone (λ l. moment_plain l f.moment)

fraction_of : (f : StampFormat) → is_stamp f ≡ true → fraction_split (front_of f) ≡ Some (moment_pattern f.moment, f.digits)
fraction_of f s = fraction_after (moment_pattern f.moment) f.digits (λ l. moment_plain l f.moment) (few f s)

pub never_zone : (bs : List ℕ) → None ≡ zone_split bs → (f : StampFormat) → is_stamp f ≡ true → bs ≢ stamp_pattern f
never_zone bs h f s = λ e. let never = h ∙ zone_of bs f e in cc

zone_parts : (bs front : List ℕ) (zone : Option ZoneFormat) (f : StampFormat) → Some (front, zone) ≡ zone_split bs → bs ≡ stamp_pattern f
    → ◌≡◌ {A = List ℕ × Option ZoneFormat} (front, zone) (front_of f, f.zone)
zone_parts bs front zone f h e = same_Some (front, zone) (front_of f, f.zone) (h ∙ zone_of bs f e)

pub never_fraction : (bs front : List ℕ) (zone : Option ZoneFormat) → Some (front, zone) ≡ zone_split bs → None ≡ fraction_split front
    → (f : StampFormat) → is_stamp f ≡ true → bs ≢ stamp_pattern f
never_fraction bs front zone h k f s = λ e.
    let never = k ∙ ap (λ (x : List ℕ × Option ZoneFormat). fraction_split x.0) (zone_parts bs front zone f h e) ∙ fraction_of f s in cc

fraction_parts : (bs front last : List ℕ) (zone : Option ZoneFormat) (n : ℕ) (f : StampFormat) → Some (front, zone) ≡ zone_split bs
    → Some (last, n) ≡ fraction_split front → is_stamp f ≡ true → bs ≡ stamp_pattern f
    → ◌≡◌ {A = List ℕ × ℕ} (last, n) (moment_pattern f.moment, f.digits)
fraction_parts bs front last zone n f h k s e =
    same_Some (last, n) (moment_pattern f.moment, f.digits)
    (k ∙ ap (λ (x : List ℕ × Option ZoneFormat). fraction_split x.0) (zone_parts bs front zone f h e) ∙ fraction_of f s)

pub never_moment : (bs front last : List ℕ) (zone : Option ZoneFormat) (n : ℕ) → Some (front, zone) ≡ zone_split bs
    → Some (last, n) ≡ fraction_split front → ((m : MomentFormat) → last ≢ moment_pattern m) → (f : StampFormat) → is_stamp f ≡ true
    → bs ≢ stamp_pattern f
never_moment bs front last zone n h k none f s = λ e.
    none f.moment (ap (λ (x : List ℕ × ℕ). x.0) (fraction_parts bs front last zone n f h k s e))

abbrev test : ℕ → Bool → Bool
test n seconds = nat_le n 255 && (if n == 0 then true else seconds)

pub never_stamp : (bs front last : List ℕ) (zone : Option ZoneFormat) (n : ℕ) (m : MomentFormat) → Some (front, zone) ≡ zone_split bs
    → Some (last, n) ≡ fraction_split front → last ≡ moment_pattern m → test n (has_seconds m) ≡ false → (f : StampFormat)
    → is_stamp f ≡ true → bs ≢ stamp_pattern f
never_stamp bs front last zone n m h k is fails f s = λ e.
    let x = fraction_parts bs front last zone n f h k s e in
    let digits : n ≡ f.digits = ap (λ (y : List ℕ × ℕ). y.1) x in
    let seconds : has_seconds m ≡ has_seconds f.moment = same_seconds m f.moment (sym is ∙ ap (λ (y : List ℕ × ℕ). y.0) x) in
    let never = sym fails ∙ ap (λ k. test k (has_seconds m)) digits ∙ ap (λ b. test f.digits b) seconds ∙ s in
    cc

pub spelled_front : (bs front last m : List ℕ) (zone : Option ZoneFormat) (n : ℕ) → Some (front, zone) ≡ zone_split bs
    → Some (last, n) ≡ fraction_split front → last ≡ m → bs ≡ (m ++ fraction_pattern n) ++ zone_pattern zone
spelled_front bs front last m zone n h k is =
    zone_spelled bs front zone (sym h)
    ∙ ap (λ (l : List ℕ). l ++ zone_pattern zone) (fraction_spelled front last n (sym k) ∙ ap (λ (l : List ℕ). l ++ fraction_pattern n) is)

pub spelled : (bs front last : List ℕ) (zone : Option ZoneFormat) (n : ℕ) (m : MomentFormat) → Some (front, zone) ≡ zone_split bs
    → Some (last, n) ≡ fraction_split front → last ≡ moment_pattern m → bs ≡ (moment_pattern m ++ fraction_pattern n) ++ zone_pattern zone
spelled bs front last zone n m h k is = spelled_front bs front last (moment_pattern m) zone n h k is
