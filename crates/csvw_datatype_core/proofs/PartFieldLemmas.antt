-- The text of a year is ASCII, and a text has fields exactly if it is a part of a date. The search doesn't split the text, nor the options of a chain.
use Rattle.std.proofs.Common.{◌≡◌, ℕ, zero, suc, ◌-◌, ◌<◌, ◌≤◌, ◌==◌, Bool, true, false, ◌&&◌, ◌||◌, Option, Some, None, if◌then◌else◌, ℤ}
use Rattle.std.proofs.Common.{List, [], ◌∷◌, length, drop, take, refl, sym, ap, subst, ◌∙◌, arith}
use Rattle.std.specs.Option.{is_some, option_map}
use Rattle.std.specs.Char.{is_ascii_digit}
use Rattle.std.specs.List.{prefix_len}
use Rattle.std.specs.Str.{IsAscii}
use Rattle.std.proofs.lemmas.Bool.Decides.{nat_tests}
use Rattle.std.proofs.lemmas.List.{length-take, length-drop}
use Rattle.std.proofs.lemmas.Option.{cond_some}
use Rattle.csvw_datatype_core.specs.declared.date_part.DatePart.{DatePart}
use Rattle.csvw_datatype_core.specs.declared.date_part.DatePart.TheVariants as parts
use Rattle.csvw_datatype_core.specs.Fields.{◌>>=◌, option_view, after_separator}
use Rattle.csvw_datatype_core.specs.DateParts.{digit_count, is_year, after_digits, after_year, number_at, days_of, after_part, is_offset, offset_fields}
use Rattle.csvw_datatype_core.specs.DateParts.{are_offset, is_empty, is_zone, ends_part, is_date_part, plain, plain_form}
use Rattle.csvw_datatype_core.specs.DateTimes.{at_utc, east, west, minutes_of, zone_at}
use Rattle.csvw_datatype_core.specs.PartFields.{before, fields_at, part_fields}
use Rattle.csvw_datatype_core.proofs.DateTimeLemmas.{digits_ascii}
use Rattle.csvw_datatype_core.specs.PartForms.{day_form, date_part_form}
use Rattle.csvw_datatype_core.proofs.OneDatePart as law
use Rattle.csvw_datatype_core.proofs.OneDayText.{IsDays, one_day_text}

-- ---- the text of a year

ascii_more : (b : ℕ) (bs : List ℕ) → b < 128 → IsAscii bs → IsAscii (b ∷ bs)
ascii_more b bs h k zero = h
ascii_more b bs h k (suc i) = k i

-- the digits before the rest of a text
digits_before : (bs rest : List ℕ) → after_digits bs ≡ Some rest → length bs - length rest ≡ digit_count bs
digits_before bs rest h =
    let g = cond_some (is_year bs (digit_count bs)) (drop (digit_count bs) bs) rest h in
    let same : length (drop (digit_count bs) bs) ≡ length rest = ap (λ (l : List ℕ). length l) g.1 in
    omega (arith, same, length-drop (digit_count bs) bs, length-take (prefix_len is_ascii_digit bs) bs)

rest_short : (bs rest : List ℕ) → after_digits bs ≡ Some rest → length rest ≤ length bs
rest_short bs rest h =
    let g = cond_some (is_year bs (digit_count bs)) (drop (digit_count bs) bs) rest h in
    let same : length (drop (digit_count bs) bs) ≡ length rest = ap (λ (l : List ℕ). length l) g.1 in
    omega (arith, same, length-drop (digit_count bs) bs)

front_ascii : (n : ℕ) (bs : List ℕ) → n ≡ digit_count bs → IsAscii (take n bs)
front_ascii n bs e = let P : ℕ → Type 0 = λ k. IsAscii (take k bs) in subst P (sym e) (digits_ascii bs)

year_by : (b : ℕ) (bs rest : List ℕ) (is_minus : Bool) → (b == 45) ≡ is_minus
    → after_digits (if is_minus then bs else b ∷ bs) ≡ Some rest → IsAscii (take (length (b ∷ bs) - length rest) (b ∷ bs))
year_by b bs rest true e h =
    let P : ℕ → Type 0 = λ k. IsAscii (take k (b ∷ bs)) in
    let n = digit_count bs in
    let count : suc n ≡ length (b ∷ bs) - length rest = omega (arith, digits_before bs rest h, rest_short bs rest h) in
    subst P count (ascii_more b (take n bs) (grind (arith, nat_tests)) (digits_ascii bs))
year_by b bs rest false e h = front_ascii (length (b ∷ bs) - length rest) (b ∷ bs) (digits_before (b ∷ bs) rest h)

pub year_ascii : (bs rest : List ℕ) → after_year bs ≡ Some rest → IsAscii (before rest bs)
year_ascii [] rest h = let none : List ℕ = [] in front_ascii (length none - length rest) none (digits_before none rest h)
year_ascii (b ∷ bs) rest h = year_by b bs rest (b == 45) refl h

-- ---- the text after the fields

bind_view : {A B C : Type 0} (f : B → C) (o : Option A) (g : A → Option B) (k : A → Option C) → ((x : A) → option_view f (g x) ≡ k x)
    → option_view f (o >>= g) ≡ (o >>= k)
bind_view f None g k h = refl
bind_view f (Some x) g k h = h x

year_view : {A B C D : Type 0} (f : C → D) (o : Option A) (p : A → B) (g : B → Option C) (k : A → Option D)
    → ((x : A) → option_view f (g (p x)) ≡ k x) → option_view f ((o >>= (λ x. Some (p x))) >>= g) ≡ (o >>= k)
year_view f None p g k h = refl
year_view f (Some x) p g k h = h x

abbrev rest_of : List ℕ × ℕ × ℕ × List ℕ → List ℕ
rest_of x = x.3

abbrev with_front : List ℕ → List ℕ → List ℕ × List ℕ
with_front bs rest = (before rest bs, rest)

abbrev year_only : List ℕ × List ℕ → List ℕ × ℕ × ℕ × List ℕ
year_only y = (y.0, 0, 0, y.1)

year_rest : (o : Option (List ℕ)) (bs : List ℕ)
    → option_view rest_of ((o >>= (λ rest. Some (with_front bs rest))) >>= (λ y. Some (year_only y))) ≡ o
year_rest None bs = refl
year_rest (Some rest) bs = refl

same_rest : (part : DatePart) (bs : List ℕ) → option_view rest_of (fields_at part bs) ≡ after_part part bs
unfolding fields_at after_part
same_rest parts.Year bs = year_rest (after_year bs) bs
same_rest parts.YearMonth bs =
    year_view rest_of (after_year bs) _ _ _ (λ rest. bind_view rest_of (after_separator 45 rest) _ _ (λ rest.
    bind_view rest_of (number_at 12 rest) _ _ (λ m. refl)))
same_rest parts.Month bs =
    bind_view rest_of (after_separator 45 bs) _ _ (λ rest. bind_view rest_of (after_separator 45 rest) _ _ (λ rest.
    bind_view rest_of (number_at 12 rest) _ _ (λ m. refl)))
same_rest parts.MonthDay bs =
    bind_view rest_of (after_separator 45 bs) _ _ (λ rest. bind_view rest_of (after_separator 45 rest) _ _ (λ rest.
    bind_view rest_of (number_at 12 rest) _ _ (λ m. bind_view rest_of (after_separator 45 m.1) _ _ (λ rest.
    bind_view rest_of (number_at (days_of m.0) rest) _ _ (λ d. refl)))))
same_rest parts.Day bs =
    bind_view rest_of (after_separator 45 bs) _ _ (λ rest. bind_view rest_of (after_separator 45 rest) _ _ (λ rest.
    bind_view rest_of (after_separator 45 rest) _ _ (λ rest. bind_view rest_of (number_at 31 rest) _ _ (λ d. refl))))

-- ---- the zone

east_if : (b : Bool) (n : ℕ) → is_some (east (if b then Some n else None)) ≡ b
east_if true n = refl
east_if false n = refl

west_if : (b : Bool) (n : ℕ) → is_some (west (if b then Some n else None)) ≡ b
west_if true n = refl
west_if false n = refl

east_is : (o : Option (ℕ × ℕ)) → is_some (east (minutes_of o)) ≡ are_offset o
east_is None = refl
east_is (Some x) = east_if (is_offset x.0 x.1) _

west_is : (o : Option (ℕ × ℕ)) → is_some (west (minutes_of o)) ≡ are_offset o
west_is None = refl
west_is (Some x) = west_if (is_offset x.0 x.1) _

zone_by : (is_z is_plus is_minus : Bool) (bs : List ℕ) (o : Option (ℕ × ℕ))
    → is_some (if is_z then at_utc bs else (if is_plus then east (minutes_of o) else (if is_minus then west (minutes_of o) else None)))
    ≡ (if is_z then is_empty bs else ((is_plus || is_minus) && are_offset o))
zone_by true p m [] o = refl
zone_by true p m (b ∷ bs) o = refl
zone_by false true m bs o = east_is o
zone_by false false true bs o = west_is o
zone_by false false false bs o = refl

zone_is : (bs : List ℕ) → is_some (zone_at bs) ≡ is_zone bs
zone_is [] = refl
zone_is (b ∷ bs) = zone_by (b == 90) (b == 43) (b == 45) bs (offset_fields bs)

-- ---- the law

some_bind : {A B : Type 0} (o : Option A) (f : A → B) → is_some (o >>= (λ x. Some (f x))) ≡ is_some o
some_bind None f = refl
some_bind (Some x) f = refl

abbrev with_zone : List ℕ × ℕ × ℕ × List ℕ → Option ℤ → List ℕ × ℕ × ℕ × Option ℤ
with_zone x zone = (x.0, x.1, x.2, zone)

fields_end : (o : Option (List ℕ × ℕ × ℕ × List ℕ))
    → is_some (o >>= (λ x. zone_at x.3 >>= (λ zone. Some (with_zone x zone)))) ≡ ends_part (option_view rest_of o)
fields_end None = refl
fields_end (Some x) = some_bind (zone_at x.3) (with_zone x) ∙ zone_is x.3

pub has_fields : (part : DatePart) (text : List ℕ) → is_some (part_fields part text) ≡ is_date_part part text
unfolding part_fields
has_fields part text = fields_end (fields_at part text) ∙ ap (λ o. ends_part o) (same_rest part text)

plain_has_fields : (part : DatePart) (text form : List ℕ) → plain_form part text ≡ Some form → is_some (part_fields part form) ≡ true
plain_has_fields part text form h =
    has_fields part form ∙ (cond_some (is_date_part part form) (plain form) form (law.one_plain_text part text form h)).0

mapped_some : {A B : Type 0} (f : A → B) (o : Option A) (y : B) → option_map f o ≡ Some y → is_some o ≡ true
mapped_some f None y h = cc
mapped_some f (Some x) y h = refl

day_has_fields : (part : DatePart) → IsDays part → (text form : List ℕ) → day_form part text ≡ Some form → is_some (part_fields part form) ≡ true
day_has_fields part days text form h = mapped_some _ (part_fields part form) form (one_day_text part days text form h)

pub form_has_fields : (part : DatePart) (text form : List ℕ) → date_part_form part text ≡ Some form → is_some (part_fields part form) ≡ true
form_has_fields parts.Year text form h = plain_has_fields parts.Year text form h
form_has_fields parts.YearMonth text form h = plain_has_fields parts.YearMonth text form h
form_has_fields parts.Month text form h = plain_has_fields parts.Month text form h
form_has_fields parts.MonthDay text form h = day_has_fields parts.MonthDay tt text form h
form_has_fields parts.Day text form h = day_has_fields parts.Day tt text form h
