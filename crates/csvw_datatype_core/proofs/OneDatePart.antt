-- The text of a year or a month is its own text. The check doesn't find it by itself: it needs induction on the text before the zone.
use Rattle.std.proofs.Common.{◌≡◌, ◌≢◌, ℕ, suc, ◌-◌, Bool, true, false, ◌&&◌, ◌==◌, ◌||◌, Option, Some, None, if◌then◌else◌}
use Rattle.std.proofs.Common.{List, [], ◌∷◌, ◌++◌, length, drop, take, bytes_eq, refl, sym, ap, subst, ◌∙◌, arith, append_assoc, append-nil, length-append}
use Rattle.std.specs.Prelude.{nat_lt, nat_le, codes}
use Rattle.std.specs.List.{AllByRecursion, take_while, prefix_len}
use Rattle.std.specs.Char.{IsAsciiDigit, is_ascii_digit}
use Rattle.std.proofs.Math.Seq.{drop-append_seam}
use Rattle.std.proofs.lemmas.Bool.{cond-true, cond-false, eqb-true, and_parts}
use Rattle.std.proofs.lemmas.List.{append_cancel_left, take-append-drop}
use Rattle.std.proofs.lemmas.List.Folds.{length-prefix_len}
use Rattle.std.proofs.lemmas.List.Sums.{take_while-cons}
use Rattle.std.proofs.lemmas.Slice.Eq.{bytes_eq-Decides}
use Rattle.std.proofs.lemmas.Option.{cond_some, same_Some, none-some}
use Rattle.csvw_datatype_core.specs.declared.date_part.DatePart.{DatePart}
use Rattle.csvw_datatype_core.specs.declared.date_part.DatePart.TheVariants as parts
use Rattle.csvw_datatype_core.specs.Fields.{◌>>=◌, after_separator, two_at, at_end}
use Rattle.csvw_datatype_core.specs.DateParts.{digit_count, is_year, after_digits, after_year, up_to, number_at, days_of, after_part}
use Rattle.csvw_datatype_core.specs.DateParts.{offset_fields, are_offset, is_empty, is_zone, ends_part, is_date_part, after_start}
use Rattle.csvw_datatype_core.specs.DateParts.{before_ending, year_and_rest, front_and_zone, either, plain_year, plain_zone, plain, plain_form}
use Rattle.csvw_datatype_core.proofs.DateLemmas.{two_sound, two_again, bind_some, bind_number, separator_sound, end_sound}
use Rattle.csvw_datatype_core.proofs.PartLemmas.{begins, ends, without_start, without_ending}

-- no byte is a colon
abbrev NoColon : List ℕ → Type 0
NoColon [] = Unit {0}
NoColon (b ∷ bs) = (b ≢ 58) × NoColon bs

no_colon_append : (s t : List ℕ) → NoColon s → NoColon t → NoColon (s ++ t)
no_colon_append [] t h k = k
no_colon_append (b ∷ bs) t h k = (h.0, no_colon_append bs t h.1 k)

digit_no_colon : (b : ℕ) → IsAsciiDigit b → b ≢ 58
digit_no_colon b h e = omega (arith, h, e)

digits_no_colon : (ds : List ℕ) → AllByRecursion IsAsciiDigit ds → NoColon ds
digits_no_colon [] h = tt
digits_no_colon (d ∷ ds) h = (digit_no_colon d h.0, digits_no_colon ds h.1)

no_digit_58 : is_ascii_digit 58 ≡ true → ⊥
no_digit_58 h = cc

no_digit_45 : is_ascii_digit 45 ≡ true → ⊥
no_digit_45 h = cc

-- what a reader reads, and it reads it before other texts too
record Reads (f : List ℕ → Option (List ℕ)) (bs r : List ℕ) : Type 0 where
  pub front : List ℕ
  pub text : bs ≡ front ++ r
  pub no_colon : NoColon front
  pub again : (rest : List ℕ) → digit_count rest ≡ 0 → f (front ++ rest) ≡ Some rest

record Number (last : ℕ) (bs : List ℕ) (v : ℕ) (r : List ℕ) : Type 0 where
  pub digits : List ℕ
  pub text : bs ≡ digits ++ r
  pub no_colon : NoColon digits
  pub again : (rest : List ℕ) → number_at last (digits ++ rest) ≡ Some (v, rest)

abbrev pair : ℕ → List ℕ → ℕ × List ℕ
pair n bs = (n, bs)

number_sound : (last : ℕ) (bs : List ℕ) (v : ℕ) (r : List ℕ) → number_at last bs ≡ Some (v, r) → Number last bs v r
number_sound last bs v r h =
    let a = bind_number (two_at bs) _ _ h in
    let g = cond_some (nat_lt 0 a.value && nat_le a.value last) (pair a.value a.after) (pair v r) a.rest_is in
    let f = two_sound bs a.value a.after a.first_is in
    let same_value : a.value ≡ v = ap (λ (x : ℕ × List ℕ). x.0) g.1 in
    let same_rest : a.after ≡ r = ap (λ (x : ℕ × List ℕ). x.1) g.1 in
    record {
      digits = f.digits;
      text = f.front ∙ ap (λ t. f.digits ++ t) same_rest;
      no_colon = digits_no_colon f.digits f.right.0;
      again = λ rest.
          ap (λ (o : Option (ℕ × List ℕ)). o >>= up_to last) (two_again f.digits rest f.right ∙ ap (λ n. Some (pair n rest)) (sym f.value))
          ∙ cond-true _ _ _ g.0 ∙ ap (λ n. Some (pair n rest)) same_value;
    }

-- the digits that a text begins with
while_true : (d : ℕ) (ds : List ℕ) → is_ascii_digit d ≡ true → take_while is_ascii_digit (d ∷ ds) ≡ d ∷ take_while is_ascii_digit ds
while_true d ds e = take_while-cons is_ascii_digit d ds ∙ cond-true _ _ _ e

while_false : (d : ℕ) (ds : List ℕ) → is_ascii_digit d ≡ false → take_while is_ascii_digit (d ∷ ds) ≡ []
while_false d ds e = take_while-cons is_ascii_digit d ds ∙ cond-false _ _ _ e

count_true : (d : ℕ) (ds : List ℕ) → is_ascii_digit d ≡ true → digit_count (d ∷ ds) ≡ suc (digit_count ds)
count_true d ds e = ap length (while_true d ds e)

kept_by : (d : ℕ) (ds rest : List ℕ) (b : Bool) → is_ascii_digit d ≡ b → digit_count rest ≡ 0
    → digit_count (take_while is_ascii_digit ds ++ rest) ≡ digit_count ds
    → digit_count (take_while is_ascii_digit (d ∷ ds) ++ rest) ≡ digit_count (d ∷ ds)
kept_by d ds rest true e h ih = ap (λ w. digit_count (w ++ rest)) (while_true d ds e) ∙ count_true d (take_while is_ascii_digit ds ++ rest) e
    ∙ ap suc ih ∙ sym (count_true d ds e)
kept_by d ds rest false e h ih = ap (λ w. digit_count (w ++ rest)) (while_false d ds e) ∙ h ∙ sym (ap length (while_false d ds e))

kept : (ds rest : List ℕ) → digit_count rest ≡ 0 → digit_count (take_while is_ascii_digit ds ++ rest) ≡ digit_count ds
kept [] rest h = h
kept (d ∷ ds) rest h = kept_by d ds rest (is_ascii_digit d) refl h (kept ds rest h)

while_no_colon_by : (d : ℕ) (ds : List ℕ) (b : Bool) → is_ascii_digit d ≡ b → NoColon (take_while is_ascii_digit ds)
    → NoColon (take_while is_ascii_digit (d ∷ ds))
while_no_colon_by d ds true e ih =
    let all : NoColon (d ∷ take_while is_ascii_digit ds) = ((λ same. no_digit_58 (subst (λ c. is_ascii_digit c ≡ true) same e)), ih) in
    subst (λ w. NoColon w) (sym (while_true d ds e)) all
while_no_colon_by d ds false e ih = subst (λ w. NoColon w) (sym (while_false d ds e)) tt

while_no_colon : (ds : List ℕ) → NoColon (take_while is_ascii_digit ds)
while_no_colon [] = tt
while_no_colon (d ∷ ds) = while_no_colon_by d ds (is_ascii_digit d) refl (while_no_colon ds)

while_drop : (ds : List ℕ) → ds ≡ take_while is_ascii_digit ds ++ drop (digit_count ds) ds
while_drop ds = sym (take-append-drop (prefix_len is_ascii_digit ds) ds)
    ∙ ap (λ n. take_while is_ascii_digit ds ++ drop n ds) (sym (length-prefix_len is_ascii_digit ds))

abbrev after_count : ℕ → List ℕ → Option (List ℕ)
after_count n bs = if is_year bs n then Some (drop n bs) else None

-- the digits of a year
record Digits (bs r : List ℕ) : Type 0 where
  pub first : ℕ
  pub others : List ℕ
  pub text : bs ≡ first ∷ (others ++ r)
  pub is_digit : is_ascii_digit first ≡ true
  pub no_colon : NoColon others
  pub again : (rest : List ℕ) → digit_count rest ≡ 0 → after_digits (first ∷ (others ++ rest)) ≡ Some rest

year_digits_by : (d : ℕ) (ds r : List ℕ) (b : Bool) → is_ascii_digit d ≡ b → after_digits (d ∷ ds) ≡ Some r → Digits (d ∷ ds) r
year_digits_by d ds r true e h =
    let w = take_while is_ascii_digit ds in
    let n = digit_count ds in
    let k : after_count (suc n) (d ∷ ds) ≡ Some r = ap (λ n. after_count n (d ∷ ds)) (sym (count_true d ds e)) ∙ h in
    let g = cond_some (is_year (d ∷ ds) (suc n)) (drop n ds) r k in
    record {
      first = d;
      others = w;
      text = ap (λ t. d ∷ t) (while_drop ds ∙ ap (λ t. w ++ t) g.1);
      is_digit = e;
      no_colon = while_no_colon ds;
      again = λ rest none.
          ap (λ n. after_count n (d ∷ (w ++ rest))) (count_true d (w ++ rest) e ∙ ap suc (kept ds rest none))
          ∙ cond-true (is_year (d ∷ (w ++ rest)) (suc n)) _ _ g.0 ∙ ap (λ (t : List ℕ). Some t) (drop-append_seam w rest);
    }
year_digits_by d ds r false e h =
    let none : digit_count (d ∷ ds) ≡ 0 = ap length (while_false d ds e) in
    let k : after_count 0 (d ∷ ds) ≡ Some r = ap (λ n. after_count n (d ∷ ds)) (sym none) ∙ h in
    cc

year_digits : (bs r : List ℕ) → after_digits bs ≡ Some r → Digits bs r
year_digits [] r h = cc
year_digits (d ∷ ds) r h = year_digits_by d ds r (is_ascii_digit d) refl h

no_minus : (d : ℕ) (b : Bool) → is_ascii_digit d ≡ true → (d == 45) ≡ b → b ≡ false
no_minus d true h e = absurd (no_digit_45 (subst (λ c. is_ascii_digit c ≡ true) (eqb-true d 45 e) h))
no_minus d false h e = refl

year_sound_by : (b : ℕ) (bs r : List ℕ) (t : Bool) → (b == 45) ≡ t → after_digits (if t then bs else b ∷ bs) ≡ Some r → Reads after_year (b ∷ bs) r
year_sound_by b bs r true e h =
    let g = year_digits bs r h in
    record {
      front = 45 ∷ g.first ∷ g.others;
      text = ap (λ c. c ∷ bs) (eqb-true b 45 e) ∙ ap (λ t. 45 ∷ t) g.text;
      no_colon = ((λ same. absurd (omega (arith, same))), ((λ same. no_digit_58 (subst (λ c. is_ascii_digit c ≡ true) same g.is_digit)), g.no_colon));
      again = λ rest none. g.again rest none;
    }
year_sound_by b bs r false e h =
    let g = year_digits (b ∷ bs) r h in
    let other : (g.first == 45) ≡ false = no_minus g.first (g.first == 45) g.is_digit refl in
    record {
      front = g.first ∷ g.others;
      text = g.text;
      no_colon = ((λ same. no_digit_58 (subst (λ c. is_ascii_digit c ≡ true) same g.is_digit)), g.no_colon);
      again = λ rest none.
          ap (λ t. after_digits (if t then g.others ++ rest else g.first ∷ (g.others ++ rest))) other ∙ g.again rest none;
    }

year_sound : (bs r : List ℕ) → after_year bs ≡ Some r → Reads after_year bs r
year_sound [] r h = cc
year_sound (b ∷ bs) r h = year_sound_by b bs r (b == 45) refl h

minus_no_colon : ◌≢◌ {A = ℕ} 45 58
minus_no_colon e = omega (arith, e)

abbrev second : ℕ × List ℕ → Option (List ℕ)
second x = Some x.1

-- a month and the text after it, behind "-"
abbrev month_after : List ℕ → Option (List ℕ)
month_after bs = do
  rest ← after_separator 45 bs
  m ← number_at 12 rest
  Some m.1

part_sound : (part : DatePart) (bs r : List ℕ) → after_part part bs ≡ Some r → Reads (after_part part) bs r
unfolding after_part
part_sound parts.Year bs r h =
    let y = year_sound bs r h in
    record { front = y.front; text = y.text; no_colon = y.no_colon; again = y.again }
part_sound parts.YearMonth bs r h =
    let a = bind_some (after_year bs) _ _ h in
    let b = bind_some (after_separator 45 a.value) _ _ a.rest_is in
    let n = bind_number (number_at 12 b.value) _ _ b.rest_is in
    let same : n.after ≡ r = same_Some n.after r n.rest_is in
    let y = year_sound bs a.value a.first_is in
    let m = number_sound 12 b.value n.value n.after n.first_is in
    record {
      front = y.front ++ (45 ∷ m.digits);
      text = y.text ∙ ap (λ t. y.front ++ t) (separator_sound 45 a.value b.value b.first_is ∙ ap (λ t. 45 ∷ t) (m.text ∙ ap (λ t. m.digits ++ t) same))
          ∙ sym (append_assoc y.front (45 ∷ m.digits) r);
      no_colon = no_colon_append y.front (45 ∷ m.digits) y.no_colon (minus_no_colon, m.no_colon);
      again = λ rest none.
          ap (λ (o : Option (List ℕ)). o >>= month_after)
          (ap after_year (append_assoc y.front (45 ∷ m.digits) rest) ∙ y.again (45 ∷ (m.digits ++ rest)) refl)
          ∙ ap (λ (o : Option (ℕ × List ℕ)). o >>= second) (m.again rest);
    }
part_sound parts.Month bs r h =
    let a = bind_some (after_separator 45 bs) _ _ h in
    let b = bind_some (after_separator 45 a.value) _ _ a.rest_is in
    let n = bind_number (number_at 12 b.value) _ _ b.rest_is in
    let same : n.after ≡ r = same_Some n.after r n.rest_is in
    let m = number_sound 12 b.value n.value n.after n.first_is in
    record {
      front = 45 ∷ 45 ∷ m.digits;
      text = separator_sound 45 bs a.value a.first_is
          ∙ ap (λ t. 45 ∷ t) (separator_sound 45 a.value b.value b.first_is ∙ ap (λ t. 45 ∷ t) (m.text ∙ ap (λ t. m.digits ++ t) same));
      no_colon = (minus_no_colon, (minus_no_colon, m.no_colon));
      again = λ rest none. ap (λ (o : Option (ℕ × List ℕ)). o >>= second) (m.again rest);
    }
part_sound parts.MonthDay bs r h =
    let a = bind_some (after_separator 45 bs) _ _ h in
    let b = bind_some (after_separator 45 a.value) _ _ a.rest_is in
    let n = bind_number (number_at 12 b.value) _ _ b.rest_is in
    let c = bind_some (after_separator 45 n.after) _ _ n.rest_is in
    let k = bind_number (number_at (days_of n.value) c.value) _ _ c.rest_is in
    let same : k.after ≡ r = same_Some k.after r k.rest_is in
    let m = number_sound 12 b.value n.value n.after n.first_is in
    let d = number_sound (days_of n.value) c.value k.value k.after k.first_is in
    record {
      front = 45 ∷ 45 ∷ (m.digits ++ (45 ∷ d.digits));
      text = separator_sound 45 bs a.value a.first_is
          ∙ ap (λ t. 45 ∷ t) (separator_sound 45 a.value b.value b.first_is
          ∙ ap (λ t. 45 ∷ t) (m.text ∙ ap (λ t. m.digits ++ t) (separator_sound 45 n.after c.value c.first_is
          ∙ ap (λ t. 45 ∷ t) (d.text ∙ ap (λ t. d.digits ++ t) same)) ∙ sym (append_assoc m.digits (45 ∷ d.digits) r)));
      no_colon = (minus_no_colon, (minus_no_colon, no_colon_append m.digits (45 ∷ d.digits) m.no_colon (minus_no_colon, d.no_colon)));
      again = λ rest none.
          let day : ℕ × List ℕ → Option (List ℕ) = λ m. after_separator 45 m.1 >>= λ rest. number_at (days_of m.0) rest >>= second in
          ap (λ t. number_at 12 t >>= day) (append_assoc m.digits (45 ∷ d.digits) rest)
          ∙ ap (λ (o : Option (ℕ × List ℕ)). o >>= day) (m.again (45 ∷ (d.digits ++ rest)))
          ∙ ap (λ (o : Option (ℕ × List ℕ)). o >>= second) (d.again rest);
    }
part_sound parts.Day bs r h =
    let a = bind_some (after_separator 45 bs) _ _ h in
    let b = bind_some (after_separator 45 a.value) _ _ a.rest_is in
    let c = bind_some (after_separator 45 b.value) _ _ b.rest_is in
    let n = bind_number (number_at 31 c.value) _ _ c.rest_is in
    let same : n.after ≡ r = same_Some n.after r n.rest_is in
    let d = number_sound 31 c.value n.value n.after n.first_is in
    record {
      front = 45 ∷ 45 ∷ 45 ∷ d.digits;
      text = separator_sound 45 bs a.value a.first_is
          ∙ ap (λ t. 45 ∷ t) (separator_sound 45 a.value b.value b.first_is
          ∙ ap (λ t. 45 ∷ t) (separator_sound 45 b.value c.value c.first_is ∙ ap (λ t. 45 ∷ t) (d.text ∙ ap (λ t. d.digits ++ t) same)));
      no_colon = (minus_no_colon, (minus_no_colon, (minus_no_colon, d.no_colon)));
      again = λ rest none. ap (λ (o : Option (ℕ × List ℕ)). o >>= second) (d.again rest);
    }

-- an offset 0 with its sign
abbrev sign : Bool → ℕ
sign true = 43
sign false = 45

abbrev zero_offset : Bool → List ℕ
zero_offset s = sign s ∷ 48 ∷ 48 ∷ 58 ∷ 48 ∷ 48 ∷ []

no_sign : (s : Bool) → 48 ≡ sign s → ⊥
no_sign true e = omega (arith, e)
no_sign false e = omega (arith, e)

same_front : (u v s t : List ℕ) → u ++ s ≡ v ++ t → length s ≡ length t → u ≡ v
same_front [] [] s t e n = refl
same_front [] (y ∷ ys) s t e n = absurd (omega (arith, n, ap length e, length-append ys t))
same_front (x ∷ xs) [] s t e n = absurd (omega (arith, n, ap length e, length-append xs s))
same_front (x ∷ xs) (y ∷ ys) s t e n =
    let head : x ≡ y = cc e in
    let tail : xs ++ s ≡ ys ++ t = cc e in
    ap (λ c. c ∷ xs) head ∙ ap (λ cs. y ∷ cs) (same_front xs ys s t tail n)

has_colon : (u : List ℕ) (s : Bool) → NoColon (u ++ zero_offset s) → ⊥
has_colon [] s h = h.1.1.1.0 refl
has_colon (x ∷ xs) s h = has_colon xs s h.1

no_offset : (u front r : List ℕ) (s : Bool) → u ++ zero_offset s ≡ front ++ r → NoColon front → NoColon r → ⊥
no_offset u front r s e h k = has_colon u s (subst (λ t. NoColon t) (sym e) (no_colon_append front r h k))

offset_long : (bs : List ℕ) (o : Option (ℕ × ℕ)) → offset_fields bs ≡ o → are_offset o ≡ true → length bs ≡ 5
unfolding offset_fields
offset_long bs None e h = cc
offset_long bs (Some x) e h =
    let a = bind_number (two_at bs) _ _ e in
    let b = bind_some (after_separator 58 a.after) _ _ a.rest_is in
    let c = bind_number (two_at b.value) _ _ b.rest_is in
    let d = bind_some (at_end c.after) _ _ c.rest_is in
    let f = two_sound bs a.value a.after a.first_is in
    let g = two_sound b.value c.value c.after c.first_is in
    omega (
      arith,
      ap length f.front,
      length-append f.digits a.after,
      f.right.1,
      ap length (separator_sound 58 a.after b.value b.first_is),
      ap length g.front,
      length-append g.digits c.after,
      g.right.1,
      ap length (end_sound c.after d.value d.first_is),
    )

-- the zone is the offset 0 at the end
zone_by : (u front : List ℕ) (b : ℕ) (bs : List ℕ) (s t : Bool) → u ++ zero_offset s ≡ front ++ (b ∷ bs) → NoColon front → (b == 90) ≡ t
    → (if t then is_empty bs else (((b == 43) || (b == 45)) && are_offset (offset_fields bs))) ≡ true → u ≡ front
zone_by u front b [] s true e h is z =
    let k : NoColon (b ∷ []) = ((λ same. absurd (omega (arith, eqb-true b 90 is, same))), tt) in
    absurd (no_offset u front (b ∷ []) s e h k)
zone_by u front b (c ∷ bs) s true e h is z = cc
zone_by u front b bs s false e h is z =
    let right = and_parts ((b == 43) || (b == 45)) (are_offset (offset_fields bs)) z in
    same_front u front (zero_offset s) (b ∷ bs) e (ap suc (sym (offset_long bs (offset_fields bs) refl right.1)))

zone_kept : (u front r : List ℕ) (s : Bool) → u ++ zero_offset s ≡ front ++ r → NoColon front → is_zone r ≡ true → u ≡ front
zone_kept u front [] s e h z = absurd (no_offset u front [] s e h tt)
zone_kept u front (b ∷ bs) s e h z = zone_by u front b bs s (b == 90) e h refl z

abbrev z : List ℕ
z = 90 ∷ []

-- a text with "Z" for the offset 0 is written as the part is
with_z : (part : DatePart) (u : List ℕ) (s : Bool) (o : Option (List ℕ)) → after_part part (u ++ zero_offset s) ≡ o → ends_part o ≡ true
    → is_date_part part (u ++ z) ≡ true
with_z part u s None e h = cc
with_z part u s (Some r) e h =
    let p = part_sound part (u ++ zero_offset s) r e in
    ap (λ t. is_date_part part (t ++ z)) (zone_kept u p.front r s p.text p.no_colon h) ∙ ap ends_part (p.again z refl)

abbrev zero_year : List ℕ
zero_year = 45 ∷ 48 ∷ 48 ∷ 48 ∷ 48 ∷ []

abbrev NoZeroYear : List ℕ → Type 0
NoZeroYear bs = (rest : List ℕ) → bs ≢ zero_year ++ rest

abbrev NoZeroOffset : List ℕ → Type 0
NoZeroOffset bs = (front : List ℕ) (s : Bool) → bs ≢ front ++ zero_offset s

z_no_offset : (u : List ℕ) → NoZeroOffset (u ++ z)
z_no_offset u front s e =
    let five : List ℕ = sign s ∷ 48 ∷ 48 ∷ 58 ∷ 48 ∷ [] in
    let last : List ℕ = 48 ∷ [] in
    let split : u ++ z ≡ (front ++ five) ++ last = e ∙ sym (append_assoc front five last) in
    let same : u ≡ front ++ five = same_front u (front ++ five) z last split refl in
    let ending : z ≡ last = append_cancel_left (front ++ five) z last (ap (λ t. t ++ z) (sym same) ∙ split) in
    cc

-- no byte is a "Z"
abbrev NoZ : List ℕ → Type 0
NoZ [] = Unit {0}
NoZ (b ∷ bs) = (90 ≢ b) × NoZ bs

before_z : (start u rest : List ℕ) → NoZ start → u ++ z ≡ start ++ rest → (r : List ℕ) × (u ≡ start ++ r)
before_z [] u rest h e = (u, refl)
before_z (a ∷ start) [] rest h e = let head : 90 ≡ a = cc e in absurd (h.0 head)
before_z (a ∷ start) (b ∷ u) rest h e =
    let head : b ≡ a = cc e in
    let tail : u ++ z ≡ start ++ rest = cc e in
    let x = before_z start u rest h.1 tail in
    (x.0, ap (λ c. c ∷ u) head ∙ ap (λ cs. a ∷ cs) x.1)

no_z : NoZ zero_year
no_z =
    let minus : ◌≢◌ {A = ℕ} 90 45 = λ e. omega (arith, e) in
    let zero : ◌≢◌ {A = ℕ} 90 48 = λ e. omega (arith, e) in
    (minus, (zero, (zero, (zero, (zero, tt)))))

z_no_year : (u : List ℕ) (s : Bool) → NoZeroYear (u ++ zero_offset s) → NoZeroYear (u ++ z)
z_no_year u s h rest e =
    let x = before_z zero_year u rest no_z e in
    h (x.0 ++ zero_offset s) (ap (λ t. t ++ zero_offset s) x.1 ∙ append_assoc zero_year x.0 (zero_offset s))

-- a text with neither is its own text
fixed : (part : DatePart) (form : List ℕ) → is_date_part part form ≡ true → NoZeroYear form → NoZeroOffset form → plain_form part form ≡ Some form
fixed part form is year offset =
    let a : None ≡ after_start (codes "-0000") form = without_start (codes "-0000") form _ year refl in
    let b : None ≡ before_ending (codes "+00:00") form = without_ending (codes "+00:00") form _ (λ front. offset front true) refl in
    let c : None ≡ before_ending (codes "-00:00") form = without_ending (codes "-00:00") form _ (λ front. offset front false) refl in
    let y : plain_year form ≡ ([], form) = ap (year_and_rest form) (sym a) in
    let e : plain_zone form ≡ (form, []) = ap (λ o. front_and_zone form (either o (before_ending (codes "-00:00") form))) (sym b)
    ∙ ap (front_and_zone form) (sym c) in
    cond-true (is_date_part part form) _ _ is
    ∙ ap (λ (t : List ℕ). Some t) (ap (λ (x : List ℕ × List ℕ). (x.0 ++ (plain_zone x.1).0) ++ (plain_zone x.1).1) y
    ∙ ap (λ (x : List ℕ × List ℕ). ([] ++ x.0) ++ x.1) e ∙ append-nil form)

z_fixed : (part : DatePart) (u : List ℕ) (s : Bool) → is_date_part part (u ++ zero_offset s) ≡ true → NoZeroYear (u ++ zero_offset s)
    → plain_form part (u ++ z) ≡ Some (u ++ z)
z_fixed part u s is year =
    fixed part (u ++ z) (with_z part u s (after_part part (u ++ zero_offset s)) refl is) (z_no_year u s year) (z_no_offset u)

ending_of : (s : Bool) (bs f : List ℕ) → before_ending (zero_offset s) bs ≡ Some f → bs ≡ f ++ zero_offset s
ending_of s bs f h =
    let n = length bs - 6 in
    let g = cond_some (bytes_eq (drop n bs) (zero_offset s)) (take n bs) f h in
    ends (zero_offset s) bs g.0 ∙ ap (λ t. t ++ zero_offset s) g.1

ending_none : (s : Bool) (bs front : List ℕ) → before_ending (zero_offset s) bs ≡ None → bs ≢ front ++ zero_offset s
ending_none s bs front h e =
    let n = length bs - 6 in
    let long : n ≡ length front = omega (arith, ap length e, length-append front (zero_offset s)) in
    let same : drop n bs ≡ zero_offset s = ap (λ k. drop k bs) long ∙ ap (drop (length front)) e ∙ drop-append_seam front (zero_offset s) in
    let is_same = (bytes_eq-Decides (drop n bs) (zero_offset s)).1 same in
    none-some (take n bs) (sym h ∙ cond-true _ _ _ is_same)

no_ending : (bs : List ℕ) → before_ending (zero_offset true) bs ≡ None → before_ending (zero_offset false) bs ≡ None → (s : Bool) (front : List ℕ)
    → bs ≢ front ++ zero_offset s
no_ending bs h k true front e = ending_none true bs front h e
no_ending bs h k false front e = ending_none false bs front k e

abbrev joined : List ℕ → List ℕ × List ℕ → List ℕ
joined y x = (y ++ x.0) ++ x.1

abbrev Grows : List ℕ → List ℕ → Type 0
Grows y rest = (front : List ℕ) (s : Bool) → y ++ rest ≡ front ++ zero_offset s → (f : List ℕ) × (rest ≡ f ++ zero_offset s)

offset_fixed : (part : DatePart) (y rest f : List ℕ) (s : Bool) → rest ≡ f ++ zero_offset s → is_date_part part (y ++ rest) ≡ true
    → NoZeroYear (y ++ rest) → plain_form part ((y ++ f) ++ z) ≡ Some ((y ++ f) ++ z)
offset_fixed part y rest f s e is year =
    let text : y ++ rest ≡ (y ++ f) ++ zero_offset s = ap (λ t. y ++ t) e ∙ sym (append_assoc y f (zero_offset s)) in
    z_fixed part (y ++ f) s (subst (λ t. is_date_part part t ≡ true) text is) (subst (λ t. NoZeroYear t) text year)

body_by : (part : DatePart) (y rest : List ℕ) (o p : Option (List ℕ)) → before_ending (zero_offset true) rest ≡ o
    → before_ending (zero_offset false) rest ≡ p → is_date_part part (y ++ rest) ≡ true → NoZeroYear (y ++ rest) → Grows y rest
    → plain_form part (joined y (front_and_zone rest (either o p))) ≡ Some (joined y (front_and_zone rest (either o p)))
body_by part y rest (Some f) p e k is year grows = offset_fixed part y rest f true (ending_of true rest f e) is year
body_by part y rest None (Some f) e k is year grows = offset_fixed part y rest f false (ending_of false rest f k) is year
body_by part y rest None None e k is year grows =
    let none : NoZeroOffset (y ++ rest) = λ front s same. no_ending rest e k s (grows front s same).0 (grows front s same).1 in
    subst (λ t. plain_form part t ≡ Some t) (sym (append-nil (y ++ rest))) (fixed part (y ++ rest) is year none)

abbrev written : List ℕ × List ℕ → List ℕ
written x = joined x.0 (plain_zone x.1)

body : (part : DatePart) (y rest : List ℕ) → is_date_part part (y ++ rest) ≡ true → NoZeroYear (y ++ rest) → Grows y rest
    → plain_form part (written (y, rest)) ≡ Some (written (y, rest))
body part y rest is year grows = body_by part y rest _ _ refl refl is year grows

-- the year "-0000" is read as "0000" is
same_year : (part : DatePart) (rest : List ℕ) → after_part part (zero_year ++ rest) ≡ after_part part (48 ∷ 48 ∷ 48 ∷ 48 ∷ rest)
unfolding after_part
same_year parts.Year rest = refl
same_year parts.YearMonth rest = refl
same_year parts.Month rest = refl
same_year parts.MonthDay rest = refl
same_year parts.Day rest = refl

grows : (rest : List ℕ) → Grows (48 ∷ 48 ∷ 48 ∷ 48 ∷ []) rest
grows rest [] s e = absurd (no_sign s (cc e))
grows rest (a ∷ []) s e = absurd (no_sign s (cc e))
grows rest (a ∷ b ∷ []) s e = absurd (no_sign s (cc e))
grows rest (a ∷ b ∷ c ∷ []) s e = absurd (no_sign s (cc e))
grows rest (a ∷ b ∷ c ∷ d ∷ front) s e = let tail : rest ≡ front ++ zero_offset s = cc e in (front, tail)

year_of : (bs rest : List ℕ) → after_start zero_year bs ≡ Some rest → bs ≡ zero_year ++ rest
year_of bs rest h =
    let g = cond_some (bytes_eq (take 5 bs) zero_year) (drop 5 bs) rest h in
    begins zero_year bs g.0 ∙ ap (λ t. zero_year ++ t) g.1

year_none : (bs : List ℕ) → after_start zero_year bs ≡ None → NoZeroYear bs
year_none bs h rest e =
    let same : take 5 bs ≡ zero_year = ap (take 5) e in
    let is_same = (bytes_eq-Decides (take 5 bs) zero_year).1 same in
    none-some (drop 5 bs) (sym h ∙ cond-true _ _ _ is_same)

abbrev zeros : List ℕ
zeros = 48 ∷ 48 ∷ 48 ∷ 48 ∷ []

zeros_no_year : (rest : List ℕ) → NoZeroYear (zeros ++ rest)
zeros_no_year rest r e = let head : ◌≡◌ {A = ℕ} 48 45 = cc e in absurd (omega (arith, head))

zeros_written : (part : DatePart) (text rest : List ℕ) → text ≡ zero_year ++ rest → is_date_part part text ≡ true
    → is_date_part part (zeros ++ rest) ≡ true
zeros_written part text rest e is = ap ends_part (sym (same_year part rest)) ∙ ap (is_date_part part) (sym e) ∙ is

zeros_body : (part : DatePart) (text rest : List ℕ) → text ≡ zero_year ++ rest → is_date_part part text ≡ true
    → plain_form part (written (zeros, rest)) ≡ Some (written (zeros, rest))
zeros_body part text rest e is = body part zeros rest (zeros_written part text rest e is) (zeros_no_year rest) (grows rest)

abbrev Own : DatePart → List ℕ → Type 0
Own part form = plain_form part form ≡ Some form

four_zeros : codes "0000" ≡ zeros
four_zeros = refl

year_zero : (part : DatePart) (text rest : List ℕ) → text ≡ zero_year ++ rest → is_date_part part text ≡ true
    → Own part (written (year_and_rest text (Some rest)))
year_zero part text rest e is = subst (λ (y : List ℕ). Own part (written (y, rest))) (sym four_zeros) (zeros_body part text rest e is)

year_other : (part : DatePart) (text : List ℕ) → after_start zero_year text ≡ None → is_date_part part text ≡ true
    → Own part (written (year_and_rest text None))
year_other part text e is = body part [] text is (year_none text e) (λ front s same. (front, same))

whole : (part : DatePart) (text : List ℕ) (o : Option (List ℕ)) → after_start zero_year text ≡ o → is_date_part part text ≡ true
    → Own part (written (year_and_rest text o))
whole part text None e is = year_other part text e is
whole part text (Some rest) e is = year_zero part text rest (year_of text rest e) is

-- the text of a part of a date is its own text
pub one_plain_text : (part : DatePart) (text form : List ℕ) → plain_form part text ≡ Some form → plain_form part form ≡ Some form
one_plain_text part text form h =
    let g = cond_some (is_date_part part text) (plain text) form h in
    subst (λ t. plain_form part t ≡ Some t) g.1 (whole part text (after_start zero_year text) refl g.0)
