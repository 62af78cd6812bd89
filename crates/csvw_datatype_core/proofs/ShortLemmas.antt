-- The pass over a short number, by its bytes.
use Rattle.std.proofs.Common.{◌≡◌, ◌∙◌, ℕ, zero, suc, ◌+◌, ◌-◌, ◌*◌, ◌/◌, ◌%◌, ◌^◌, ◌<◌, ◌≤◌, Bool, true, false, ◌&&◌, ◌||◌, ◌==◌, not, Some, List}
use Rattle.std.proofs.Common.{[], ◌∷◌, ◌++◌, length, get_or, take, drop, slice_index_or, refl, sym, ap, arith, chars, min, cond, ℤ, pos, neg_ℤ}
use Rattle.std.proofs.Common.{nat_le, mul-le-mul_right}
use Rattle.std.specs.Char.{IsAsciiDigit, is_ascii_digit}
use Rattle.std.proofs.lemmas.Bool.{cond-false}
use Rattle.std.proofs.lemmas.Bool.Decides.{nat_tests}
use Rattle.std.proofs.Math.Seq.{take-length}
use Rattle.std.proofs.lemmas.Str.{IsUtf8-from_ascii, chars-append, chars-IsAscii, chars-nil}
use Rattle.csvw_datatype_core.specs.declared.number.NumberRules.{NumberRules}
use Rattle.csvw_datatype_core.specs.declared.number.Scan.{Scan}
use Rattle.csvw_datatype_core.specs.declared.number.Kind.{Kind}
use Rattle.csvw_datatype_core.specs.declared.number.Kind.TheVariants as kinds
use Rattle.csvw_datatype_core.specs.declared.number.Place.{Place}
use Rattle.csvw_datatype_core.specs.declared.number.Place.TheVariants as places
use Rattle.csvw_datatype_core.specs.declared.number.Mark.TheVariants as marks
use Rattle.csvw_datatype_core.specs.Scan.{kind_of, next, holds, ends}
use Rattle.csvw_datatype_core.specs.Step.{begun, push, push_digit, step, run, count_of, Continues, IsBegun, EndsWith, CountsWith, signed_begun}
use Rattle.csvw_datatype_core.specs.Numbers.{IsLawful, ReadsNumber}
use Rattle.csvw_datatype_core.proofs.Accepts.{holds-some}
use Rattle.csvw_datatype_core.proofs.KindLemmas.{kind_digit, kind_point}
use Rattle.csvw_datatype_core.proofs.ReadLemmas.{reads}

chars_ascii : (b : ℕ) (bs : List ℕ) → b < 128 → chars (b ∷ bs) ≡ b ∷ chars bs
chars_ascii b bs h = chars-append (b ∷ []) bs (IsUtf8-from_ascii (b ∷ []) low) ∙ ap (λ l. l ++ chars bs) (chars-IsAscii (b ∷ []) low)
  where
    low : (i : ℕ) → get_or (b ∷ []) i 0 < 128
    low zero = h
    low (suc i) = omega arith

is_digit : (c : ℕ) → is_ascii_digit c ≡ true → IsAsciiDigit c
is_digit c h = grind (arith, nat_tests)

-- what follows the first byte
abbrev past_first : List ℕ → List ℕ
past_first text = take (length text - 1) (drop 1 text)

all_behind : (bs : List ℕ) (b : ℕ) → take (length (b ∷ bs) - 1) bs ≡ bs
all_behind bs b = ap (λ n. take n bs) (omega arith) ∙ take-length bs

split_first : (text : List ℕ) → 1 ≤ length text → text ≡ slice_index_or text 0 0 ∷ past_first text
split_first [] h = absurd (omega (arith, h))
split_first (b ∷ bs) h = ap (λ l. b ∷ l) (sym (all_behind bs b))

-- the pass over the first byte
first_read : (rules : NumberRules) (s : Scan) (text : List ℕ) → 1 ≤ length text → slice_index_or text 0 0 < 128
    → Continues rules s text (step rules s (slice_index_or text 0 0)) (past_first text)
first_read rules s text some low = ap (λ l. run rules s (chars l)) (split_first text some) ∙ ap (run rules s) (chars_ascii _ _ low)

step_digit : (rules : NumberRules) (s : Scan) (b : ℕ) → IsAsciiDigit b
    → step rules s b ≡ push (record s { place = next s.place (kinds.Digit (b - 48)) }) (kinds.Digit (b - 48))
step_digit rules s b h = ap (λ (k : Kind). push (record s { place = next s.place k }) k) (kind_digit rules b h)

at_whole : (s : Scan) (w d : ℕ) → s.place ≡ places.Whole → w < 10 ^ 18 → d < 10
    → push (record s { whole = w; place = next s.place (kinds.Digit d) }) (kinds.Digit d) ≡ record s { whole = w * 10 + d }
at_whole s w d h l k =
    ap (λ (p : Place). push_digit (next p (kinds.Digit d)) (record s { whole = w; place = next p (kinds.Digit d) }) d) h
    ∙ ap (λ (p : Place). record s { whole = min (w * 10 + d) (10 ^ 23); place = p }) (sym h)
    ∙ ap (λ n. record s { whole = n }) (omega arith)

-- after one more digit of a whole part that is short
pub whole_read : (rules : NumberRules) (s : Scan) (text rest : List ℕ) (w : ℕ) → s.place ≡ places.Whole → w < 10 ^ 18 → 1 ≤ length rest
    → is_ascii_digit (slice_index_or rest 0 0) ≡ true
    → Continues rules s text (record s { whole = w }) rest
    → Continues rules s text (record s { whole = w * 10 + (slice_index_or rest 0 0 - 48) }) (past_first rest)
whole_read rules s text rest w h l some t c =
    let b = slice_index_or rest 0 0 in
    let d = is_digit b t in
    let e = step_digit rules (record s { whole = w }) b d ∙ at_whole s w (b - 48) h l (omega (arith, d)) in
    c ∙ first_read rules (record s { whole = w }) rest some (omega (arith, d)) ∙ ap (λ x. run rules x (chars (past_first rest))) e

pub whole_begins : (rules : NumberRules) (s : Scan) (text : List ℕ) (w : ℕ) → s.whole ≡ w → Continues rules s text (record s { whole = w }) text
whole_begins rules s text w h = ap (λ n. run rules (record s { whole = n }) (chars text)) h

at_fraction : (s : Scan) (n w d : ℕ) → s.place ≡ places.Fraction → s.too_long ≡ false → 0 < w
    → push (record s { fraction = n; weight = w; place = next s.place (kinds.Digit d) }) (kinds.Digit d) ≡ record s { fraction = n + d * w; weight = w / 10 }
at_fraction s n w d h t l =
    let some : (w == 0) ≡ false = grind (arith, nat_tests) in
    let u = record s { fraction = n + d * w; weight = w / 10 } in
    ap (λ (p : Place). push_digit (next p (kinds.Digit d)) (record s { fraction = n; weight = w; place = next p (kinds.Digit d) }) d) h
    ∙ ap (λ (p : Place). record u { place = p; too_long = s.too_long || ((w == 0) && not (d == 0)) }) (sym h)
    ∙ ap (λ b. record u { too_long = s.too_long || (b && not (d == 0)) }) some
    ∙ ap (λ b. record u { too_long = b || false }) t
    ∙ ap (λ b. record u { too_long = b }) (sym t)

-- the loop over a fraction
pub record IsFractionAt (text rest : List ℕ) (units weight : ℕ) : Type 0 where
  pub small : units + 10 * weight ≤ 10 ^ 18
  pub continues : (rules : NumberRules) (s : Scan) → IsBegun s → s.place ≡ places.Fraction
      → Continues rules s text (record s { fraction = units; weight = weight }) rest

pub fraction_begins : (text : List ℕ) → IsFractionAt text text 0 (10 ^ 17)
fraction_begins text = record {
  small = omega arith;
  continues = λ rules s b h. ap (λ n. run rules (record s { fraction = n }) (chars text)) b.fraction
      ∙ ap (λ w. run rules (record s { fraction = 0; weight = w }) (chars text)) b.weight;
}

pub digit_fits : (d w : ℕ) → d ≤ 9 → d * w ≤ 9 * w
digit_fits d w h = mul-le-mul_right w h

pub fraction_read : (text rest : List ℕ) (n w : ℕ) → 0 < w → 1 ≤ length rest → is_ascii_digit (slice_index_or rest 0 0) ≡ true → IsFractionAt text rest n w
    → IsFractionAt text (past_first rest) (n + (slice_index_or rest 0 0 - 48) * w) (w / 10)
fraction_read text rest n w l some t f =
    let b = slice_index_or rest 0 0 in
    let d = is_digit b t in
    record {
      small = omega (arith, f.small, digit_fits (b - 48) w (omega (arith, d)));
      continues = λ rules s begun h.
          let e = step_digit rules (record s { fraction = n; weight = w }) b d ∙ at_fraction s n w (b - 48) h begun.too_long l in
          f.continues rules s begun h ∙ first_read rules (record s { fraction = n; weight = w }) rest some (omega (arith, d))
          ∙ ap (λ x. run rules x (chars (past_first rest))) e;
    }

ended : (rules : NumberRules) (s : Scan) (rest : List ℕ) → length rest < 1 → run rules s (chars rest) ≡ s
ended rules s [] h = ap (run rules s) chars-nil
ended rules s (b ∷ bs) h = absurd (omega (arith, h))

-- nothing follows the whole part
pub whole_ends : (rules : NumberRules) (s : Scan) (text : List ℕ) → length text < 1 → IsBegun s → s.place ≡ places.Whole → EndsWith rules s text 0
whole_ends rules s text h b w = record {
  place = places.Whole;
  weight = s.weight;
  ended = refl;
  run_is = ended rules s text h ∙ ap (λ (p : Place). record s { place = p }) w ∙ ap (λ n. record s { place = places.Whole; fraction = n }) b.fraction;
}

at_point : (rules : NumberRules) (s : Scan) (b : ℕ) → IsLawful rules → holds rules.decimal_char b ≡ true → s.place ≡ places.Whole
    → step rules s b ≡ record s { place = places.Fraction }
at_point rules s b l h w =
    ap (λ (k : Kind). push (record s { place = next s.place k }) k) (kind_point rules b l (holds-some rules.decimal_char b h))
    ∙ ap (λ (p : Place). record s { place = next p kinds.Point }) w

-- a point follows it, and then digits up to the end
pub fraction_ends : (rules : NumberRules) (s : Scan) (text rest : List ℕ) (units weight : ℕ) → IsLawful rules → 1 ≤ length text
    → slice_index_or text 0 0 < 128
    → holds rules.decimal_char (slice_index_or text 0 0) ≡ true → IsBegun s → s.place ≡ places.Whole → length rest < 1
    → ((t : Scan) → IsBegun t → t.place ≡ places.Fraction → Continues rules t (past_first text) (record t { fraction = units; weight = weight }) rest)
    → EndsWith rules s text units
fraction_ends rules s text rest units weight l some low h b w none f =
    let t = record s { place = places.Fraction } in
    record {
      place = places.Fraction;
      weight = weight;
      ended = refl;
      run_is = first_read rules s text some low ∙ ap (λ x. run rules x (chars (past_first text))) (at_point rules s _ l h w)
          ∙ f t (record { fraction = b.fraction; weight = b.weight; too_long = b.too_long; mark = b.mark }) refl ∙ ended rules _ rest none;
    }

count_is : (s : Scan) (w n : ℕ) → s.mark ≡ marks.Plain → s.too_long ≡ false → s.whole ≡ w → s.fraction ≡ n → w < 10 ^ 20 → count_of s ≡ Some (w * 10 ^ 18 + n)
count_is s w n m t e f h =
    let plain : count_of s ≡ count_of (record s { mark = marks.Plain; too_long = false; whole = w; fraction = n }) =
    ap (λ m. count_of (record s { mark = m })) m ∙ ap (λ b. count_of (record s { mark = marks.Plain; too_long = b })) t
    ∙ ap (λ w. count_of (record s { mark = marks.Plain; too_long = false; whole = w })) e
    ∙ ap (λ n. count_of (record s { mark = marks.Plain; too_long = false; whole = w; fraction = n })) f in
    let below : nat_le (10 ^ 20) w ≡ false = grind (arith, nat_tests) in
    let whole : (n % 1 == 0) ≡ true = grind (arith, nat_tests) in
    plain ∙ cond-false _ _ _ (ap (λ b. b || not (n % 1 == 0)) below ∙ ap not whole) ∙ ap Some (omega arith)

sign_begun : (has_sign minus : Bool) → IsBegun (signed_begun has_sign minus)
sign_begun false minus = record { fraction = refl; weight = refl; too_long = refl; mark = refl }
sign_begun true minus = record { fraction = refl; weight = refl; too_long = refl; mark = refl }

begun_digit : (has_sign minus : Bool) (d : ℕ) → d < 10
    → push (record (signed_begun has_sign minus) { place = next (signed_begun has_sign minus).place (kinds.Digit d) }) (kinds.Digit d)
    ≡ record (signed_begun has_sign minus) { place = places.Whole; whole = d }
begun_digit false minus d h = ap (λ n. record (signed_begun false minus) { place = places.Whole; whole = n }) (omega arith)
begun_digit true minus d h = ap (λ n. record (signed_begun true minus) { place = places.Whole; whole = n }) (omega arith)

-- digits, with what follows them, are this many units
pub counts : (rules : NumberRules) (has_sign minus : Bool) (text rest : List ℕ) (w units : ℕ) → 1 ≤ length text
    → is_ascii_digit (slice_index_or text 0 0) ≡ true
    → w < 10 ^ 20
    → ((s : Scan) → IsBegun s → s.place ≡ places.Whole → s.whole ≡ slice_index_or text 0 0 - 48
    → Continues rules s (past_first text) (record s { whole = w }) rest)
    → ((s : Scan) → IsBegun s → s.place ≡ places.Whole → EndsWith rules s rest units)
    → CountsWith rules (signed_begun has_sign minus) text (w * 10 ^ 18 + units)
counts rules has_sign minus text rest w units some test low whole behind =
    let b = slice_index_or text 0 0 in
    let d = is_digit b test in
    let z = sign_begun has_sign minus in
    let s = record (signed_begun has_sign minus) { place = places.Whole; whole = b - 48 } in
    let t = record s { whole = w } in
    let e = behind t (record { fraction = z.fraction; weight = z.weight; too_long = z.too_long; mark = z.mark }) refl in
    let all : run rules (signed_begun has_sign minus) (chars text) ≡ record t { place = e.place; fraction = units; weight = e.weight } =
    first_read rules (signed_begun has_sign minus) text some (omega (arith, d))
    ∙ ap (λ x. run rules x (chars (past_first text)))
    (step_digit rules (signed_begun has_sign minus) b d ∙ begun_digit has_sign minus (b - 48) (omega (arith, d)))
    ∙ whole s (record { fraction = z.fraction; weight = z.weight; too_long = z.too_long; mark = z.mark }) refl refl
    ∙ e.run_is in
    record {
      ended = ap (λ (x : Scan). ends x.place) all ∙ e.ended;
      count = ap count_of all ∙ count_is (record t { place = e.place; fraction = units; weight = e.weight }) w units z.mark z.too_long refl refl low;
      minus = ap (λ (x : Scan). x.minus) all;
    }

minus_of : (has_sign minus : Bool) → (signed_begun has_sign minus).minus ≡ minus
minus_of false minus = refl
minus_of true minus = refl

-- so the text spells that number
pub counted_reads : (rules : NumberRules) (l : IsLawful rules) (has_sign minus : Bool) (text digits : List ℕ) (n : ℕ) (z : ℤ)
    → Continues rules begun text (signed_begun has_sign minus) digits
    → CountsWith rules (signed_begun has_sign minus) digits n → z ≡ cond minus (neg_ℤ (pos n)) (pos n) → ReadsNumber rules (chars text) z
counted_reads rules l has_sign minus text digits n z e c value =
    reads rules l (chars text) n z (ap (λ (s : Scan). ends s.place) e ∙ c.ended) (ap count_of e ∙ c.count)
    (value ∙ ap (λ b. cond b (neg_ℤ (pos n)) (pos n)) (sym (ap (λ (s : Scan). s.minus) e ∙ c.minus ∙ minus_of has_sign minus)))

minus_sign : (rules : NumberRules) → step rules begun 45 ≡ signed_begun true true
unfolding kind_of
minus_sign rules = refl

plus_sign : (rules : NumberRules) → step rules begun 43 ≡ signed_begun true false
unfolding kind_of
plus_sign rules = refl

sign_read : (rules : NumberRules) (text : List ℕ) (sign : ℕ) (s : Scan) → sign < 128 → 1 ≤ length text → slice_index_or text 0 0 ≡ sign
    → step rules begun sign ≡ s → Continues rules begun text s (past_first text)
sign_read rules text sign s low some h e =
    first_read rules begun text some (omega (arith, h, low)) ∙ ap (λ b. run rules (step rules begun b) (chars (past_first text))) h
    ∙ ap (λ s. run rules s (chars (past_first text))) e

pub minus_read : (rules : NumberRules) (text : List ℕ) → 1 ≤ length text → slice_index_or text 0 0 ≡ 45
    → Continues rules begun text (signed_begun true true) (past_first text)
minus_read rules text some h = sign_read rules text 45 _ (omega arith) some h (minus_sign rules)

pub plus_read : (rules : NumberRules) (text : List ℕ) → 1 ≤ length text → slice_index_or text 0 0 ≡ 43
    → Continues rules begun text (signed_begun true false) (past_first text)
plus_read rules text some h = sign_read rules text 43 _ (omega arith) some h (plus_sign rules)
