-- The text that `number_text` writes is the lexical form of its number.
use Rattle.std.proofs.Common.{◌≡◌, ◌≢◌, ◌↔◌, ℕ, ◌+◌, ◌*◌, ◌/◌, ◌%◌, ◌^◌, ◌<◌, ◌≤◌, cond, List, [], ◌∷◌, ◌++◌, length, Some, None, refl, sym, ap, ◌∙◌}
use Rattle.std.proofs.Common.{arith, append_assoc, append-nil, ℤ, pos, negsuc, ◌<ℤ◌, unsigned_abs, inl, inr, filter}
use Rattle.std.specs.Char.{IsAsciiDigit, digit_value, is_ascii_digit}
use Rattle.std.specs.Str.Parse.{digits_value, AllDigits, IsNumeral}
use Rattle.std.specs.Fmt.{decimal}
use lib.Signed.{lt_z}
use Rattle.std.proofs.Common.{ltb}
use Rattle.std.proofs.lemmas.Fmt.{decimal_is_IsNumeral_wide, decimal_by_steps_wide}
use Rattle.std.proofs.lemmas.Int.{ints}
use Rattle.std.proofs.lemmas.Nat.{div-add-mod'}
use Rattle.std.proofs.lemmas.Bool.{cond-true, cond-false}
use Rattle.std.proofs.lemmas.Bool.Decides.{nat_tests}
use Rattle.csvw_datatype_core.specs.declared.number.Mark.TheVariants.{Plain}
use Rattle.csvw_datatype_core.specs.Numbers.{Sign, NoSign, Plus, Minus, Parts, sign_text, signed, IsGrouped, IsCount}
use Rattle.csvw_datatype_core.specs.LexicalNumbers.{HasNoLeadingZero, IsLexicalNumber, AppendsPart}
use Rattle.csvw_datatype_core.proofs.KindLemmas.{digit_test}
use Rattle.csvw_datatype_core.proofs.Spelled.{whole_value}
use Rattle.csvw_datatype_core.proofs.Answer.{digits_split}

sign_of : ℤ → Sign
sign_of (pos n) = NoSign
sign_of (negsuc n) = Minus

signed_abs : (z : ℤ) → z ≡ signed (sign_of z) (unsigned_abs z)
unfolding sign_of
signed_abs (pos n) = refl
signed_abs (negsuc n) = refl

sign_text_of : (z : ℤ) → cond (lt_z z (pos 0)) (45 ∷ []) [] ≡ sign_text (sign_of z)
unfolding sign_of
sign_text_of (pos n) = cond-false (ltb n 0) _ _ (grind (arith, nat_tests))
sign_text_of (negsuc n) = refl

minus_of : (z : ℤ) → (sign_of z ≡ Minus) ↔ (z <ℤ pos 0)
unfolding sign_of
minus_of (pos n) = (λ h. cc, λ h. absurd (omega (arith, ints, h)))
minus_of (negsuc n) = (λ h. omega (arith, ints), λ h. refl)

plus_of : (z : ℤ) → sign_of z ≢ Plus
unfolding sign_of
plus_of (pos n) h = cc
plus_of (negsuc n) h = cc

ascii_digit : (c : ℕ) → digit_value c < 10 → IsAsciiDigit c
ascii_digit c h = grind (arith, nat_tests)

digits_grouped : (c : ℕ) (ds : List ℕ) → AllDigits 10 (c ∷ ds) → IsGrouped None (c ∷ ds)
digits_grouped c [] h = ascii_digit c h.0
digits_grouped c (d ∷ ds) h = (ascii_digit c h.0, inl (digits_grouped d ds h.1))

digits_of : (ds : List ℕ) → IsNumeral 10 ds → AllDigits 10 ds
digits_of ds h = h.1

numeral_grouped : (ds : List ℕ) → IsNumeral 10 ds → IsGrouped None ds
numeral_grouped [] h = absurd (omega (arith, h.0))
numeral_grouped (c ∷ ds) h = digits_grouped c ds h.1

filter_digits : (ds : List ℕ) → AllDigits 10 ds → filter is_ascii_digit ds ≡ ds
filter_digits [] h = refl
filter_digits (c ∷ ds) h = cond-true _ _ _ (digit_test c (ascii_digit c h.0)) ∙ ap (λ x. c ∷ x) (filter_digits ds h.1)

-- the digits of a number have no zero in front
abbrev Leads : ℕ → List ℕ → Type 0
Leads n [] = ⊥
Leads n (c ∷ ds) = HasNoLeadingZero (c ∷ ds) × (0 < n → c ≢ 48)

leads_more : (n d : ℕ) (ds : List ℕ) → 10 ≤ n → Leads (n / 10) ds → Leads n (ds ++ ((48 + d) ∷ []))
leads_more n d [] h l = absurd l
leads_more n d (c ∷ []) h l = let e = l.1 (omega arith) in (e, λ _. e)
leads_more n d (c ∷ b ∷ ds) h l = (l.0, λ _. l.1 (omega arith))

leads : (n : ℕ) → n < 10 ^ 64 → Leads n (decimal n)
leads = decimal_by_steps_wide Leads (λ n h. (tt, λ p. λ e. absurd (omega arith))) (λ n ds h l. leads_more n (n % 10) ds h l)

no_leading_zero : (n : ℕ) (ds : List ℕ) → Leads n ds → HasNoLeadingZero ds
no_leading_zero n [] h = h
no_leading_zero n (c ∷ ds) h = h.0

point_text : (s w ds : List ℕ) → (([] ++ s) ++ w ++ (46 ∷ [])) ++ ds ≡ s ++ (w ++ ((46 ∷ ds) ++ []))
point_text s w ds = simp (append_assoc, append-nil)

lexical_sign : (z : ℤ) (w : List ℕ) (tail : List ℕ) → ([] ++ cond (lt_z z (pos 0)) (45 ∷ []) []) ++ w ++ tail ≡ sign_text (sign_of z) ++ (w ++ tail)
lexical_sign z w tail = append_assoc _ w tail ∙ ap (λ x. x ++ (w ++ tail)) (sign_text_of z)

-- the value of a whole part that `decimal` wrote
whole_of : (w : ℕ) → w < 10 ^ 64 → whole_value 0 (decimal w) ≡ w
whole_of w h =
    let d = decimal_is_IsNumeral_wide w h in
    ap (digits_value 10) (filter_digits (decimal w) (digits_of (decimal w) d.0)) ∙ d.1

count_whole : (z : ℤ) (n : ℕ) → n < 10 ^ 38 → n % 10 ^ 18 ≡ 0
    → IsCount (record { sign = sign_of z; whole = decimal (n / 10 ^ 18); fraction = None; mark = Plain }) n
count_whole z n small e =
    let w : n / 10 ^ 18 < 10 ^ 64 = omega arith in
    let s = digits_split (record { sign = sign_of z; whole = decimal (n / 10 ^ 18); fraction = None; mark = Plain }) in
    let v = whole_of (n / 10 ^ 18) w in
    sym (ap (λ x. x * 10 ^ 18) (s ∙ ap (λ x. x * 1 + 0) v) ∙ omega (arith, div-add-mod' n (10 ^ 18), e))

sum_count : (n w r v p t : ℕ) → w * t + r ≡ n → v * t ≡ r * p → n * (p * 1) ≡ (w * p + v) * t
sum_count n w r v p t e h =
    let x : (w * p + v) * t ≡ w * t * p + v * t = omega arith in
    let y : n * (p * 1) ≡ w * t * p + r * p = ap (λ n. n * (p * 1)) (sym e) ∙ omega arith in
    y ∙ ap (λ q. w * t * p + q) (sym h) ∙ sym x

count_fraction : (z : ℤ) (n : ℕ) (ds : List ℕ) → n < 10 ^ 38 → digits_value 10 ds * 10 ^ 18 ≡ n % 10 ^ 18 * 10 ^ length ds
    → IsCount (record { sign = sign_of z; whole = decimal (n / 10 ^ 18); fraction = Some ds; mark = Plain }) n
count_fraction z n ds small e =
    let w : n / 10 ^ 18 < 10 ^ 64 = omega arith in
    let s = digits_split (record { sign = sign_of z; whole = decimal (n / 10 ^ 18); fraction = Some ds; mark = Plain }) in
    let v = whole_of (n / 10 ^ 18) w in
    sum_count n (n / 10 ^ 18) (n % 10 ^ 18) (digits_value 10 ds) (10 ^ length ds) (10 ^ 18) (div-add-mod' n (10 ^ 18)) e
    ∙ sym (ap (λ x. x * 10 ^ 18) (s ∙ ap (λ x. x * 10 ^ length ds + digits_value 10 ds) v))

not_empty : (cs ds : List ℕ) → 0 < length cs → ((cs ≡ []) × (ds ≡ [])) → ⊥
not_empty [] ds h e = absurd (omega arith)
not_empty (c ∷ cs) ds h e = let f : c ∷ cs ≡ [] = e.0 in cc

pub lexical_number : (z : ℤ) (n : ℕ) (a b c d : List ℕ) → n ≡ unsigned_abs z → n < 10 ^ 38 → a ≡ [] → b ≡ a ++ cond (lt_z z (pos 0)) (45 ∷ []) []
    → c ≡ b ++ decimal (n / 10 ^ 18) → AppendsPart c d (n % 10 ^ 18) → IsLexicalNumber d z
lexical_number z n a b c d abs small ea eb ec part =
    let w = n / 10 ^ 18 in
    let wide : w < 10 ^ 64 = omega arith in
    let numeral = (decimal_is_IsNumeral_wide w wide).0 in
    let grouped = numeral_grouped (decimal w) numeral in
    let text : c ≡ ([] ++ cond (lt_z z (pos 0)) (45 ∷ []) []) ++ decimal w = ec
    ∙ ap (λ x. x ++ decimal w) (eb ∙ ap (λ x. x ++ cond (lt_z z (pos 0)) (45 ∷ []) []) ea) in
    let value : z ≡ signed (sign_of z) n = signed_abs z ∙ ap (signed (sign_of z)) (sym abs) in
    elim part [
      | inl whole ↦
          let p : Parts = record { sign = sign_of z; whole = decimal w; fraction = None; mark = Plain } in
          record {
            reads = record {
              parts = p;
              is_number = record { whole = inr grouped; fraction = tt; not_both_missing = not_empty (decimal w) [] numeral.0; mark = tt };
              spelled = whole.1 ∙ text ∙ sym (append-nil _) ∙ lexical_sign z (decimal w) [];
              count = n;
              small = small;
              is_count = count_whole z n small whole.0;
              is_value = value;
            };
            minus = minus_of z;
            no_plus = plus_of z;
            whole = no_leading_zero w (decimal w) (leads w wide);
            fraction = tt;
            no_mark = refl;
          }
      | inr f ↦
          let p : Parts = record { sign = sign_of z; whole = decimal w; fraction = Some f.digits; mark = Plain } in
          record {
            reads = record {
              parts = p;
              is_number = record {
                whole = inr grouped;
                fraction = (refl, f.are_digits);
                not_both_missing = not_empty (decimal w) f.digits numeral.0;
                mark = tt;
              };
              spelled = f.appended ∙ ap (λ x. (x ++ (46 ∷ [])) ++ f.digits) text ∙ point_text _ (decimal w) f.digits
                  ∙ ap (λ x. x ++ (decimal w ++ ((46 ∷ f.digits) ++ []))) (sign_text_of z);
              count = n;
              small = small;
              is_count = count_fraction z n f.digits small f.value;
              is_value = value;
            };
            minus = minus_of z;
            no_plus = plus_of z;
            whole = no_leading_zero w (decimal w) (leads w wide);
            fraction = f.no_trailing_zero;
            no_mark = refl;
          }
    ]
