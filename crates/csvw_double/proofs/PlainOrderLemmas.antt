-- The order of numbers in digits alone is that of the numbers of their digits before the point, and then of their digits.
use Rattle.std.proofs.Common.{◌≡◌, ◌∙◌, ℕ, ◌+◌, ◌*◌, ◌^◌, ◌<◌, false, List, [], ◌∷◌, ◌++◌, length, Some}
use Rattle.std.proofs.Common.{arith, ap, ap₂, length-append, sym, subst, if◌then◌else◌, ℤ, pos, ◌+ℤ◌, ◌-ℤ◌}
use Rattle.std.specs.declared.cmp.Ordering.{Ordering}
use Rattle.std.specs.declared.cmp.Ordering.TheVariants.{Less, Equal, Greater}
use Rattle.std.specs.Ordering.{bool_cmp, int_cmp, nat_cmp, ordering_then}
use Rattle.std.specs.Str.Parse.{AllDigits, digits_value}
use Rattle.std.proofs.lemmas.Int.{ints}
use Rattle.std.proofs.lemmas.Int.Digits.{digits_value-lt}
use Rattle.csvw_double.specs.Digits.{after_zeros}
use Rattle.csvw_double.specs.Order.{double_cmp, excess, numbers_cmp, ordered}
use Rattle.csvw_double.specs.Places.{IsPlainOf, all_of, digits_cmp, plain_cmp, plain_sizes_cmp}
use Rattle.csvw_double.specs.Values.{scale_of}
use Rattle.csvw_double.specs.declared.plain.Plain.{Plain}
use Rattle.csvw_double.proofs.DigitLemmas.{after_begins}
use Rattle.csvw_double.proofs.FormLemmas.{joined_digits}
use Rattle.csvw_double.proofs.OrderLemmas.{IsOrder, at_most, begin_value, cmp_is, digits_are, first_digits, further, is_below_zero, is_cmp, moved, one_none, scaled, signed_cmp, size_below, split}
use Rattle.csvw_double.proofs.StayLemmas.{begins}
use Rattle.csvw_double.proofs.ValueLemmas.{after_value}

-- fewer digits before the point are less
wider : (ws fs vs gs : List ℕ) (d e : ℕ) → AllDigits 10 (ws ++ fs) → AllDigits 10 (vs ++ gs) → begins vs ≡ false → length ws < length vs
    → d + length fs ≡ e + length gs → digits_value 10 (ws ++ fs) * 10 ^ d < digits_value 10 (vs ++ gs) * 10 ^ e
wider ws fs [] gs d e are others first less long = absurd (omega (arith, less))
wider ws fs (c ∷ cs) gs d e are others first less long =
    further (digits_value 10 (ws ++ fs)) (digits_value 10 (c ∷ cs ++ gs)) (length (ws ++ fs)) (length (cs ++ gs)) d e (digits_value-lt 10 (ws ++ fs) are)
    (begin_value c (cs ++ gs) others first) (omega (arith, less, long, length-append ws fs, length-append cs gs))

-- two numbers' digits before and after the point, and their powers of ten
record ArePlain (ws fs vs gs : List ℕ) (s t : ℤ) : Type 0 where
  are : AllDigits 10 (ws ++ fs)
  others : AllDigits 10 (vs ++ gs)
  first : begins ws ≡ false
  other : begins vs ≡ false
  scale : s ≡ pos 0 -ℤ pos (length fs)
  other_scale : t ≡ pos 0 -ℤ pos (length gs)

sizes : (ws fs vs gs : List ℕ) (s t : ℤ) → ArePlain ws fs vs gs s t
    → nat_cmp (digits_value 10 (ws ++ fs) * 10 ^ excess (s -ℤ t)) (digits_value 10 (vs ++ gs) * 10 ^ excess (t -ℤ s))
    ≡ ordering_then (nat_cmp (length ws) (length vs)) (digits_cmp (ws ++ fs) (vs ++ gs))
sizes ws fs vs gs s t h = go (nat_cmp (length ws) (length vs)) (is_cmp (length ws) (length vs))
  where
    d : ℕ
    d = excess (s -ℤ t)

    e : ℕ
    e = excess (t -ℤ s)

    apart : (s -ℤ t) +ℤ (t -ℤ s) ≡ pos 0
    apart = omega (arith, ints)

    long : d + length fs ≡ e + length gs
    long = let is = split (s -ℤ t) (t -ℤ s) apart in omega (arith, ints, is, h.scale, h.other_scale)

    go : (r : Ordering) → IsOrder r (length ws) (length vs)
        → nat_cmp (digits_value 10 (ws ++ fs) * 10 ^ d) (digits_value 10 (vs ++ gs) * 10 ^ e) ≡ ordering_then r (digits_cmp (ws ++ fs) (vs ++ gs))
    go Less less = cmp_is Less _ _ (wider ws fs vs gs d e h.are h.others h.other less long)
    go Greater more = cmp_is Greater _ _ (wider vs gs ws fs e d h.others h.are h.first more (sym long))
    go Equal same =
        let one = length-append ws fs in
        let two = length-append vs gs in
        let all : length (ws ++ fs) + d ≡ length (vs ++ gs) + e = omega (arith, one, two, same, long) in
        moved (digits_cmp (ws ++ fs) (vs ++ gs)) (digits_value 10 (ws ++ fs)) (digits_value 10 (vs ++ gs)) (length (ws ++ fs)) (length (vs ++ gs)) d e all
        (at_most (length (ws ++ fs)) (length (vs ++ gs)) d e all (one_none (s -ℤ t) (t -ℤ s) apart)) (digits_are (ws ++ fs) (vs ++ gs) h.are h.others)

begin_is : (ds : List ℕ) → after_zeros ds ≡ ds → begins ds ≡ false
begin_is ds first = subst (λ zs. begins zs ≡ false) first (after_begins ds)

plain_of : (s t : List ℕ) (a b : Plain) → IsPlainOf s a → IsPlainOf t b
    → ArePlain a.digits.whole.now a.digits.fraction.now b.digits.whole.now b.digits.fraction.now (scale_of s) (scale_of t)
plain_of s t a b h k = record {
  are = joined_digits a.digits.whole.now a.digits.fraction.now h.whole h.fraction;
  others = joined_digits b.digits.whole.now b.digits.fraction.now k.whole k.fraction;
  first = begin_is a.digits.whole.now h.first;
  other = begin_is b.digits.whole.now k.first;
  scale = h.scale;
  other_scale = k.scale;
}

value_is : (text : List ℕ) (found : Plain) → IsPlainOf text found → digits_value 10 (first_digits text) ≡ digits_value 10 (all_of found.digits)
value_is text found h = ap (digits_value 10) h.digits ∙ after_value (all_of found.digits)

sizes_by : (s t : List ℕ) (a b : Plain) → IsPlainOf s a → IsPlainOf t b
    → nat_cmp (digits_value 10 (first_digits s) * 10 ^ excess (scale_of s -ℤ scale_of t))
    (digits_value 10 (first_digits t) * 10 ^ excess (scale_of t -ℤ scale_of s))
    ≡ plain_sizes_cmp a.digits b.digits
sizes_by s t a b h k =
    ap₂ (λ m n. nat_cmp (m * 10 ^ excess (scale_of s -ℤ scale_of t)) (n * 10 ^ excess (scale_of t -ℤ scale_of s))) (value_is s a h) (value_is t b k)
    ∙ sizes a.digits.whole.now a.digits.fraction.now b.digits.whole.now b.digits.fraction.now (scale_of s) (scale_of t) (plain_of s t a b h k)

numbers_by : (s t : List ℕ) (a b : Plain) → IsPlainOf s a → IsPlainOf t b → numbers_cmp s t ≡ plain_cmp a b
unfolding numbers_cmp
numbers_by s t a b h k =
    ap₂ int_cmp (scaled s t) (scaled t s)
    ∙ signed_cmp (is_below_zero s) (is_below_zero t) (digits_value 10 (first_digits s) * 10 ^ excess (scale_of s -ℤ scale_of t))
    (digits_value 10 (first_digits t) * 10 ^ excess (scale_of t -ℤ scale_of s)) (size_below s t) (size_below t s)
    ∙ ap₂ (λ x y. ordering_then (bool_cmp (is_below_zero t) (is_below_zero s)) (if is_below_zero s then x else y)) (sizes_by t s b a k h)
    (sizes_by s t a b h k)
    ∙ sym (ap₂ (λ x y. ordering_then (bool_cmp y x) (if x then plain_sizes_cmp b.digits a.digits else plain_sizes_cmp a.digits b.digits)) h.sign k.sign)

pub plain_order : (s t : List ℕ) (a b : Plain) → IsPlainOf s a → IsPlainOf t b → double_cmp s t ≡ Some (plain_cmp a b)
unfolding double_cmp
plain_order s t a b h k =
    ap₂ (λ x y. ordered x y (numbers_cmp s t)) h.place k.place ∙ ap (λ (r : Ordering). Some r) (numbers_by s t a b h k)
