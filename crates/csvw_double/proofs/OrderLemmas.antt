-- The order of numbers by their digits, their points and their signs is that of the numbers.
use Rattle.std.proofs.Common.{◌≡◌, ◌∙◌, ℕ, suc, ◌+◌, ◌-◌, ◌*◌, ◌^◌, ◌<◌, ◌≤◌, ◌==◌, ◌&&◌, ◌||◌, ◌⊎◌, inl, inr, not, nat_lt, true, false, Bool, List, [], ◌∷◌, ◌++◌, length, cond}
use Rattle.std.proofs.Common.{arith, ap, ap₂, refl, sym, subst, if◌then◌else◌, ℤ, pos, negsuc, neg_ℤ, ◌+ℤ◌, ◌-ℤ◌, ◌*ℤ◌, ◌≤ℤ◌, int_lt, Some}
use Rattle.std.specs.declared.cmp.Ordering.{Ordering}
use Rattle.std.specs.declared.cmp.Ordering.TheVariants.{Less, Equal, Greater}
use Rattle.std.specs.Ordering.{MatchOrdering, bool_cmp, int_cmp, nat_cmp, ordering_then}
use Rattle.std.specs.Char.{digit_value}
use Rattle.std.specs.Str.Parse.{AllDigits, digits_value}
use Rattle.std.proofs.lemmas.Bool.Decides.{nat_tests}
use Rattle.std.proofs.lemmas.Grind.{common_steps}
use Rattle.std.proofs.lemmas.Int.{ints}
use Rattle.std.proofs.lemmas.Int.Digits.{digits_value-lt}
use Rattle.std.proofs.lemmas.Nat.{pow-add}
use Rattle.std.proofs.lemmas.Str.Parse.{digit_from_value}
use Rattle.std.proofs.Math.Nat.{mul_assoc, one-le-pow, pow-le-pow_right, pow-succ'}
use Rattle.csvw_double.specs.Digits.{after_zeros, is_empty}
use Rattle.csvw_double.specs.Doubles.{after_sign, digits_from_first, is_negative, parts_of, point_of}
use Rattle.csvw_double.specs.Order.{double_cmp, excess, numbers_cmp, ordered, units_of}
use Rattle.csvw_double.specs.Places.{IsDecimalOf, IsPlaceOf, decimals_cmp, digits_cmp, has_value, sizes_cmp}
use Rattle.csvw_double.specs.Values.{coefficient_of, scale_of}
use Rattle.csvw_double.specs.declared.order.Decimal.{Decimal}
use Rattle.csvw_double.specs.declared.order.Place.{Place}
use Rattle.csvw_double.specs.declared.order.Place.TheVariants.{Number}
use Rattle.csvw_double.proofs.ValueLemmas.{after_value, at_least, front_is, not_zero}
use Rattle.csvw_double.proofs.DigitLemmas.{after_begins, scanned_fraction, scanned_whole}
use Rattle.csvw_double.proofs.EqualLemmas.{signed, times}
use Rattle.csvw_double.proofs.FormLemmas.{after_digits, joined_digits}
use Rattle.csvw_double.proofs.StayLemmas.{begins}

-- an order, and what it says of two numbers
abbrev pub IsOrder : Ordering → ℕ → ℕ → Type 0
IsOrder r x y = MatchOrdering r (x < y) (x ≡ y) (y < x)

pub cmp_is : (r : Ordering) (x y : ℕ) → IsOrder r x y → nat_cmp x y ≡ r
cmp_is Less x y h = grind (arith, common_steps, nat_tests, h)
cmp_is Equal x y h = grind (arith, common_steps, nat_tests, h)
cmp_is Greater x y h = grind (arith, common_steps, nat_tests, h)

pub is_cmp : (x y : ℕ) → IsOrder (nat_cmp x y) x y
is_cmp x y = go (nat_lt x y) (x == y) refl refl
  where
    go : (a b : Bool) → nat_lt x y ≡ a → (x == y) ≡ b → IsOrder (cond a Less (cond b Equal Greater)) x y
    go true b p q = grind (arith, common_steps, nat_tests, p)
    go false true p q = grind (arith, common_steps, nat_tests, q)
    go false false p q = grind (arith, common_steps, nat_tests, p, q)

-- products

pub scaled_less : (x y k : ℕ) → x < y → 0 < k → x * k < y * k
scaled_less x y k less some = grind (arith, common_steps, less, some)

scaled_order : (r : Ordering) (x y k : ℕ) → 0 < k → IsOrder r x y → IsOrder r (x * k) (y * k)
scaled_order Less x y k some h = scaled_less x y k h some
scaled_order Equal x y k some h = ap (λ n. n * k) h
scaled_order Greater x y k some h = scaled_less y x k h some

-- the same factor is left out
pub scaled_cmp : (x y k : ℕ) → 0 < k → nat_cmp (x * k) (y * k) ≡ nat_cmp x y
scaled_cmp x y k some = cmp_is (nat_cmp x y) (x * k) (y * k) (scaled_order (nat_cmp x y) x y k some (is_cmp x y))

-- digits

-- digits that don't begin with 0 write at least this number
pub begin_value : (c : ℕ) (cs : List ℕ) → AllDigits 10 (c ∷ cs) → (c == 48) ≡ false → 10 ^ length cs ≤ digits_value 10 (c ∷ cs)
begin_value c cs are first =
    subst (λ n. 10 ^ length cs ≤ n) (sym (front_is c cs)) (at_least (digit_value c) (10 ^ length cs) (digits_value 10 cs) (not_zero c are.0 first))

ten_some : (n : ℕ) → 0 < 10 ^ n
ten_some n = let one = one-le-pow n 10 (omega arith) in omega (arith, one)

some_value : (ds : List ℕ) → AllDigits 10 ds → begins ds ≡ false → is_empty ds ≡ false → 0 < digits_value 10 ds
some_value [] are first some = cc
some_value (c ∷ cs) are first some =
    let least = begin_value c cs are first in let one = ten_some (length cs) in omega (arith, least, one)

-- no digits, beside others
no_digits : (ds : List ℕ) → AllDigits 10 ds → IsOrder (bool_cmp false (has_value ds)) 0 (digits_value 10 ds)
no_digits ds are = subst (λ n. IsOrder (bool_cmp false (has_value ds)) 0 n) (after_value ds)
    (go (after_zeros ds) (after_digits ds are) (after_begins ds))
  where
    go : (rest : List ℕ) → AllDigits 10 rest → begins rest ≡ false → IsOrder (bool_cmp false (not (is_empty rest))) 0 (digits_value 10 rest)
    go [] others first = refl
    go (c ∷ cs) others first = some_value (c ∷ cs) others first refl

turned : (b : Bool) (x y : ℕ) → IsOrder (bool_cmp false b) x y → IsOrder (bool_cmp b false) y x
turned true x y h = h
turned false x y h = sym h

less_digit : (c d : ℕ) → digit_value c < 10 → digit_value d < 10 → c < d → digit_value c < digit_value d
less_digit c d small other less =
    let one = digit_from_value c small in
    let two = digit_from_value d other in
    grind (arith, common_steps, less, one.0, one.1, two.0, two.1)

-- a number whose first digit is less is less
lower : (x k p q u v : ℕ) → u < p → 0 < q → (x * p + u) * (10 * q) < ((x + suc k) * q + v) * (10 * p)
lower x k p q u v small some =
    let less = scaled_less u p q small some in
    grind (arith, common_steps, less)

first_less : (x y p q u v : ℕ) → x < y → u < p → 0 < q → (x * p + u) * (10 * q) < (y * q + v) * (10 * p)
first_less x y p q u v less small some =
    let e : y ≡ x + suc (y - suc x) = omega (arith, less) in
    subst (λ n. (x * p + u) * (10 * q) < (n * q + v) * (10 * p)) (sym e) (lower x (y - suc x) p q u v small some)

first_same : (r : Ordering) (x p q u v : ℕ) → IsOrder r (u * q) (v * p) → IsOrder r ((x * p + u) * (10 * q)) ((x * q + v) * (10 * p))
first_same Less x p q u v h = grind (arith, common_steps, h)
first_same Equal x p q u v h = grind (arith, common_steps, h)
first_same Greater x p q u v h = grind (arith, common_steps, h)

-- the order of digits is that of the fractions that they write behind a point
pub digits_are : (xs ys : List ℕ) → AllDigits 10 xs → AllDigits 10 ys
    → IsOrder (digits_cmp xs ys) (digits_value 10 xs * 10 ^ length ys) (digits_value 10 ys * 10 ^ length xs)
digits_are [] ys are others =
    let e : digits_value 10 ys ≡ digits_value 10 ys * 1 = omega arith in
    let none : 0 ≡ 0 * 10 ^ length ys = omega arith in
    subst (λ n. IsOrder (digits_cmp [] ys) n (digits_value 10 ys * 1)) none (subst (λ n. IsOrder (digits_cmp [] ys) 0 n) e (no_digits ys others))
digits_are (c ∷ cs) [] are others =
    let e : digits_value 10 (c ∷ cs) ≡ digits_value 10 (c ∷ cs) * 1 = omega arith in
    let none : 0 ≡ 0 * 10 ^ length (c ∷ cs) = omega arith in
    subst (λ n. IsOrder (digits_cmp (c ∷ cs) []) (digits_value 10 (c ∷ cs) * 1) n) none
    (subst (λ n. IsOrder (digits_cmp (c ∷ cs) []) n 0) e (turned (has_value (c ∷ cs)) 0 (digits_value 10 (c ∷ cs)) (no_digits (c ∷ cs) are)))
digits_are (c ∷ cs) (d ∷ ds) are others =
    subst (λ n. IsOrder (digits_cmp (c ∷ cs) (d ∷ ds)) (digits_value 10 (c ∷ cs) * n) (digits_value 10 (d ∷ ds) * 10 ^ length (c ∷ cs)))
    (sym (pow-succ' 10 (length ds)))
    (subst (λ n. IsOrder (digits_cmp (c ∷ cs) (d ∷ ds)) (digits_value 10 (c ∷ cs) * (10 * 10 ^ length ds)) (digits_value 10 (d ∷ ds) * n))
    (sym (pow-succ' 10 (length cs)))
    (subst (λ n. IsOrder (digits_cmp (c ∷ cs) (d ∷ ds)) (n * (10 * 10 ^ length ds)) (digits_value 10 (d ∷ ds) * (10 * 10 ^ length cs))) (sym (front_is c cs))
    (subst (λ n. IsOrder (digits_cmp (c ∷ cs) (d ∷ ds)) ((digit_value c * 10 ^ length cs + digits_value 10 cs) * (10 * 10 ^ length ds)) (n * (10 * 10 ^ length cs)))
    (sym (front_is d ds)) (go (nat_cmp c d) (is_cmp c d) (digits_are cs ds are.1 others.1)))))
  where
    go : (r : Ordering) → IsOrder r c d → IsOrder (digits_cmp cs ds) (digits_value 10 cs * 10 ^ length ds) (digits_value 10 ds * 10 ^ length cs)
        → IsOrder (ordering_then r (digits_cmp cs ds)) ((digit_value c * 10 ^ length cs + digits_value 10 cs) * (10 * 10 ^ length ds))
        ((digit_value d * 10 ^ length ds + digits_value 10 ds) * (10 * 10 ^ length cs))
    go Less h rest = first_less (digit_value c) (digit_value d) (10 ^ length cs) (10 ^ length ds) (digits_value 10 cs) (digits_value 10 ds)
        (less_digit c d are.0 others.0 h) (digits_value-lt 10 cs are.1) (ten_some (length ds))
    go Equal h rest = subst (λ e. IsOrder (digits_cmp cs ds) ((digit_value c * 10 ^ length cs + digits_value 10 cs) * (10 * 10 ^ length ds))
        ((digit_value e * 10 ^ length ds + digits_value 10 ds) * (10 * 10 ^ length cs))) h
        (first_same (digits_cmp cs ds) (digit_value c) (10 ^ length cs) (10 ^ length ds) (digits_value 10 cs) (digits_value 10 ds) rest)
    go Greater h rest = first_less (digit_value d) (digit_value c) (10 ^ length ds) (10 ^ length cs) (digits_value 10 ds) (digits_value 10 cs)
        (less_digit d c others.0 are.0 h) (digits_value-lt 10 ds others.1) (ten_some (length cs))

-- sizes

-- an order of whole numbers, by one subtraction
abbrev pub IsPlaceOrder : Ordering → ℤ → ℤ → Type 0
IsPlaceOrder r p q = MatchOrdering r ((p +ℤ pos 1) ≤ℤ q) (p ≡ q) ((q +ℤ pos 1) ≤ℤ p)

is_int_cmp : (p q : ℤ) → IsPlaceOrder (int_cmp p q) p q
is_int_cmp p q = go (int_lt p q) (int_lt q p) refl refl
  where
    go : (a b : Bool) → int_lt p q ≡ a → int_lt q p ≡ b → IsPlaceOrder (cond a Less (cond b Greater Equal)) p q
    go true b h k = omega (arith, ints, h)
    go false true h k = omega (arith, ints, k)
    go false false h k = omega (arith, ints, h, k)

-- a difference is by how much it is above 0, or below
pub split : (z w : ℤ) → z +ℤ w ≡ pos 0 → z ≡ pos (excess z) -ℤ pos (excess w)
split (pos m) (pos n) is = omega (arith, ints, is)
split (pos m) (negsuc n) is = omega (arith, ints, is)
split (negsuc m) (pos n) is = omega (arith, ints, is)
split (negsuc m) (negsuc n) is = absurd (omega (arith, ints, is))

-- one of the two is 0
pub one_none : (z w : ℤ) → z +ℤ w ≡ pos 0 → (excess z ≡ 0) ⊎ (excess w ≡ 0)
one_none (pos m) (pos n) is = inr (omega (arith, ints, is))
one_none (pos m) (negsuc n) is = inr refl
one_none (negsuc m) w is = inl refl

pub at_most : (a b d e : ℕ) → a + d ≡ b + e → (d ≡ 0) ⊎ (e ≡ 0) → d ≤ b
at_most a b d e same (inl none) = omega (arith, none)
at_most a b d e same (inr none) = omega (arith, none, same)

-- a number whose point is further left is less
pub further : (u v a b d e : ℕ) → u < 10 ^ a → 10 ^ b ≤ v → a + d ≤ b + e → u * 10 ^ d < v * 10 ^ e
further u v a b d e small large less =
    let first = scaled_less u (10 ^ a) (10 ^ d) small (ten_some d) in
    let one = pow-add 10 a d in
    let two = pow-add 10 b e in
    let most = pow-le-pow_right {n = 10} (omega arith) less in
    let last : 10 ^ b * 10 ^ e ≤ v * 10 ^ e = grind (arith, common_steps, large) in
    omega (arith, first, one, two, most, last)

-- counted at another power of ten
pub moved : (r : Ordering) (u v a b d e : ℕ) → a + d ≡ b + e → d ≤ b → IsOrder r (u * 10 ^ b) (v * 10 ^ a) → nat_cmp (u * 10 ^ d) (v * 10 ^ e) ≡ r
moved r u v a b d e same less h =
    let k = b - d in
    let first : b ≡ d + k = omega (arith, less) in
    let second : a ≡ e + k = omega (arith, less, same) in
    let one : u * 10 ^ b ≡ u * 10 ^ d * 10 ^ k = ap (λ n. u * 10 ^ n) first ∙ ap (λ n. u * n) (pow-add 10 d k) ∙ sym (mul_assoc u (10 ^ d) (10 ^ k)) in
    let two : v * 10 ^ a ≡ v * 10 ^ e * 10 ^ k = ap (λ n. v * 10 ^ n) second ∙ ap (λ n. v * n) (pow-add 10 e k) ∙ sym (mul_assoc v (10 ^ e) (10 ^ k)) in
    sym (scaled_cmp (u * 10 ^ d) (v * 10 ^ e) (10 ^ k) (ten_some k))
    ∙ cmp_is r (u * 10 ^ d * 10 ^ k) (v * 10 ^ e * 10 ^ k) (subst (λ n. IsOrder r n (v * 10 ^ e * 10 ^ k)) one (subst (λ n. IsOrder r (u * 10 ^ b) n) two h))

-- the order of two sizes, by their digits and points
abbrev pub by_points : List ℕ → List ℕ → ℤ → ℤ → Ordering
by_points xs ys p q =
    if is_empty xs || is_empty ys then bool_cmp (not (is_empty xs)) (not (is_empty ys)) else ordering_then (int_cmp p q) (digits_cmp xs ys)

-- two numbers' digits, which don't begin with 0, their points and their powers of ten
pub record AreSizes (xs ys : List ℕ) (p q s t : ℤ) : Type 0 where
  pub are : AllDigits 10 xs
  pub others : AllDigits 10 ys
  pub begin : begins xs ≡ false
  pub other : begins ys ≡ false
  pub point : p ≡ s +ℤ pos (length xs)
  pub other_point : q ≡ t +ℤ pos (length ys)

zeros_first : (k : ℕ) → 0 * k ≡ 0
zeros_first k = omega arith

some_times : (n k : ℕ) → 0 < n → 0 < n * 10 ^ k
some_times n k some = let one = ten_some k in grind (arith, common_steps, some, one)

pub sizes_are : (xs ys : List ℕ) (p q s t : ℤ) → AreSizes xs ys p q s t
    → nat_cmp (digits_value 10 xs * 10 ^ excess (s -ℤ t)) (digits_value 10 ys * 10 ^ excess (t -ℤ s)) ≡ by_points xs ys p q
sizes_are [] [] p q s t h = cmp_is Equal _ _ (zeros_first (10 ^ excess (s -ℤ t)) ∙ sym (zeros_first (10 ^ excess (t -ℤ s))))
sizes_are [] (d ∷ ds) p q s t h =
    cmp_is Less _ _ (subst (λ n. n < digits_value 10 (d ∷ ds) * 10 ^ excess (t -ℤ s)) (sym (zeros_first (10 ^ excess (s -ℤ t))))
    (some_times (digits_value 10 (d ∷ ds)) (excess (t -ℤ s)) (some_value (d ∷ ds) h.others h.other refl)))
sizes_are (c ∷ cs) [] p q s t h =
    cmp_is Greater _ _ (subst (λ n. n < digits_value 10 (c ∷ cs) * 10 ^ excess (s -ℤ t)) (sym (zeros_first (10 ^ excess (t -ℤ s))))
    (some_times (digits_value 10 (c ∷ cs)) (excess (s -ℤ t)) (some_value (c ∷ cs) h.are h.begin refl)))
sizes_are (c ∷ cs) (d ∷ ds) p q s t h = go (int_cmp p q) (is_int_cmp p q)
  where
    apart : (s -ℤ t) +ℤ (t -ℤ s) ≡ pos 0
    apart = omega (arith, ints)

    go : (r : Ordering) → IsPlaceOrder r p q
        → nat_cmp (digits_value 10 (c ∷ cs) * 10 ^ excess (s -ℤ t)) (digits_value 10 (d ∷ ds) * 10 ^ excess (t -ℤ s))
        ≡ ordering_then r (digits_cmp (c ∷ cs) (d ∷ ds))
    go Less less = cmp_is Less _ _ (further (digits_value 10 (c ∷ cs)) (digits_value 10 (d ∷ ds)) (length (c ∷ cs)) (length ds) (excess (s -ℤ t))
        (excess (t -ℤ s)) (digits_value-lt 10 (c ∷ cs) h.are) (begin_value d ds h.others h.other)
        (let e = split (s -ℤ t) (t -ℤ s) apart in omega (arith, ints, less, e, h.point, h.other_point)))
    go Greater more = cmp_is Greater _ _ (further (digits_value 10 (d ∷ ds)) (digits_value 10 (c ∷ cs)) (length (d ∷ ds)) (length cs) (excess (t -ℤ s))
        (excess (s -ℤ t)) (digits_value-lt 10 (d ∷ ds) h.others) (begin_value c cs h.are h.begin)
        (let e = split (s -ℤ t) (t -ℤ s) apart in omega (arith, ints, more, e, h.point, h.other_point)))
    go Equal same =
        let e = split (s -ℤ t) (t -ℤ s) apart in
        let long : length (c ∷ cs) + excess (s -ℤ t) ≡ length (d ∷ ds) + excess (t -ℤ s) = omega (arith, ints, same, e, h.point, h.other_point) in
        moved (digits_cmp (c ∷ cs) (d ∷ ds)) (digits_value 10 (c ∷ cs)) (digits_value 10 (d ∷ ds)) (length (c ∷ cs)) (length (d ∷ ds))
        (excess (s -ℤ t)) (excess (t -ℤ s)) long
        (at_most (length (c ∷ cs)) (length (d ∷ ds)) (excess (s -ℤ t)) (excess (t -ℤ s)) long (one_none (s -ℤ t) (t -ℤ s) apart))
        (digits_are (c ∷ cs) (d ∷ ds) h.are h.others)

-- signs

same : (a b : Ordering) (p q : ℤ) → IsPlaceOrder a p q → IsPlaceOrder b p q → a ≡ b
same Less Less p q h k = refl
same Less Equal p q h k = absurd (omega (arith, ints, h, k))
same Less Greater p q h k = absurd (omega (arith, ints, h, k))
same Equal Less p q h k = absurd (omega (arith, ints, h, k))
same Equal Equal p q h k = refl
same Equal Greater p q h k = absurd (omega (arith, ints, h, k))
same Greater Less p q h k = absurd (omega (arith, ints, h, k))
same Greater Equal p q h k = absurd (omega (arith, ints, h, k))
same Greater Greater p q h k = refl

int_cmp_is : (r : Ordering) (p q : ℤ) → IsPlaceOrder r p q → int_cmp p q ≡ r
int_cmp_is r p q h = same (int_cmp p q) r p q (is_int_cmp p q) h

-- two numbers from 0 on, and two below 0
above : (r : Ordering) (m n : ℕ) → IsOrder r m n → IsPlaceOrder r (pos m) (pos n)
above Less m n h = omega (arith, ints, h)
above Equal m n h = ap pos h
above Greater m n h = omega (arith, ints, h)

below : (r : Ordering) (m n : ℕ) → IsOrder r n m → IsPlaceOrder r (neg_ℤ (pos m)) (neg_ℤ (pos n))
below Less m n h = omega (arith, ints, h)
below Equal m n h = ap (λ k. neg_ℤ (pos k)) (sym h)
below Greater m n h = omega (arith, ints, h)

-- the order of two numbers, by their signs and sizes
pub signed_cmp : (a b : Bool) (m n : ℕ) → (a ≡ true → 0 < m) → (b ≡ true → 0 < n)
    → int_cmp (signed a m) (signed b n) ≡ ordering_then (bool_cmp b a) (if a then nat_cmp n m else nat_cmp m n)
signed_cmp false false m n p q = int_cmp_is (nat_cmp m n) (pos m) (pos n) (above (nat_cmp m n) m n (is_cmp m n))
signed_cmp true true m n p q = int_cmp_is (nat_cmp n m) (neg_ℤ (pos m)) (neg_ℤ (pos n)) (below (nat_cmp n m) m n (is_cmp n m))
signed_cmp true false m n p q = int_cmp_is Less (neg_ℤ (pos m)) (pos n) (let some = p refl in omega (arith, ints, some))
signed_cmp false true m n p q = int_cmp_is Greater (pos m) (neg_ℤ (pos n)) (let some = q refl in omega (arith, ints, some))

-- a text's whole number, by its digits from the first that isn't 0, and its sign, which 0 has not
abbrev pub first_digits : List ℕ → List ℕ
first_digits text = digits_from_first (parts_of text)

abbrev pub is_below_zero : List ℕ → Bool
is_below_zero text = is_negative text && not (is_empty (first_digits text))

unsigned_zero : (b : Bool) (ds : List ℕ) → signed b (digits_value 10 ds) ≡ signed (b && not (is_empty ds)) (digits_value 10 ds)
unsigned_zero false ds = refl
unsigned_zero true [] = refl
unsigned_zero true (d ∷ ds) = refl

whole_is : (text : List ℕ) → coefficient_of text ≡ signed (is_below_zero text) (digits_value 10 (first_digits text))
whole_is text = ap (signed (is_negative text)) (sym (after_value ((parts_of text).whole ++ (parts_of text).fraction)))
    ∙ unsigned_zero (is_negative text) (first_digits text)

are_digits : (text : List ℕ) → AllDigits 10 (first_digits text)
are_digits text = after_digits ((parts_of text).whole ++ (parts_of text).fraction) (joined_digits (parts_of text).whole (parts_of text).fraction
    (scanned_whole (after_sign text)) (scanned_fraction (after_sign text)))

begin_digits : (text : List ℕ) → begins (first_digits text) ≡ false
begin_digits text = after_begins ((parts_of text).whole ++ (parts_of text).fraction)

-- a number below 0 is not 0
not_zero_below : (b : Bool) (ds : List ℕ) → AllDigits 10 ds → begins ds ≡ false → (b && not (is_empty ds)) ≡ true → 0 < digits_value 10 ds
not_zero_below true [] are first is = cc
not_zero_below true (d ∷ ds) are first is = some_value (d ∷ ds) are first refl
not_zero_below false ds are first is = cc

pub scaled : (s t : List ℕ) → units_of s t ≡ signed (is_below_zero s) (digits_value 10 (first_digits s) * 10 ^ excess (scale_of s -ℤ scale_of t))
scaled s t = ap (λ z. z *ℤ pos (10 ^ excess (scale_of s -ℤ scale_of t))) (whole_is s)
    ∙ times (is_below_zero s) (digits_value 10 (first_digits s)) (10 ^ excess (scale_of s -ℤ scale_of t))

pub size_below : (s t : List ℕ) → is_below_zero s ≡ true → 0 < digits_value 10 (first_digits s) * 10 ^ excess (scale_of s -ℤ scale_of t)
size_below s t is = some_times (digits_value 10 (first_digits s)) (excess (scale_of s -ℤ scale_of t))
    (not_zero_below (is_negative s) (first_digits s) (are_digits s) (begin_digits s) is)

sizes_of : (s t : List ℕ) → AreSizes (first_digits s) (first_digits t) (point_of (parts_of s)) (point_of (parts_of t)) (scale_of s) (scale_of t)
sizes_of s t = record {
  are = are_digits s;
  others = are_digits t;
  begin = begin_digits s;
  other = begin_digits t;
  point = refl;
  other_point = refl;
}

sizes_by : (s t : List ℕ) → nat_cmp (digits_value 10 (first_digits s) * 10 ^ excess (scale_of s -ℤ scale_of t))
    (digits_value 10 (first_digits t) * 10 ^ excess (scale_of t -ℤ scale_of s))
    ≡ by_points (first_digits s) (first_digits t) (point_of (parts_of s)) (point_of (parts_of t))
sizes_by s t = sizes_are (first_digits s) (first_digits t) (point_of (parts_of s)) (point_of (parts_of t)) (scale_of s) (scale_of t) (sizes_of s t)

-- the order of two numbers' texts, by their digits, points and signs
texts_cmp : (s t : List ℕ) → numbers_cmp s t ≡ ordering_then (bool_cmp (is_below_zero t) (is_below_zero s))
    (if is_below_zero s then by_points (first_digits t) (first_digits s) (point_of (parts_of t)) (point_of (parts_of s))
    else by_points (first_digits s) (first_digits t) (point_of (parts_of s)) (point_of (parts_of t)))
unfolding numbers_cmp
texts_cmp s t =
    ap₂ int_cmp (scaled s t) (scaled t s)
    ∙ signed_cmp (is_below_zero s) (is_below_zero t) (digits_value 10 (first_digits s) * 10 ^ excess (scale_of s -ℤ scale_of t))
    (digits_value 10 (first_digits t) * 10 ^ excess (scale_of t -ℤ scale_of s)) (size_below s t) (size_below t s)
    ∙ ap₂ (λ x y. ordering_then (bool_cmp (is_below_zero t) (is_below_zero s)) (if is_below_zero s then x else y)) (sizes_by t s) (sizes_by s t)

-- the order of two numbers that have these digits, points and signs
found_cmp : (s t : List ℕ) (a b : Decimal) → IsDecimalOf s a → IsDecimalOf t b → decimals_cmp a b ≡ numbers_cmp s t
found_cmp s t a b h k =
    ap₂ (λ x y. ordering_then (bool_cmp y x) (if x then sizes_cmp b a else sizes_cmp a b)) h.sign k.sign
    ∙ ap₂ (λ x y. ordering_then (bool_cmp (is_below_zero t) (is_below_zero s)) (if is_below_zero s then x else y))
    (ap₂ (λ xs ys. by_points xs ys b.point a.point) k.digits h.digits
    ∙ ap₂ (λ p q. by_points (first_digits t) (first_digits s) p q) k.point h.point)
    (ap₂ (λ xs ys. by_points xs ys a.point b.point) h.digits k.digits
    ∙ ap₂ (λ p q. by_points (first_digits s) (first_digits t) p q) h.point k.point)
    ∙ sym (texts_cmp s t)

-- the order of two texts that are numbers
pub numbers_are : (s t : List ℕ) (p q : Place) (a b : Decimal) → IsPlaceOf s p → IsPlaceOf t q → p ≡ Number a → q ≡ Number b
    → Some (decimals_cmp a b) ≡ double_cmp s t
unfolding double_cmp
numbers_are s t p q a b h k is other =
    let first = subst (IsPlaceOf s) is h in
    let second = subst (IsPlaceOf t) other k in
    ap Some (found_cmp s t a b first.1 second.1) ∙ sym (ap₂ (λ x y. ordered x y (numbers_cmp s t)) first.0 second.0)
