-- The count of a number, from the digits that the pass keeps.
use Rattle.std.proofs.Common.{◌≡◌, ℕ, suc, ◌+◌, ◌-◌, ◌*◌, ◌/◌, ◌%◌, ◌^◌, ◌≤◌, ◌<◌, List, [], ◌∷◌, length, refl, sym, ap, subst, ◌∙◌, Bool, true}
use Rattle.std.proofs.Common.{false, arith, ◌&&◌, ◌||◌, not, ◌==◌, mul_assoc, lit≤, zero, mul-le-mul_right}
use Rattle.std.specs.List.{AllByRecursion}
use Rattle.std.specs.Char.{IsAsciiDigit, digit_value}
use Rattle.std.specs.Str.Parse.{digits_value, digits_value_after}
use Rattle.std.proofs.lemmas.Str.{digit_value_digit}
use Rattle.std.proofs.lemmas.Bool.Decides.{nat_tests}
use Rattle.std.proofs.lemmas.Nat.{mod-mul-add}
use Rattle.std.proofs.Math.Nat.{pow-suc, one-le-pow, mul-div_cancel, mul-mod_left}
use Rattle.csvw_datatype_core.specs.declared.number.Scan.{Scan}
use Rattle.csvw_datatype_core.specs.Step.{push_fraction}
use Rattle.csvw_datatype_core.proofs.Spelled.{fractions}

regroup : (n v p q r x y z : ℕ) → x ≡ (n * 10 + v) * p + r → y ≡ v * p + r → q ≡ 10 * p → z ≡ n * q + y → x ≡ z
regroup n v p q r x y z a b e h = rw (a, h, b, e) (omega (arith, mul_assoc n 10 p))

pub pow_is_pos : (k : ℕ) → 0 < 10 ^ k
pow_is_pos k = one-le-pow k 10 (lit≤ tt)

below : (d p v : ℕ) → d ≤ 9 → v < p → d * p + v < p * 10
below d p v h l = omega (arith, mul-le-mul_right p h)

zero_digits : (d p v : ℕ) → d * p + v ≡ 0 → 0 < p → (d ≡ 0) × (v ≡ 0)
zero_digits zero p v h l = (refl, omega arith)
zero_digits (suc d) p v h l = absurd (omega arith)

past_fraction : (s : Scan) (d : ℕ) → s.weight ≡ 0 → (push_fraction s d).fraction ≡ s.fraction
past_fraction s d w = rw w (omega arith)

past_value : (w d p v : ℕ) → w ≡ 0 → ((w == 0) && not (d == 0)) ≡ false → v ≡ 0 → d * p + v ≡ 0
past_value w zero p v e h z = omega arith
past_value w (suc d) p v e h z = absurd (grind (arith, nat_tests))

past_flag : (t : Bool) (w d : ℕ) → d ≡ 0 → (t || ((w == 0) && not (d == 0))) ≡ t
past_flag t w d e = grind (arith, nat_tests)

-- the value of more digits
pub value-after : (n : ℕ) (ds : List ℕ) → digits_value_after 10 n ds ≡ n * 10 ^ length ds + digits_value 10 ds
value-after n [] = omega arith
value-after n (d ∷ ds) =
    let v = digit_value d in
    let a : digits_value_after 10 (n * 10 + v) ds ≡ (n * 10 + v) * 10 ^ length ds + digits_value 10 ds = value-after (n * 10 + v) ds in
    let b : digits_value 10 (d ∷ ds) ≡ v * 10 ^ length ds + digits_value 10 ds = value-after (0 * 10 + v) ds ∙ omega arith in
    let p : 10 ^ suc (length ds) ≡ 10 * 10 ^ length ds = pow-suc 10 (length ds) ∙ omega arith in
    regroup n v (10 ^ length ds) (10 ^ suc (length ds)) (digits_value 10 ds) _ _ _ a b p refl

-- the value of a digit and more
pub value-cons : (c : ℕ) (cs : List ℕ) → IsAsciiDigit c → digits_value 10 (c ∷ cs) ≡ (c - 48) * 10 ^ length cs + digits_value 10 cs
value-cons c cs h =
    let e : 0 * 10 + digit_value c ≡ c - 48 = omega (arith, digit_value_digit c h) in
    value-after (0 * 10 + digit_value c) cs ∙ ap (λ v. v * 10 ^ length cs + digits_value 10 cs) e

-- digits are below the power of ten of their number
pub value-below : (ds : List ℕ) → AllByRecursion IsAsciiDigit ds → digits_value 10 ds < 10 ^ length ds
value-below [] h = omega arith
value-below (c ∷ cs) h =
    rw (value-cons c cs h.0, pow-suc 10 (length cs)) (below _ _ _ (omega (arith, h.0)) (value-below cs h.1))

or_false : (a b : Bool) → (a || b) ≡ false → (a ≡ false) × (b ≡ false)
or_false true b h = cc
or_false false b h = (refl, h)

-- ten to the power e, where it has e places left
abbrev pub HasPlaces : Scan → ℕ → Type 0
HasPlaces s e = s.weight ≡ 10 ^ e / 10

pub tenth : (e : ℕ) → 10 ^ suc e / 10 ≡ 10 ^ e
tenth e = ap (λ x. x / 10) (pow-suc 10 e) ∙ mul-div_cancel (10 ^ e) (lit≤ tt)

-- past the last place every digit has to be 0
past : (s : Scan) (ds : List ℕ) → s.weight ≡ 0 → AllByRecursion IsAsciiDigit ds
    → ((fractions s ds).fraction ≡ s.fraction) × ((fractions s ds).too_long ≡ false → (s.too_long ≡ false) × (digits_value 10 ds ≡ 0))
    × (digits_value 10 ds ≡ 0 → (fractions s ds).too_long ≡ s.too_long)
past s [] w h = (refl, λ t. (t, refl), λ _. refl)
past s (c ∷ cs) w h =
    let d = c - 48 in
    let rest = past (push_fraction s d) cs (rw w refl) h.1 in (
      rest.0 ∙ past_fraction s d w,
      λ t. let b = rest.1 t in let o = or_false s.too_long _ b.0 in (o.0, value-cons c cs h.0 ∙ past_value s.weight d _ _ w o.1 b.1),
      λ v. let zeros = zero_digits d _ _ (sym (value-cons c cs h.0) ∙ v) (pow_is_pos (length cs)) in rest.2 zeros.1 ∙ past_flag s.too_long s.weight d zeros.0,
    )

count_step : (o f v w p x : ℕ) → o * p ≡ (f + v * w) * p + x * w → o * (p * 10) ≡ f * (p * 10) + (v * p + x) * (w * 10)
count_step o f v w p x h = omega arith

-- what the pass holds of the fraction is its count, where it isn't too long
pub fraction_count : (e : ℕ) (s : Scan) (ds : List ℕ) → HasPlaces s e → AllByRecursion IsAsciiDigit ds → (fractions s ds).too_long ≡ false
    → (fractions s ds).fraction * 10 ^ length ds ≡ s.fraction * 10 ^ length ds + digits_value 10 ds * 10 ^ e
fraction_count e s [] w h t = omega arith
fraction_count zero s (c ∷ cs) w h t =
    let p = past s (c ∷ cs) w h in
    ap (λ f. f * 10 ^ length (c ∷ cs)) p.0 ∙ sym (ap (λ v. s.fraction * 10 ^ length (c ∷ cs) + v * 1) (p.1 t).1 ∙ omega arith)
fraction_count (suc e) s (c ∷ cs) w h t =
    let d = c - 48 in
    let weight : s.weight ≡ 10 ^ e = w ∙ tenth e in
    let rest = fraction_count e (push_fraction s d) cs (ap (λ x. x / 10) weight) h.1 t in
    let P : ℕ → Type 0 = λ x. (fractions (push_fraction s d) cs).fraction * 10 ^ length cs
    ≡ (s.fraction + d * x) * 10 ^ length cs + digits_value 10 cs * 10 ^ e in
    rw (value-cons c cs h.0, pow-suc 10 (length cs), pow-suc 10 e)
    (count_step _ s.fraction d (10 ^ e) (10 ^ length cs) (digits_value 10 cs) (subst P weight rest))

none_step : (x y v w p r : ℕ) → x * (p * 10) ≡ y * (p * 10) + (v * p + r) * (w * 10) → x * p ≡ (y + v * w) * p + r * w
none_step x y v w p r h = omega arith

-- x * p is no multiple of p and a part of p
no_part : (x y p r : ℕ) → x * p ≡ y * p + r → r < p → r ≡ 0
no_part x y p r h l =
    let a : (y * p + r) % p ≡ r = mod-mul-add y p r l in
    let b : x * p % p ≡ 0 = mul-mod_left x p in
    sym a ∙ ap (λ z. z % p) (sym h) ∙ b

or_true_weight : (t : Bool) (w v p : ℕ) → t ≡ false → w ≡ p → 0 < p → (t || ((w == 0) && not (v == 0))) ≡ false
or_true_weight t w v p e h l = grind (arith, nat_tests)

-- where it is too long, no count of the places that are left is the number
pub no_count : (e : ℕ) (s : Scan) (ds : List ℕ) → s.too_long ≡ false → HasPlaces s e → AllByRecursion IsAsciiDigit ds
    → (fractions s ds).too_long ≡ true → (x y : ℕ) → x * 10 ^ length ds ≡ y * 10 ^ length ds + digits_value 10 ds * 10 ^ e → ⊥
no_count e s [] f w h t x y q = cc
no_count zero s (c ∷ cs) f w h t x y q =
    let ds = c ∷ cs in
    let p = past s ds w h in
    let zero_value = no_part x y (10 ^ length ds) (digits_value 10 ds) (q ∙ omega arith) (value-below ds h) in
    let flag : (fractions s ds).too_long ≡ false = p.2 zero_value ∙ f in
    cc
no_count (suc e) s (c ∷ cs) f w h t x y q =
    let d = c - 48 in
    let weight : s.weight ≡ 10 ^ e = w ∙ tenth e in
    let q' = rw (value-cons c cs h.0, pow-suc 10 (length cs), pow-suc 10 e) at q in
    no_count e (push_fraction s d) cs (or_true_weight s.too_long s.weight d (10 ^ e) f weight (pow_is_pos e)) (ap (λ x. x / 10) weight) h.1 t x (y + d * 10 ^ e)
    (none_step x y d (10 ^ e) (10 ^ length cs) (digits_value 10 cs) q')
