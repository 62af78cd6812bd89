-- If the rest of a fraction is multiplied by ten after each digit, its digits are those of falling weights.
use Rattle.std.proofs.Common.{◌≡◌, ℕ, zero, suc, ◌+◌, ◌-◌, ◌*◌, ◌/◌, ◌%◌, ◌^◌, ◌<◌, List, [], ◌∷◌, ◌++◌, length, refl, sym, ap, ◌∙◌, arith}
use Rattle.std.proofs.Common.{length-append, mul_assoc, mul-le-mul_right}
use Rattle.std.proofs.lemmas.Nat.{div-mul-add, mod-mul-add, div-add-mod', mod_below, pow-add}
use Rattle.std.proofs.Math.Nat.{pow-suc}
use Rattle.csvw_datatype_core.proofs.Counts.{pow_is_pos, tenth}
use Rattle.csvw_datatype_core.specs.LexicalNumbers.{AppendsFraction}
use Rattle.csvw_datatype_core.proofs.LexicalLemmas.{IsPushing, pushing_begins, pushing_weight, pushing_step, pushing_ends}

-- the loop after k digits: what it holds is what is left, with k zeros
pub record IsScaled (start out : List ℕ) (n scaled : ℕ) : Type 0 where
  pub left : ℕ
  pub weight : ℕ
  pub k : ℕ
  pub pushing : IsPushing start out n left weight
  pub pushed : length out ≡ length start + k
  pub is_scaled : scaled ≡ left * 10 ^ k

pub scaled_begins : (start : List ℕ) (n : ℕ) → 0 < n → n < 10 ^ 18 → IsScaled start start n n
scaled_begins start n h l = record { left = n; weight = 10 ^ 17; k = 0; pushing = pushing_begins start n h l; pushed = omega arith; is_scaled = omega arith }

regroup : (a b p : ℕ) → a * b * p ≡ a * (b * p)
regroup a b p = mul_assoc a b p

-- dividing the same multiples
parts : (r w p : ℕ) → r * p ≡ r / w * (w * p) + r % w * p
parts r w p = ap (λ x. x * p) (sym (div-add-mod' r w)) ∙ omega (arith, regroup (r / w) w p)

less_times : (a b p : ℕ) → 0 < p → a < b → a * p < b * p
less_times a b p k h = omega (arith, k, mul-le-mul_right p h)

under : (r w p : ℕ) → 0 < w → 0 < p → r % w * p < w * p
under r w p h k = less_times (r % w) w p k (mod_below r w h)

div_scaled : (r w p : ℕ) → 0 < w → 0 < p → r * p / (w * p) ≡ r / w
div_scaled r w p h k = ap (λ x. x / (w * p)) (parts r w p) ∙ div-mul-add (r / w) (w * p) (r % w * p) (under r w p h k)

mod_scaled : (r w p : ℕ) → 0 < w → 0 < p → r * p % (w * p) ≡ r % w * p
mod_scaled r w p h k = ap (λ x. x % (w * p)) (parts r w p) ∙ mod-mul-add (r / w) (w * p) (r % w * p) (under r w p h k)

full_weight : (r w k e : ℕ) → w ≡ 10 ^ e / 10 → k + e ≡ 18 → r < 10 ^ e → 0 < r → w * 10 ^ k ≡ 10 ^ 17
full_weight r w k zero weight places small h = absurd (omega arith)
full_weight r w k (suc e) weight places small h =
    let sum : e + k ≡ 17 = omega (arith, places) in
    ap (λ x. x * 10 ^ k) (weight ∙ tenth e) ∙ sym (pow-add 10 e k) ∙ ap (λ x. 10 ^ x) sum

digits_count : (start out ds : List ℕ) (k : ℕ) → out ≡ start ++ ds → length out ≡ length start + k → length ds ≡ k
digits_count start out ds k e h = omega (arith, length-append start ds, ap (λ (l : List ℕ). length l) e, h)

weight_is : (start out : List ℕ) (n s : ℕ) (h : IsScaled start out n s) → 0 < h.left → h.weight * 10 ^ h.k ≡ 10 ^ 17
weight_is start out n s h p =
    let count = digits_count start out h.pushing.digits h.k h.pushing.appended h.pushed in
    full_weight h.left h.weight h.k h.pushing.e h.pushing.next (omega (arith, count, h.pushing.places)) h.pushing.small p

left_some : (s left p : ℕ) → s ≡ left * p → 0 < s → 0 < left
left_some s zero p e h = absurd (omega (arith, e, h))
left_some s (suc left) p e h = omega arith

digit_is : (start out : List ℕ) (n s : ℕ) (h : IsScaled start out n s) → 0 < s → s / 10 ^ 17 ≡ h.left / h.weight
digit_is start out n s h p =
    let some = left_some s h.left (10 ^ h.k) h.is_scaled p in
    let pos = (pushing_weight _ _ _ _ _ h.pushing some).0 in
    ap (λ x. x / 10 ^ 17) h.is_scaled ∙ ap (λ x. h.left * 10 ^ h.k / x) (sym (weight_is start out n s h some))
    ∙ div_scaled h.left h.weight (10 ^ h.k) pos (pow_is_pos h.k)

rest_is : (start out : List ℕ) (n s : ℕ) (h : IsScaled start out n s) → 0 < s → s % 10 ^ 17 * 10 ≡ h.left % h.weight * 10 ^ (suc h.k)
rest_is start out n s h p =
    let some = left_some s h.left (10 ^ h.k) h.is_scaled p in
    let pos = (pushing_weight _ _ _ _ _ h.pushing some).0 in
    let remains : s % 10 ^ 17 ≡ h.left % h.weight * 10 ^ h.k =
    ap (λ x. x % 10 ^ 17) h.is_scaled ∙ ap (λ x. h.left * 10 ^ h.k % x) (sym (weight_is start out n s h some))
    ∙ mod_scaled h.left h.weight (10 ^ h.k) pos (pow_is_pos h.k) in
    ap (λ x. x * 10) remains ∙ regroup (h.left % h.weight) (10 ^ h.k) 10 ∙ ap (λ x. h.left % h.weight * x) (sym (pow-suc 10 h.k))

pub digit_below : (start out : List ℕ) (n s : ℕ) (h : IsScaled start out n s) → 0 < s → s / 10 ^ 17 < 10
digit_below start out n s h p =
    let some = left_some s h.left (10 ^ h.k) h.is_scaled p in
    omega (arith, digit_is start out n s h p, (pushing_weight _ _ _ _ _ h.pushing some).1)

-- there are no more than 18 digits
pub digits_left : (start out : List ℕ) (n s : ℕ) (h : IsScaled start out n s) → 0 < s → length out < length start + 18
digits_left start out n s h p =
    let some = left_some s h.left (10 ^ h.k) h.is_scaled p in
    let count = digits_count start out h.pushing.digits h.k h.pushing.appended h.pushed in
    some_place h.left h.pushing.e h.k (length start) (length out) some h.pushing.small (omega (arith, count, h.pushing.places)) h.pushed
  where
    some_place : (r e k a b : ℕ) → 0 < r → r < 10 ^ e → k + e ≡ 18 → b ≡ a + k → b < a + 18
    some_place r zero k a b h l s d = absurd (omega arith)
    some_place r (suc e) k a b h l s d = omega arith

pub fewer_left : (start out new : List ℕ) (n s c : ℕ) → IsScaled start out n s → 0 < s → new ≡ out ++ (c ∷ [])
    → length start + 18 - length new < length start + 18 - length out
fewer_left start out new n s c h p e = omega (arith, digits_left start out n s h p, ap (λ (l : List ℕ). length l) e, length-append out (c ∷ []))

pub scaled_step : (start out : List ℕ) (n s c : ℕ) → IsScaled start out n s → 0 < s → c ≡ 48 + s / 10 ^ 17
    → IsScaled start (out ++ (c ∷ [])) n (s % 10 ^ 17 * 10)
scaled_step start out n s c h p e =
    let some = left_some s h.left (10 ^ h.k) h.is_scaled p in
    record {
      left = h.left % h.weight;
      weight = h.weight / 10;
      k = suc h.k;
      pushing = pushing_step start out n h.left h.weight c h.pushing some (e ∙ ap (λ x. 48 + x) (digit_is start out n s h p));
      pushed = omega (arith, length-append out (c ∷ []), h.pushed);
      is_scaled = rest_is start out n s h p;
    }

pub scaled_ends : (start out : List ℕ) (n s : ℕ) → IsScaled start out n s → s ≡ 0 → AppendsFraction start out n
scaled_ends start out n s h z = pushing_ends start out n h.left h.weight h.pushing (none h.left (10 ^ h.k) (sym h.is_scaled ∙ z) (pow_is_pos h.k))
  where
    none : (l p : ℕ) → l * p ≡ 0 → 0 < p → l ≡ 0
    none zero p e h = refl
    none (suc l) p e h = absurd (omega arith)
