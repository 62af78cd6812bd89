-- Laws of the lexical form of a number.
use Rattle.std.proofs.Common.{◌≡◌, ◌≢◌, ℕ, zero, suc, ◌+◌, ◌*◌, ◌/◌, ◌%◌, ◌^◌, ◌<◌, List, [], ◌∷◌, ◌++◌, length, refl, sym, ap, ◌∙◌, arith}
use Rattle.std.proofs.Common.{append_assoc, length-append, append-nil, add-zero}
use Rattle.std.specs.List.{AllByRecursion}
use Rattle.std.specs.Char.{IsAsciiDigit, digit_value}
use Rattle.std.specs.Str.Parse.{digits_value}
use Rattle.std.proofs.lemmas.Nat.{div_below, div-add-mod', mod_below, pow-add}
use Rattle.std.proofs.lemmas.Int.Digits.{digits_value_push}
use Rattle.std.proofs.lemmas.Str.{digit_value_digit}
use Rattle.std.proofs.Math.Nat.{pow-suc}
use Rattle.csvw_datatype_core.proofs.Counts.{pow_is_pos, tenth}
use Rattle.csvw_datatype_core.specs.LexicalNumbers.{HasNoTrailingZero, AppendsFraction}

digits_pushed : (ds : List ℕ) (c : ℕ) → AllByRecursion IsAsciiDigit ds → IsAsciiDigit c → AllByRecursion IsAsciiDigit (ds ++ (c ∷ []))
digits_pushed [] c h a = (a, tt)
digits_pushed (d ∷ ds) c h a = (h.0, digits_pushed ds c h.1 a)

-- the loop that pushes a fraction of n units: what is left is `rest`, and e places
pub record IsPushing (start out : List ℕ) (n rest weight : ℕ) : Type 0 where
  pub digits : List ℕ
  pub e : ℕ
  pub appended : out ≡ start ++ digits
  pub are_digits : AllByRecursion IsAsciiDigit digits
  pub places : length digits + e ≡ 18
  pub next : weight ≡ 10 ^ e / 10
  pub value : digits_value 10 digits * 10 ^ e + rest ≡ n
  pub small : rest < 10 ^ e
  pub last : (rest ≡ 0) → HasNoTrailingZero digits

pub pushing_begins : (start : List ℕ) (n : ℕ) → 0 < n → n < 10 ^ 18 → IsPushing start start n n (10 ^ 17)
pushing_begins start n h l = record {
  digits = [];
  e = 18;
  appended = sym (append-nil start);
  are_digits = tt;
  places = refl;
  next = refl;
  value = omega arith;
  small = l;
  last = λ z. absurd (omega arith);
}

push_value : (v p d r rest n : ℕ) → v * (p * 10) + rest ≡ n → rest ≡ d * p + r → (v * 10 + d) * p + r ≡ n
push_value v p d r rest n e s = omega arith

digit_below : (rest p : ℕ) → 0 < p → rest < p * 10 → rest / p < 10
digit_below rest p h l = div_below rest p 10 h (omega arith)

last_pushed : (ds : List ℕ) (c : ℕ) → c ≢ 48 → HasNoTrailingZero (ds ++ (c ∷ []))
last_pushed [] c h = h
last_pushed (d ∷ []) c h = h
last_pushed (d ∷ e ∷ ds) c h = last_pushed (e ∷ ds) c h

regroup : (v p q : ℕ) → v * (p * q) ≡ v * q * p
regroup v p q = omega arith

weight_at : (rest w e : ℕ) → w ≡ 10 ^ e / 10 → rest < 10 ^ e → 0 < rest → (0 < w) × (rest / w < 10)
weight_at rest w zero weight small h = absurd (omega arith)
weight_at rest w (suc e) weight small h =
    let is : w ≡ 10 ^ e = weight ∙ tenth e in
    let pos : 0 < w = rw is (pow_is_pos e) in
    (pos, digit_below rest w pos (rw (is, ← pow-suc 10 e) small))

no_zero : (rest p : ℕ) → 0 < rest → rest % p ≡ 0 → rest / p ≡ 0 → ⊥
no_zero rest p h r q = let e = div-add-mod' rest p in let z : rest / p * p ≡ 0 = ap (λ x. x * p) q ∙ omega arith in omega (arith, e, z, r)

step_at : (start out ds : List ℕ) (n rest w c e : ℕ) → out ≡ start ++ ds → AllByRecursion IsAsciiDigit ds → 0 < rest → c ≡ 48 + rest / w
    → length ds + e ≡ 18 → w ≡ 10 ^ e / 10 → digits_value 10 ds * 10 ^ e + rest ≡ n → rest < 10 ^ e → IsPushing start (out ++ (c ∷ [])) n (rest % w) (w / 10)
step_at start out ds n rest w c zero appended are h k places weight value small = absurd (omega arith)
step_at start out ds n rest w c (suc e) appended are h k places weight value small =
    let is : w ≡ 10 ^ e = weight ∙ tenth e in
    let pos : 0 < w = rw is (pow_is_pos e) in
    let below : rest < w * 10 = rw (is, ← pow-suc 10 e) small in
    let digit : rest / w < 10 = digit_below rest w pos below in
    let ascii : IsAsciiDigit c = rw k (omega arith, omega arith) in
    let split : rest ≡ rest / w * w + rest % w = sym (div-add-mod' rest w) in
    let d : digit_value c ≡ rest / w = omega (arith, digit_value_digit c ascii, k) in
    let whole : digits_value 10 ds * (w * 10) + rest ≡ n = rw (is, ← pow-suc 10 e) value in
    let v : digits_value 10 (ds ++ (c ∷ [])) ≡ digits_value 10 ds * 10 + rest / w = digits_value_push 10 ds c ∙ ap (λ x. digits_value 10 ds * 10 + x) d in
    record {
      digits = ds ++ (c ∷ []);
      e = e;
      appended = ap (λ x. x ++ (c ∷ [])) appended ∙ append_assoc start ds (c ∷ []);
      are_digits = digits_pushed ds c are ascii;
      places = omega (arith, length-append ds (c ∷ []));
      next = ap (λ x. x / 10) is;
      value = ap (λ x. x * 10 ^ e + rest % w) v ∙ ap (λ x. (digits_value 10 ds * 10 + rest / w) * x + rest % w) (sym is)
          ∙ push_value (digits_value 10 ds) w (rest / w) (rest % w) rest n whole split;
      small = rw (← is) (mod_below rest w pos);
      last = λ z. last_pushed ds c (λ e. no_zero rest w h z (omega (arith, k, e)));
    }

pub pushing_step : (start out : List ℕ) (n rest w c : ℕ) → IsPushing start out n rest w → 0 < rest → c ≡ 48 + rest / w
    → IsPushing start (out ++ (c ∷ [])) n (rest % w) (w / 10)
pushing_step start out n rest w c p h k = step_at start out p.digits n rest w c p.e p.appended p.are_digits h k p.places p.next p.value p.small

-- while something is left, the weight isn't 0
pub pushing_weight : (start out : List ℕ) (n rest w : ℕ) → IsPushing start out n rest w → 0 < rest → (0 < w) × (rest / w < 10)
pushing_weight start out n rest w p h = weight_at rest w p.e p.next p.small h

ends_value : (v l e n : ℕ) → l + e ≡ 18 → v * 10 ^ e + 0 ≡ n → v * 10 ^ 18 ≡ n * 10 ^ l
ends_value v l e n p h =
    let a : 10 ^ 18 ≡ 10 ^ l * 10 ^ e = ap (λ k. 10 ^ k) (sym p) ∙ pow-add 10 l e in
    ap (λ x. v * x) a ∙ regroup v (10 ^ l) (10 ^ e) ∙ ap (λ x. x * 10 ^ l) (sym (add-zero _) ∙ h)

pub pushing_ends : (start out : List ℕ) (n rest w : ℕ) → IsPushing start out n rest w → rest ≡ 0 → AppendsFraction start out n
pushing_ends start out n rest w p h = record {
  digits = p.digits;
  appended = p.appended;
  are_digits = p.are_digits;
  no_trailing_zero = p.last h;
  value = ends_value _ _ p.e n p.places (ap (λ r. digits_value 10 p.digits * 10 ^ p.e + r) (sym h) ∙ p.value);
}
