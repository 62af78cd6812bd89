-- The number of a text by its digits without the zeros around them, and the texts that are one number.
use Rattle.std.proofs.Common.{◌≡◌, ◌∙◌, ℕ, zero, suc, ◌+◌, ◌-◌, ◌*◌, ◌^◌, ◌<◌, true, false, Bool, List, [], ◌++◌, length}
use Rattle.std.proofs.Common.{arith, ap, ap₂, refl, sym, if◌then◌else◌, ℤ, pos, negsuc, neg_ℤ, ◌+ℤ◌, ◌-ℤ◌, ◌*ℤ◌}
use Rattle.std.specs.Str.Parse.{digits_value}
use Rattle.std.proofs.lemmas.Int.{ints}
use Rattle.std.proofs.lemmas.Nat.{pow-add}
use Rattle.std.proofs.Math.IntN.{negsuc-*ℤ-pos, pos-*ℤ-pos}
use Rattle.std.proofs.Math.Nat.{mul_assoc, mul_right_comm, one-le-pow}
use Rattle.std.proofs.lemmas.Grind.{common_steps}
use Rattle.csvw_double.specs.Doubles.{after_sign, digits_from_first, digits_of, is_negative, is_within, parts_of, point_of}
use Rattle.csvw_double.specs.Forms.{number_form}
use Rattle.csvw_double.specs.Values.{IsOneNumber, coefficient_of, scale_of}
use Rattle.csvw_double.proofs.DigitLemmas.{scanned_fraction, scanned_whole, trimmed}
use Rattle.csvw_double.proofs.FormLemmas.{joined_digits}
use Rattle.csvw_double.proofs.StayLemmas.{IsTrimmed}
use Rattle.csvw_double.proofs.ValueLemmas.{after_value, before_length, before_value, last_value, same_number}

-- how many zeros end the digits of a text
abbrev pub zeros_of : List ℕ → ℕ
zeros_of text = length (digits_from_first (parts_of text)) - length (digits_of (parts_of text))

abbrev pub signed : Bool → ℕ → ℤ
signed negative n = if negative then neg_ℤ (pos n) else pos n

-- a text's whole number, and the place of its point, by its digits
pub value_is : (text : List ℕ) → coefficient_of text ≡ signed (is_negative text) (digits_value 10 (digits_of (parts_of text)) * 10 ^ zeros_of text)
value_is text = ap (signed (is_negative text)) (sym (after_value ((parts_of text).whole ++ (parts_of text).fraction))
    ∙ before_value (digits_from_first (parts_of text)))

pub point_is : (text : List ℕ) → point_of (parts_of text) ≡ scale_of text +ℤ pos (zeros_of text + length (digits_of (parts_of text)))
point_is text =
    let less = before_length (digits_from_first (parts_of text)) in
    let long : length (digits_from_first (parts_of text)) ≡ zeros_of text + length (digits_of (parts_of text)) = omega (arith, less) in
    ap (λ n. scale_of text +ℤ pos n) long

pub trimmed_digits : (text : List ℕ) → 0 < length (digits_of (parts_of text)) → IsTrimmed (digits_of (parts_of text))
trimmed_digits text some =
    let parts = parts_of text in
    trimmed (parts.whole ++ parts.fraction) (joined_digits parts.whole parts.fraction (scanned_whole (after_sign text)) (scanned_fraction
    (after_sign text))) some

pub times : (negative : Bool) (m p : ℕ) → signed negative m *ℤ pos p ≡ signed negative (m * p)
times false m p = pos-*ℤ-pos m p
times true zero p = omega (arith, ints)
times true (suc m) p = negsuc-*ℤ-pos m p

pub record IsSigned (a b : Bool) (m n : ℕ) : Type 0 where
  pub sign : a ≡ b
  pub size : m ≡ n

pub same_signed : (a b : Bool) (m n : ℕ) → 0 < m → signed a m ≡ signed b n → IsSigned a b m n
same_signed true true m n some same = record { sign = refl; size = omega (arith, ints, same) }
same_signed false false m n some same = record { sign = refl; size = omega (arith, ints, same) }
same_signed true false m n some same = absurd (omega (arith, ints, same, some))
same_signed false true m n some same = absurd (omega (arith, ints, same, some))

-- what is known of a number's text
pub record IsNumberText (text form : List ℕ) : Type 0 where
  pub form_is : form ≡ number_form (is_negative text) (digits_of (parts_of text)) (point_of (parts_of text))
  pub near : is_within (point_of (parts_of text) -ℤ pos 1) ≡ true

-- texts without digits but 0 write one number
abbrev digit_count : List ℕ → ℕ
digit_count text = length (digits_of (parts_of text))

pub zero_value : (text : List ℕ) → digits_of (parts_of text) ≡ [] → coefficient_of text ≡ pos 0
zero_value text none = value_is text ∙ ap (λ ds. signed (is_negative text) (digits_value 10 ds * 10 ^ zeros_of text)) none
    ∙ go (is_negative text) (10 ^ zeros_of text)
  where
    go : (b : Bool) (p : ℕ) → signed b (0 * p) ≡ pos 0
    go true p = omega (arith, ints)
    go false p = omega (arith, ints)

no_value : (i : ℕ) → pos 0 *ℤ pos (10 ^ i) ≡ pos 0
no_value i = pos-*ℤ-pos 0 (10 ^ i) ∙ (omega (arith, ints))

pub zeros_are_one : (s t : List ℕ) → digits_of (parts_of s) ≡ [] → digits_of (parts_of t) ≡ [] → IsOneNumber s t
zeros_are_one s t none other = go (scale_of t -ℤ scale_of s) refl
  where
    both : (i j : ℕ) → coefficient_of s *ℤ pos (10 ^ i) ≡ coefficient_of t *ℤ pos (10 ^ j)
    both i j = ap (λ z. z *ℤ pos (10 ^ i)) (zero_value s none) ∙ no_value i ∙ sym (no_value j) ∙ ap (λ z. z *ℤ pos (10 ^ j)) (sym (zero_value t other))

    go : (d : ℤ) → scale_of t -ℤ scale_of s ≡ d → IsOneNumber s t
    go (pos n) is = record { power = scale_of s; i = 0; j = n; first = omega (arith, ints); second = omega (arith, ints, is); equal = both 0 n }
    go (negsuc n) is = record { power = scale_of t; i = suc n; j = 0; first = omega (arith, ints, is); second = omega (arith, ints); equal = both (suc n) 0 }

-- texts of the same digits, sign and point are one number
pub same_are_one : (s t : List ℕ) → digits_of (parts_of s) ≡ digits_of (parts_of t) → is_negative s ≡ is_negative t → point_of (parts_of s)
    ≡ point_of (parts_of t) → IsOneNumber s t
same_are_one s t digits sign places =
    let long : digit_count s ≡ digit_count t = ap length digits in
    let one = point_is s in
    let two = point_is t in
    record {
      power = scale_of s -ℤ pos (zeros_of t);
      i = zeros_of t;
      j = zeros_of s;
      first = omega (arith, ints);
      second = omega (arith, ints, one, two, places, long);
      equal = ap (λ z. z *ℤ pos (10 ^ zeros_of t)) (value_is s) ∙ times (is_negative s) (digits_value 10 (digits_of (parts_of s)) * 10 ^ zeros_of s)
          (10 ^ zeros_of t)
          ∙ ap (signed (is_negative s)) (mul_right_comm (digits_value 10 (digits_of (parts_of s))) (10 ^ zeros_of s) (10 ^ zeros_of t))
          ∙ ap₂ (λ b ds. signed b (digits_value 10 ds * 10 ^ zeros_of t * 10 ^ zeros_of s)) sign digits
          ∙ sym (times (is_negative t) (digits_value 10 (digits_of (parts_of t)) * 10 ^ zeros_of t) (10 ^ zeros_of s))
          ∙ ap (λ z. z *ℤ pos (10 ^ zeros_of s)) (sym (value_is t));
    }

-- texts that are one number have the same digits, sign and point
pub record IsAlike (s t : List ℕ) : Type 0 where
  pub digits : digits_of (parts_of s) ≡ digits_of (parts_of t)
  pub sign : is_negative s ≡ is_negative t
  pub point : point_of (parts_of s) ≡ point_of (parts_of t)

scaled : (text : List ℕ) (i : ℕ) → coefficient_of text *ℤ pos (10 ^ i)
    ≡ signed (is_negative text) (digits_value 10 (digits_of (parts_of text)) * 10 ^ (zeros_of text + i))
scaled text i =
    let v = digits_value 10 (digits_of (parts_of text)) in
    ap (λ z. z *ℤ pos (10 ^ i)) (value_is text) ∙ times (is_negative text) (v * 10 ^ zeros_of text) (10 ^ i)
    ∙ ap (signed (is_negative text)) (mul_assoc v (10 ^ zeros_of text) (10 ^ i) ∙ ap (λ p. v * p) (sym (pow-add 10 (zeros_of text) i)))

some_value : (ds : List ℕ) (k : ℕ) → IsTrimmed ds → 0 < digits_value 10 ds * 10 ^ k
some_value ds k t = let some = last_value ds t in let ten = one-le-pow k 10 (omega arith) in grind (arith, common_steps, some, ten)

pub one_are_alike : (s t : List ℕ) → IsTrimmed (digits_of (parts_of s)) → IsTrimmed (digits_of (parts_of t)) → IsOneNumber s t → IsAlike s t
one_are_alike s t trimmed_s trimmed_t one =
    let equal = sym (scaled s one.i) ∙ one.equal ∙ scaled t one.j in
    let parts = same_signed (is_negative s) (is_negative t) _ _ (some_value (digits_of (parts_of s)) (zeros_of s + one.i) trimmed_s) equal in
    let same = same_number (digits_of (parts_of s)) (digits_of (parts_of t)) (zeros_of s + one.i) (zeros_of t + one.j) trimmed_s trimmed_t parts.size in
    let long : digit_count s ≡ digit_count t = ap length same.digits in
    record {
      digits = same.digits;
      sign = parts.sign;
      point = omega (arith, ints, point_is s, point_is t, one.first, one.second, same.zeros, long);
    }

not_nothing : (b : Bool) (m : ℕ) → 0 < m → signed b m ≡ pos 0 → ⊥
not_nothing true m some is = omega (arith, ints, some, is)
not_nothing false m some is = omega (arith, ints, some, is)

-- a number that isn't 0 is not one with 0
pub zero_is_apart : (s t : List ℕ) (i j : ℕ) → digits_of (parts_of s) ≡ [] → IsTrimmed (digits_of (parts_of t)) → coefficient_of s *ℤ pos (10 ^ i)
    ≡ coefficient_of t *ℤ pos (10 ^ j) → ⊥
zero_is_apart s t i j none trimmed_t equal =
    let nothing : coefficient_of s *ℤ pos (10 ^ i) ≡ pos 0 = ap (λ z. z *ℤ pos (10 ^ i)) (zero_value s none) ∙ no_value i in
    not_nothing (is_negative t) (digits_value 10 (digits_of (parts_of t)) * 10 ^ (zeros_of t + j)) (some_value (digits_of (parts_of t))
    (zeros_of t + j) trimmed_t)
    (sym (scaled t j) ∙ sym equal ∙ nothing)
