-- Both numbers are 0, or one is, or both are read back from their canonical texts.
use Rattle.std.proofs.Common.{◌≡◌, ◌∙◌, ℕ, ◌<◌, ◌&&◌, true, false, Bool, List, [], ◌∷◌, length, nat_lt, Some, None, unwrap_or, arith, ap, refl, sym, subst}
use Rattle.std.proofs.Common.{if◌then◌else◌, pos, ◌-ℤ◌, ◌^◌, ◌↔◌}
use Rattle.std.specs.Float.Numeral.{scan_numeral}
use Rattle.std.specs.Str.Parse.{digits_value}
use Rattle.csvw_double.specs.Doubles.{digits_of, is_negative, is_number, is_short, is_within, parts_of, point_of}
use Rattle.csvw_double.specs.Forms.{number_form, number_of}
use Rattle.csvw_double.specs.Values.{IsOneNumber}
use Rattle.csvw_double.proofs.CanonicalLemmas.{IsBack, reads_back}
use Rattle.csvw_double.proofs.EqualLemmas.{IsNumberText, one_are_alike, same_are_one, trimmed_digits, zero_is_apart, zeros_are_one}
use Rattle.csvw_double.proofs.StayLemmas.{IsTrimmed}
use Rattle.csvw_double.proofs.laws.equal_doubles.Goals as goal

inside : (x y : List ℕ) → Some x ≡ Some y → x ≡ y
inside x y e = ap (λ o. unwrap_or o []) e

second : (a b : Bool) → (a && b) ≡ true → b ≡ true
second true b e = e
second false b e = cc

number_text : (text form : List ℕ) → number_of text ≡ Some form → IsNumberText text form
number_text text form is = go (is_number text && is_short text) refl is
  where
    go : (b : Bool) → (is_number text && is_short text) ≡ b
        → (if b then Some (number_form (is_negative text) (digits_of (parts_of text)) (point_of (parts_of text))) else None) ≡ Some form
        → IsNumberText text form
    go true both e = record {
      form_is = sym (inside _ form e);
      near = second (nat_lt (digits_value 10 (parts_of text).exponent) (10 ^ 18)) (is_within (point_of (parts_of text) -ℤ pos 1))
          (second (is_number text) (is_short text) both);
    }
    go false both e = cc

-- the digits of a text are none, or trimmed
data Digits (text : List ℕ) : Type 0 where
  Nothing : digits_of (parts_of text) ≡ [] → Digits text
  Trimmed : IsTrimmed (digits_of (parts_of text)) → Digits text

digits : (text : List ℕ) → Digits text
digits text = go (digits_of (parts_of text)) refl
  where
    go : (ds : List ℕ) → digits_of (parts_of text) ≡ ds → Digits text
    go [] is = Nothing is
    go (d ∷ ds) is = Trimmed (trimmed_digits text (subst (λ xs. 0 < length xs) (sym is) (omega arith)))

-- the canonical text of a number, by its digits
zero_form : (text form : List ℕ) → IsNumberText text form → digits_of (parts_of text) ≡ [] → form ≡ 48 ∷ []
zero_form text form n none = n.form_is ∙ ap (λ ds. number_form (is_negative text) ds (point_of (parts_of text))) none

read : (text form : List ℕ) → IsNumberText text form → IsTrimmed (digits_of (parts_of text))
    → IsBack form (digits_of (parts_of text)) (is_negative text) (point_of (parts_of text))
read text form n t = subst (λ x. IsBack x (digits_of (parts_of text)) (is_negative text) (point_of (parts_of text))) (sym n.form_is)
    (reads_back (is_negative text) (digits_of (parts_of text)) (point_of (parts_of text)) t n.near)

zero_digits : digits_of (parts_of (48 ∷ [])) ≡ []
unfolding scan_numeral
zero_digits = refl

-- 0 and another number have two canonical texts
apart : (s t x y : List ℕ) → IsNumberText s x → IsNumberText t y → digits_of (parts_of s) ≡ [] → IsTrimmed (digits_of (parts_of t)) → x ≡ y → ⊥
apart s t x y n m none trimmed same =
    let zero : y ≡ 48 ∷ [] = sym same ∙ zero_form s x n none in
    let empty : digits_of (parts_of t) ≡ [] = sym (read t y m trimmed).digits ∙ ap (λ text. digits_of (parts_of text)) zero ∙ zero_digits in
    omega (arith, trimmed.some, ap length empty)

equal : (s t x y : List ℕ) → IsNumberText s x → IsNumberText t y → Digits s → Digits t → (x ≡ y) ↔ IsOneNumber s t
equal s t x y n m (Nothing none) (Nothing other) = (λ same. zeros_are_one s t none other, λ one. zero_form s x n none ∙ sym (zero_form t y m other))
equal s t x y n m (Nothing none) (Trimmed trimmed) =
    (λ same. absurd (apart s t x y n m none trimmed same), λ one. absurd (zero_is_apart s t one.i one.j none trimmed one.equal))
equal s t x y n m (Trimmed trimmed) (Nothing none) =
    (λ same. absurd (apart t s y x m n none trimmed (sym same)), λ one. absurd (zero_is_apart t s one.j one.i none trimmed (sym one.equal)))
equal s t x y n m (Trimmed trimmed) (Trimmed other) = (to, from)
  where
    to : x ≡ y → IsOneNumber s t
    to same =
        let one = read s x n trimmed in
        let two = read t y m other in
        same_are_one s t (sym one.digits ∙ ap (λ text. digits_of (parts_of text)) same ∙ two.digits) (sym one.sign ∙ ap is_negative same ∙ two.sign)
        (sym one.point_is ∙ ap (λ text. point_of (parts_of text)) same ∙ two.point_is)

    from : IsOneNumber s t → x ≡ y
    from one =
        let alike = one_are_alike s t trimmed other one in
        n.form_is ∙ ap (λ b. number_form b (digits_of (parts_of s)) (point_of (parts_of s))) alike.sign
        ∙ ap (λ ds. number_form (is_negative t) ds (point_of (parts_of s))) alike.digits
        ∙ ap (λ z. number_form (is_negative t) (digits_of (parts_of t)) z) alike.point ∙ sym m.form_is

pub returns : goal.returns
returns c s t x y is other = equal s t x y (number_text s x is) (number_text t y other) (digits s) (digits t)
