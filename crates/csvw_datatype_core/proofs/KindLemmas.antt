-- The kind of each character of a number.
use Rattle.std.proofs.Common.{◌≡◌, ◌≢◌, ℕ, ◌-◌, refl, ap, subst, ◌∙◌, true, false, Option, Some, ⊎_elim, arith, ◌&&◌, ◌==◌, IfSome}
use Rattle.std.specs.Char.{is_ascii_digit, IsAsciiDigit}
use Rattle.std.proofs.lemmas.Bool.{cond-true, cond-false, cases_Bool}
use Rattle.std.proofs.lemmas.Bool.Decides.{nat_tests}
use Rattle.csvw_datatype_core.specs.declared.number.NumberRules.{NumberRules}
use Rattle.csvw_datatype_core.specs.declared.number.Kind.TheVariants as kinds
use Rattle.csvw_datatype_core.specs.Scan.{kind_of, holds}
use Rattle.csvw_datatype_core.specs.Numbers.{IsFree, IsLawful}
use Rattle.csvw_datatype_core.proofs.Accepts.{holds-some}

pub digit_test : (c : ℕ) → IsAsciiDigit c → is_ascii_digit c ≡ true
digit_test c h = grind (arith, nat_tests)

pub no_digit_test : (c : ℕ) → (IsAsciiDigit c → ⊥) → is_ascii_digit c ≡ false
no_digit_test c h = ⊎_elim (λ (e : is_ascii_digit c ≡ true). absurd (h (grind (arith, nat_tests)))) (λ (e : is_ascii_digit c ≡ false). e)
    (cases_Bool (is_ascii_digit c))

other : (c d : ℕ) → c ≢ d → (c == d) ≡ false
other c d n = grind (arith, nat_tests)

pub kind_digit : (rules : NumberRules) (c : ℕ) → IsAsciiDigit c → kind_of rules c ≡ kinds.Digit (c - 48)
unfolding kind_of
kind_digit rules c h = cond-true _ _ _ (digit_test c h)

holds_same : (o : Option ℕ) (c : ℕ) → o ≡ Some c → holds o c ≡ true
holds_same o c e = ap (λ o. holds o c) e ∙ grind (arith, nat_tests)

holds_not : (o : Option ℕ) (c : ℕ) → (o ≡ Some c → ⊥) → holds o c ≡ false
holds_not o c h = ⊎_elim (λ (e : holds o c ≡ true). absurd (h (holds-some o c e))) (λ (e : holds o c ≡ false). e) (cases_Bool (holds o c))

pub free : (o : Option ℕ) (c : ℕ) → IfSome o IsFree → o ≡ Some c → IsFree c
free o c h e = let P : Option ℕ → Type 0 = λ o. IfSome o IsFree in subst P e h

pub kind_point : (rules : NumberRules) (c : ℕ) → IsLawful rules → rules.decimal_char ≡ Some c → kind_of rules c ≡ kinds.Point
unfolding kind_of
kind_point rules c l e =
    let f = free _ c l.decimal_char e in
    cond-false _ _ _ (no_digit_test c f.no_digit)
    ∙ cond-false _ _ _ (other c 43 f.no_plus)
    ∙ cond-false _ _ _ (other c 45 f.no_minus)
    ∙ cond-true _ _ _ (holds_same _ c e)

pub kind_group : (rules : NumberRules) (c : ℕ) → IsLawful rules → rules.group_char ≡ Some c → kind_of rules c ≡ kinds.Group
unfolding kind_of
kind_group rules c l e =
    let f = free _ c l.group_char e in
    cond-false _ _ _ (no_digit_test c f.no_digit)
    ∙ cond-false _ _ _ (other c 43 f.no_plus)
    ∙ cond-false _ _ _ (other c 45 f.no_minus)
    ∙ cond-false _ _ _ (holds_not _ c (λ p. l.differ c p e))
    ∙ cond-true _ _ _ (holds_same _ c e)

pub kind_percent : (rules : NumberRules) → IsLawful rules → rules.allows_marks ≡ true → kind_of rules 37 ≡ kinds.Percent
unfolding kind_of
kind_percent rules l e =
    cond-false _ _ _ (holds_not rules.decimal_char 37 (λ p. (free _ 37 l.decimal_char p).no_percent refl))
    ∙ cond-false _ _ _ (holds_not rules.group_char 37 (λ p. (free _ 37 l.group_char p).no_percent refl))
    ∙ cond-true _ _ _ (ap (λ b. b && true) e)

pub kind_per_mille : (rules : NumberRules) → IsLawful rules → rules.allows_marks ≡ true → kind_of rules 0x2030 ≡ kinds.PerMille
unfolding kind_of
kind_per_mille rules l e =
    cond-false _ _ _ (holds_not rules.decimal_char 0x2030 (λ p. (free _ 0x2030 l.decimal_char p).no_per_mille refl))
    ∙ cond-false _ _ _ (holds_not rules.group_char 0x2030 (λ p. (free _ 0x2030 l.group_char p).no_per_mille refl))
    ∙ cond-false _ _ _ (ap (λ b. b && false) e)
    ∙ cond-true _ _ _ (ap (λ b. b && true) e)

pub kind_plus : (rules : NumberRules) → kind_of rules 43 ≡ kinds.Plus
unfolding kind_of
kind_plus rules = refl

pub kind_minus : (rules : NumberRules) → kind_of rules 45 ≡ kinds.Minus
unfolding kind_of
kind_minus rules = refl
