-- The test of a format's characters is right.
use Rattle.std.proofs.Common.{◌≡◌, ◌≢◌, ◌↔◌, ℕ, Bool, true, false, Option, Some, None, refl, sym, ap, ◌∙◌, arith, ◌&&◌, IfSome, IsTrue}
use Rattle.std.proofs.lemmas.Bool.Decides.{nat_tests}
use Rattle.csvw_datatype_core.specs.declared.number.NumberRules.{NumberRules}
use Rattle.csvw_datatype_core.specs.Numbers.{IsFree, IsLawful}
use Rattle.csvw_datatype_core.specs.Lawful.{is_free, is_free_option, differ}

free_of : (c : ℕ) → is_free c ≡ true → IsFree c
free_of c h = record {
  no_digit = grind (arith, nat_tests);
  no_plus = grind (arith, nat_tests);
  no_minus = grind (arith, nat_tests);
  no_percent = grind (arith, nat_tests);
  no_per_mille = grind (arith, nat_tests);
  no_tab = grind (arith, nat_tests);
  no_line_feed = grind (arith, nat_tests);
  no_carriage_return = grind (arith, nat_tests);
}

of_free : (c : ℕ) → IsFree c → is_free c ≡ true
of_free c h =
    let a = h.no_digit in
    let b = h.no_plus in
    let d = h.no_minus in
    let e = h.no_percent in
    let f = h.no_per_mille in
    let g = h.no_tab in
    let i = h.no_line_feed in
    let j = h.no_carriage_return in
    grind (arith, nat_tests)

free_option_of : (o : Option ℕ) → is_free_option o ≡ true → IfSome o IsFree
free_option_of None h = tt
free_option_of (Some c) h = free_of c h

of_free_option : (o : Option ℕ) → IfSome o IsFree → is_free_option o ≡ true
of_free_option None h = refl
of_free_option (Some c) h = of_free c h

differ_of : (a b : Option ℕ) → differ a b ≡ true → (c : ℕ) → a ≡ Some c → b ≡ Some c → ⊥
differ_of (Some x) (Some y) h c p q =
    let e : x ≡ c = cc in
    let f : y ≡ c = cc in
    grind (arith, nat_tests)
differ_of (Some x) None h c p q = cc
differ_of None b h c p q = cc

of_differ : (a b : Option ℕ) → ((c : ℕ) → a ≡ Some c → b ≡ Some c → ⊥) → differ a b ≡ true
of_differ (Some x) (Some y) h =
    let n : x ≢ y = λ e. h x refl (ap Some (sym e)) in
    grind (arith, nat_tests)
of_differ (Some x) None h = refl
of_differ None b h = refl

both : (a b : Bool) → (a && b) ≡ true → (a ≡ true) × (b ≡ true)
both true b h = (refl, h)
both false b h = cc

and_true : (a b : Bool) → a ≡ true → b ≡ true → (a && b) ≡ true
and_true a b p q = rw (p, q) refl

abbrev free : NumberRules → Bool
free rules = is_free_option rules.decimal_char && is_free_option rules.group_char

free_lawful : (rules : NumberRules) → IsLawful rules → free rules ≡ true
free_lawful rules l = and_true _ _ (of_free_option _ l.decimal_char) (of_free_option _ l.group_char)

-- where both are free, they are lawful where they differ
pub lawful : (rules : NumberRules) (b : Bool) → free rules ≡ true → b ≡ differ rules.decimal_char rules.group_char → IsTrue b ↔ IsLawful rules
lawful rules b h e =
    let f = both (is_free_option rules.decimal_char) (is_free_option rules.group_char) h in (
      λ t. record { decimal_char = free_option_of _ f.0; group_char = free_option_of _ f.1; differ = differ_of _ _ (sym e ∙ t) },
      λ l. e ∙ of_differ _ _ l.differ,
    )

-- where they aren't, they aren't lawful
pub unlawful : (rules : NumberRules) (b : Bool) → free rules ≡ false → b ≡ false → IsTrue b ↔ IsLawful rules
unlawful rules b h e = (λ t. absurd (cc), λ l. let f = free_lawful rules l in cc)
