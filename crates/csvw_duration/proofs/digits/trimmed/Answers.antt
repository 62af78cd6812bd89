-- A zero at the end is left out, and another digit stays.
use Rattle.std.proofs.Common.{◌≡◌, ℕ, List, [], ◌∷◌, ◌++◌, false, ◌==◌, sym, subst, ap, ◌∙◌, arith}
use Rattle.std.specs.Str.{IsAscii}
use Rattle.std.proofs.lemmas.Bool.Decides.{nat_tests}
use Rattle.csvw_duration.specs.Digits.{IsFraction, trimmed}
use Rattle.csvw_duration.proofs.DigitLemmas.{front_is_ascii, trimmed_fraction, trimmed_other, trimmed_zero}
use Rattle.csvw_duration.proofs.digits.trimmed.Goals as goal

pub loop-last-preserved : goal.loop-last-preserved
loop-last-preserved c =
    let rest = c.in-Some.rest.now in
    let split : c.loop-last.kept.now ≡ rest ++ (48 ∷ []) = c.in-Some.ensures.cases.0 ∙ ap (λ b. rest ++ (b ∷ [])) c.if-last-eq48.true in
    let P : List ℕ → Type 0 = λ l. IsAscii l in (
      sym (trimmed_zero rest) ∙ ap (λ l. trimmed l) (sym split) ∙ c.loop-last.invariant.0,
      λ h. front_is_ascii rest (48 ∷ []) (subst P split (c.loop-last.invariant.1 h)),
    )

pub returns-in_default-clause-digits : goal.returns-in_default-clause-digits
returns-in_default-clause-digits c =
    let rest = c.in-Some.rest.now in
    let last = c.in-Some.last.now in
    let split : c.loop-last.kept.now ≡ rest ++ (last ∷ []) = c.in-Some.ensures.cases.0 in
    let other : (last == 48) ≡ false = grind (arith, nat_tests, c.if-last-eq48.false) in
    split ∙ sym (trimmed_other last rest other) ∙ ap (λ l. trimmed l) (sym split) ∙ c.loop-last.invariant.0

pub returns-in_default-clause-fraction : goal.returns-in_default-clause-fraction
returns-in_default-clause-fraction c =
    λ h. subst (λ l. IsFraction l) (sym (returns-in_default-clause-digits c)) (trimmed_fraction c.args.digits.now h)
