-- A symbol of the whole part, and what is left after it.
use Rattle.std.proofs.Common.{◌≡◌, refl, sym, ap, ◌∙◌, ℕ, suc, ◌∷◌, ◌++◌, List, Bool, true, false, if◌then◌else◌}
use Rattle.csvw_datatype_core.specs.declared.number.NumberRules.{NumberRules}
use Rattle.csvw_datatype_core.specs.declared.number_pattern.NumberPattern.{NumberPattern}
use Rattle.csvw_datatype_core.specs.NumberPatterns.{after_whole, group_of, is_boundary, left, symbol, symbols, whole_symbols}
use Rattle.csvw_datatype_core.proofs.number_pattern.NumberPattern.whole_next.Goals as goal

appended : (b : Bool) (g : ℕ) (xs ys : List ℕ) → (if b then g ∷ xs else xs) ++ ys ≡ (if b then g ∷ (xs ++ ys) else xs ++ ys)
appended true g xs ys = refl
appended false g xs ys = refl

stepped : (rules : NumberRules) (p : NumberPattern) (n : ℕ)
    → symbols rules p (suc n) ≡ symbol n p.least_whole ∷ (if is_boundary p.groups n then group_of rules ∷ symbols rules p n else symbols rules p n)
stepped rules p n = ap (λ xs. symbol n p.least_whole ∷ xs) (appended (is_boundary p.groups n) (group_of rules) (whole_symbols rules p n) (after_whole rules p))

pub returns : goal.returns
returns c rules =
    stepped rules c.args.self.now c.args.places ∙ ap (λ xs. symbol c.args.places c.args.self.now.least_whole ∷ xs) (sym (c.before-2.ensures rules))
    ∙ ap (λ s. s ∷ left rules c.args.self.now c.before-2.result) (sym c.symbol.ensures)
