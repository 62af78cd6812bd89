-- Laws of the pass.
use Rattle.std.proofs.Common.{◌≡◌, ℕ, List, [], ◌∷◌, ◌++◌, refl}
use Rattle.csvw_datatype_core.specs.declared.number.NumberRules.{NumberRules}
use Rattle.csvw_datatype_core.specs.declared.number.Scan.{Scan}
use Rattle.csvw_datatype_core.specs.Step.{step, run}

pub run-append : (rules : NumberRules) (s : Scan) (cs ds : List ℕ) → run rules s (cs ++ ds) ≡ run rules (run rules s cs) ds
run-append rules s [] ds = refl
run-append rules s (c ∷ cs) ds = run-append rules (step rules s c) cs ds
