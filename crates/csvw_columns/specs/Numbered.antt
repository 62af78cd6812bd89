-- Tables have numbers from 1, in their order: `are_numbered` (Model for Tabular Data, section 4.2).
use Rattle.std.specs.Prelude.{◌+◌, ◌==◌, ◌&&◌, ℕ, Bool, true, List, [], ◌∷◌}
use Rattle.csvw_columns.specs.declared.plan.TablePlan.{TablePlan}

-- whether tables have the numbers from n on
abbrev pub are_numbered : ℕ → List TablePlan → Bool
are_numbered n [] = true
are_numbered n (plan ∷ plans) = (plan.number == n) && are_numbered (n + 1) plans
