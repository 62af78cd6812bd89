-- The groups so far, with the characters that are left, are those of the whole text.
use Rattle.std.proofs.Common.{◌≡◌, List, ℕ, ◌++◌}
use Rattle.csvw_datatype_core.specs.NumberPatterns.{runs, no_runs}
use Rattle.csvw_datatype_core.proofs.number_pattern.runs_of.Given as goal

abbrev pub invariant-loop-c : goal.invariant-loop-c
invariant-loop-c l = (tail : List ℕ) → runs l.rules l.groups tail ≡ runs l.rules no_runs (l.yielded ++ tail)
