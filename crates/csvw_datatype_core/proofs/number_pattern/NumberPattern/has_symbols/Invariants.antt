-- What is left of the characters is compared with what is left of the pattern.
use Rattle.std.proofs.Common.{◌≡◌, List, ℕ, ◌++◌, map, Some}
use Rattle.csvw_datatype_core.specs.declared.number_pattern.Left.TheVariants as lefts
use Rattle.csvw_datatype_core.specs.NumberPatterns.{as_symbol, is_left}
use Rattle.csvw_datatype_core.proofs.number_pattern.NumberPattern.has_symbols.Given as goal

abbrev pub invariant-loop-c : goal.invariant-loop-c
invariant-loop-c l = (tail : List ℕ)
    → is_left l.rules l.self l.rest (map as_symbol tail) ≡ is_left l.rules l.self (Some (lefts.Whole l.whole)) (map as_symbol (l.yielded ++ tail))
