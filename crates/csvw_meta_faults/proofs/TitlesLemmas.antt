-- The titles that are seen already, and those that are seen next.
use Rattle.std.proofs.Common.{ℕ, List, ◌++◌}
use Rattle.csvw_meta.specs.Titles.{Sorted}

abbrev pub with_fronts : List (List ℕ) → List (List ℕ) → Sorted → Sorted
with_fronts first others s = record { first = first ++ s.first; others = others ++ s.others }
