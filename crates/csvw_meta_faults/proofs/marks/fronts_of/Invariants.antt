-- The set has the fronts of the first faults.
use Rattle.std.proofs.Common.{◌≡◌, ℕ, List, take}
use Rattle.std.specs.BTreeSet.{contains_text}
use Rattle.std.specs.List.{list_any}
use Rattle.csvw_meta_core.specs.Rules.{is_within}
use Rattle.csvw_meta_faults.proofs.marks.fronts_of.Given as goal

abbrev pub invariant-loop-fault : goal.invariant-loop-fault
invariant-loop-fault l = (p : List ℕ) → contains_text l.fronts p ≡ list_any (is_within p) (take l.fault-index l.faults)
