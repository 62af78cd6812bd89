-- None of the tables passed so far is open.
use Rattle.std.proofs.Common.{◌≡◌, ◌<◌, ◌≤◌, ℕ, true, Some}
use Rattle.std.specs.Prelude.{slice_get}
use Rattle.csvw_engine.proofs.turns.open_from.Given as goal

abbrev pub invariant-loop-i : goal.invariant-loop-i
invariant-loop-i l = (i : ℕ) → l.initial.from ≤ i → i < l.i → slice_get l.going i ≡ Some true → ⊥
