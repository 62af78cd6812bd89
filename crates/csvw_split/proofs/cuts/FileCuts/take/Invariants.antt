-- The bytes in front of the rest were read, and the rest fits the file.
use Rattle.std.proofs.Common.{◌≡◌, ◌≤◌, ◌++◌, ℕ, List, length}
use Rattle.csvw_columns.specs.declared.plan.TablePlan.{TablePlan}
use Rattle.csvw_split.specs.Cuts.{Cuts, left_of}
use Rattle.csvw_split.proofs.cuts.FileCuts.take.Given as goal

abbrev pub invariant-loop-rest : goal.invariant-loop-rest
invariant-loop-rest l = record {
  fits : length l.rest ≤ left_of l.self;
  front : List ℕ;
  parts : l.piece ≡ front ++ l.rest;
  cuts : (t : TablePlan) (text : List ℕ) → Cuts l.initial.self t text → Cuts l.self t (text ++ front);
}

abbrev pub decreases-loop-rest : goal.decreases-loop-rest
decreases-loop-rest l = length l.rest
