-- So far the pieces before some cuts were added; the next piece begins at the start or at the last of these cuts.
use Rattle.std.proofs.Common.{◌≡◌, ℕ, List, Option}
use Rattle.csvw_columns.specs.declared.plan.TablePlan.{TablePlan}
use Rattle.csvw_part_plan.specs.Plans.{TileFront}
use Rattle.csvw_split.specs.Adding.{Adds, AreCutsOf}
use Rattle.csvw_split.proofs.SplitLemmas.{BeginsAt}
use Rattle.csvw_split.proofs.pieces.Pieces.add.Given as goal

abbrev pub invariant-loop-cut : goal.invariant-loop-cut
invariant-loop-cut l = record {
  adds : (t : TablePlan) (known : Option (List ℕ)) → t.number ≡ l.table → AreCutsOf t known l.whole → Adds t known l.initial.self.pieces l.self.pieces;
  tiles : TileFront l.initial.self.pieces → TileFront l.self.pieces;
  begins : (t : TablePlan) (known : Option (List ℕ)) → AreCutsOf t known l.whole → BeginsAt t known l.whole.header_bytes l.begin;
}
