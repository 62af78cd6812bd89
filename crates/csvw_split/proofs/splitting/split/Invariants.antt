-- The files before this one were cut, and the others were not read.
use Rattle.std.proofs.Common.{◌≡◌, ◌≤◌, ℕ, length, Some}
use Rattle.std.specs.Prelude.{slice_get}
use Rattle.csvw_part_plan.specs.Plans.{TileFront}
use Rattle.csvw_split.specs.Split.{AreCuts, HaveFronts}
use Rattle.csvw_split.proofs.SplitLemmas.{EndBefore, NumbersBefore}
use Rattle.csvw_split.proofs.splitting.split.Given as goal

abbrev pub invariant-loop-i : goal.invariant-loop-i
invariant-loop-i g l = record {
  lengths : length l.files ≡ length l.initial.files;
  untouched : (j : ℕ) (f : _) → l.i ≤ j → slice_get l.files j ≡ Some f → slice_get l.initial.files j ≡ Some f;
  tiles : TileFront l.pieces.pieces;
  cuts : AreCuts g.R.Read.remaining l.tables l.initial.files l.pieces.pieces;
  fronts : HaveFronts g.R.Read.remaining l.tables l.initial.files l.pieces.pieces;
  ends : EndBefore g.R.Read.remaining l.tables l.initial.files l.i l.pieces.pieces;
  numbers : NumbersBefore g.R.Read.remaining l.tables l.initial.files l.i;
}
