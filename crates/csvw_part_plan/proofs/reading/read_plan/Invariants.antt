-- So far the text is the heading and the lines of pieces that tile the fronts of files.
use Rattle.std.proofs.Common.{◌≡◌, ◌++◌, length, flat_map}
use Rattle.std.specs.List.{All}
use Rattle.csvw_part_plan.specs.Plans.{Fits, TileFront, heading, line}
use Rattle.csvw_part_plan.proofs.reading.read_plan.Given as goal

abbrev pub invariant-loop-rest : goal.invariant-loop-rest
invariant-loop-rest l = record {
  is_text : l.text ≡ heading ++ flat_map line l.pieces ++ l.rest;
  fit : All Fits l.pieces;
  tile : TileFront l.pieces;
}

abbrev pub decreases-loop-rest : goal.decreases-loop-rest
decreases-loop-rest l = length l.rest
