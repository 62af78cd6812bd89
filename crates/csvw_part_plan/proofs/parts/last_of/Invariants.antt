-- So far the last piece of the table among the first pieces was found.
use Rattle.std.proofs.Common.{◌≡◌, take}
use Rattle.csvw_part_plan.specs.Plans.{last_of}
use Rattle.csvw_part_plan.proofs.parts.last_of.Given as goal

abbrev pub invariant-loop-piece : goal.invariant-loop-piece
invariant-loop-piece l = l.last ≡ last_of l.table (take l.piece-index l.pieces)
