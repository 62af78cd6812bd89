-- So far the pieces of the part among the first pieces were found.
use Rattle.std.proofs.Common.{◌≡◌, ◌==◌, take}
use Rattle.std.specs.List.{filter}
use Rattle.csvw_part_plan.proofs.parts.pieces_of.Given as goal

abbrev pub invariant-loop-piece : goal.invariant-loop-piece
invariant-loop-piece l = l.found ≡ filter (λ p. p.part == l.part) (take l.piece-index l.pieces)
