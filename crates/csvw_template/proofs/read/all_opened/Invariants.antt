use Rattle.std.proofs.Common.{◌≡◌, drop, map}
use Rattle.csvw_template.specs.Reading.{all_opened}
use Rattle.csvw_template.proofs.Loop.{with_front}
use Rattle.csvw_template.proofs.read.all_opened.Given as goal

abbrev pub invariant-loop-piece : goal.invariant-loop-piece
invariant-loop-piece l =
    with_front l.parts.items (all_opened (map (λ x. x.now) (drop l.piece-index l.pieces))) ≡ all_opened (map (λ x. x.now) l.pieces)
