-- The pieces before this one are not the one that is looked for.
use Rattle.std.proofs.Common.{sym, ◌∙◌, arith}
use Rattle.csvw_part_plan.specs.Plans.{is_later}
use Rattle.csvw_part_plan.proofs.LastPiece.{find_here, find_on, no_piece}
use Rattle.csvw_part_plan.proofs.parts.next_piece.Goals as goal

pub returns-then-is_later : goal.returns-then-is_later
returns-then-is_later c =
    sym (find_here (is_later c.args.before.now) c.args.pieces.now c.loop-piece.piece-index no_piece (omega arith) c.loop-piece.invariant
    (sym c.is_later.ensures ∙ c.if-is_later.true))

pub loop-piece-preserved : goal.loop-piece-preserved
loop-piece-preserved c =
    find_on (is_later c.args.before.now) c.args.pieces.now c.loop-piece.piece-index no_piece (omega arith) c.loop-piece.invariant
    (sym c.is_later.ensures ∙ c.if-is_later.false)
