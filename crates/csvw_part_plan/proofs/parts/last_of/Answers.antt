-- The last piece is this one, if it is of the table, or the one before.
use Rattle.std.proofs.Common.{◌≡◌, ◌==◌, ◌∙◌, true, false, sym, ap, arith, cond, get_or, take, Bool, Some}
use Rattle.std.proofs.lemmas.Bool.Decides.{nat_tests}
use Rattle.csvw_part_plan.specs.Plans.{last_of}
use Rattle.csvw_part_plan.proofs.LastPiece.{last_of_more, no_piece}
use Rattle.csvw_part_plan.proofs.parts.last_of.Goals.{then-piece-table, else-piece-table}
use Rattle.csvw_part_plan.proofs.parts.last_of.Goals as goal

pub loop-piece-preserved : goal.loop-piece-preserved
loop-piece-preserved c =
    let here = get_or c.args.pieces.now c.loop-piece.piece-index no_piece in
    let more = last_of_more c.args.table c.args.pieces.now c.loop-piece.piece-index no_piece (omega arith) in
    let both = λ (b : Bool). cond b (Some here) (last_of c.args.table (take c.loop-piece.piece-index c.args.pieces.now)) in
    elim c.if-piece-table.branch [
      | then-piece-table w ↦
          let passes : (here.table == c.args.table) ≡ true = grind (arith, nat_tests) in
          w.last-is ∙ sym (more ∙ ap both passes)
      | else-piece-table w ↦
          let fails : (here.table == c.args.table) ≡ false = grind (arith, nat_tests) in
          w.last-is ∙ (c.loop-piece.invariant ∙ sym (more ∙ ap both fails))
    ]
