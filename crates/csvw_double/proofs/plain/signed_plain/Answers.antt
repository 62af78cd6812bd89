-- The digits and the sign are those of the text.
use Rattle.std.proofs.Common.{◌∙◌, refl}
use Rattle.csvw_double.proofs.QuickLemmas.{plain_number}
use Rattle.csvw_double.proofs.plain.signed_plain.Goals as goal
use Rattle.csvw_double.proofs.plain.signed_plain.Goals.{then-is_negative, else-is_negative}

pub returns : goal.returns
returns c =
    plain_number c.args.is_negative c.args.text.now c.in_ok-all.all _ c.in_ok-all.ensures c.after_zeros.ensures refl
    (elim c.if-is_negative.branch [
      | then-is_negative w ↦ rw w.if-is_negative.true (w.result-is ∙ w.has_value.ensures)
      | else-is_negative w ↦ rw w.if-is_negative.false (w.result-is ∙ w.if-is_negative.false)
    ])
